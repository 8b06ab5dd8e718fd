-- Which signals keep a number from one step to the next: registers, and latches (IEEE 1364.1-2002 sections 5.2 and 5.3).
-- Worked examples: crates/tests_rows/stdin.
use Rattle.std.specs.Prelude.{◌≡◌, ◌↔◌, ℕ, true, false, not, ◌&&◌, List, map, IsTrue}
use Rattle.std.specs.List.{list_any}
use Rattle.rtl_flat.specs.declared.expr.SigId.{SigId}
use Rattle.rtl_flat.specs.declared.signal.Kind.TheVariants.{Var}
use Rattle.rtl_flat.specs.Flows.{flow_of}
use Rattle.rtl_flat.specs.Paths.{BitSet, is_sure, may_write}
use Rattle.rtl_flat.specs.Process.{Doing, Assign, Comb, Edge', Task}
use Rattle.rtl_flat.specs.Signs.{Has}
use Rattle.event_model.specs.Queue.{is_input}
use Rattle.rtl_flat.specs.Flats.{Flat, widths}
use Rattle.net_model.specs.Solution.{IsLasting}
use Rattle.check_found.specs.rtl_scan.Arrows.{Among, AreRising}

-- ---- bits that are kept

-- whether a process may leave a bit as it was: one that waits for edges each bit that it may write, and a body without
-- edges each that it may write and that some path of it leaves
abbrev pub keeps : (ℕ → ℕ) → Doing → BitSet
keeps ws (Assign target value) s k = false
keeps ws (Comb list body) s k =
    may_write (flow_of ws (Comb list body)) s k && not (is_sure (flow_of ws (Comb list body)) s k)
keeps ws (Edge' events body) s k = may_write (flow_of ws (Edge' events body)) s k

-- whether some process does
abbrev pub is_kept : Flat → BitSet
is_kept d s k = list_any (λ (one : Task). keeps (widths d) one.does s k) d.tasks

-- a register or a latch: a variable of which a bit is kept, and that is no temporary
pub record IsStored (d : Flat) (s : ℕ) : Type 0 where
  pub variable : Has (λ signal. signal.kind ≡ Var) d.signals s
  pub bit : ℕ
  pub kept : is_kept d s bit ≡ true
  pub lasting : IsLasting d s

-- ---- lists of signals

-- all numbers of which something holds, in order, each once
pub record AreAll (P : ℕ → Type 0) (found : List ℕ) : Type 0 where
  pub rising : AreRising found
  pub each : (s : ℕ) → Among found s ↔ P s

-- the registers and latches of a design
abbrev pub AreStored : Flat → List ℕ → Type 0
AreStored d = AreAll (IsStored d)

-- its top inputs
abbrev pub AreInputs : Flat → List ℕ → Type 0
AreInputs d = AreAll (λ s. IsTrue (is_input d s))

-- the numbers of signals
abbrev pub places : List SigId → List ℕ
places signals = map (λ (signal : SigId). signal.0) signals
