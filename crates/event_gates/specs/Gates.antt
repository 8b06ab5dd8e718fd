-- Gates of latches in the queue: what is reached from them, and what a step does that closes them (IEEE 1364-2001 sections 5.4
-- and 12.3).
-- It serves inner contracts and proofs; no answer of the program is stated by it.
use Rattle.std.specs.Prelude.{◌≡◌, ℕ, true, [], ◌∷◌, Some, IsTrue}
use Rattle.rtl_bits.specs.declared.Bit.{Bit}
use Rattle.rtl_flat.specs.Flows.{flow_of, reads}
use Rattle.rtl_flat.specs.Paths.{MayWrite}
use Rattle.rtl_flat.specs.Process.{Actions, Assign, Comb, Doing, Edge'}
use Rattle.event_model.specs.Queue.{doing_at, is_input}
use Rattle.event_model.specs.Bodies.{body_made}
use Rattle.event_model.specs.Writes.{Values}
use Rattle.rtl_flat.specs.Flats.{Flat, widths}
use Rattle.event_edges.specs.event_laws.Steady.{HaveWidths}
use Rattle.net_model.specs.Control.{IsReached}
use Rattle.event_edges.specs.Synchronous.{IsPort, sensitive}

-- a body makes nothing while a signal has a bit
abbrev pub MakesNothing : Flat → ℕ → Bit → Actions → Type 0
MakesNothing d i b body =
    (v : Values) → HaveWidths d v → v i ≡ b ∷ [] → body_made (widths d) v body ≡ []

-- who may be sensitive to a signal while it has a bit: ports to which it goes on, and bodies that make nothing then
abbrev pub MayShut : Flat → Bit → Doing → ℕ → Type 0
MayShut d b (Assign target e) i = IsPort d target e i
MayShut d b (Comb list body) i = MakesNothing d i b body
MayShut d b (Edge' events body) i = ⊥

-- an input by which latches are closed while it has a bit
pub record IsShutter (d : Flat) (c : ℕ) (b : Bit) : Type 0 where
  pub input : IsTrue (is_input d c)
  pub one_bit : (i : ℕ) → IsReached d c i → widths d i ≡ 1
  pub heard :
      (p : ℕ) (does : Doing) → doing_at d p ≡ Some does →
      (i k : ℕ) → IsReached d c i → sensitive (widths d) does i k ≡ true → MayShut d b does i

-- an assignment of what is reached from an input alone
abbrev pub IsFeeding : Flat → ℕ → Doing → Type 0
IsFeeding d c (Assign target e) = (i k : ℕ) → reads (widths d) e i k ≡ true → IsReached d c i
IsFeeding d c (Comb list body) = ⊥
IsFeeding d c (Edge' events body) = ⊥

-- who may write what is reached from an input is a continuous assignment that reads such signals alone
abbrev pub AreFed : Flat → ℕ → Type 0
AreFed d c =
    (p : ℕ) (does : Doing) → doing_at d p ≡ Some does →
    (i k : ℕ) → IsReached d c i → MayWrite (flow_of (widths d) does) i k → IsFeeding d c does
