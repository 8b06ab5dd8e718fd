-- Signals that may be unknown at rest, marked so that none of them decides what is done.
use Rattle.std.specs.Prelude.{◌≡◌, ℕ, Bool, true, List, Option, Some, IsTrue}
use Rattle.rtl_flat.specs.Expression.{Tree}
use Rattle.rtl_flat.specs.Flows.{flow_of}
use Rattle.rtl_flat.specs.Paths.{MayWrite, ReadsOutside}
use Rattle.rtl_flat.specs.Process.{Actions, Assign, Comb, Doing, Edge', Piece, Watched}
use Rattle.event_model.specs.Queue.{doing_at, is_input}
use Rattle.rtl_flat.specs.Flats.{Flat, widths}
use Rattle.event_model.specs.Traces.{Same}
use Rattle.event_model.specs.Writes.{Values}
use Rattle.event_covers.specs.Covers.{ArePlainActions, IsPlainTree, MayBe, body_choices}
use Rattle.net_model.specs.declared.fill.Fill.{Fill}
use Rattle.net_model.specs.Numbers.{AreNumbers, bit}
use Rattle.net_model.specs.Solution.{IsLasting, IsRegisterBit, IsSolution}
use Rattle.net_rest.specs.Rest.{AreHeld, IsHeldBit, IsIdle}

-- ---- marks

-- no condition, selector, label or left index of a body reads a marked signal, and no value that it assigns tells x from z
pub record IsMarked (d : Flat) (Doubt : ℕ → Type 0) (body : Actions) : Type 0 where
  pub decides : (i k : ℕ) → body_choices (widths d) body i k ≡ true → Doubt i → ⊥
  pub plain : ArePlainActions body

-- marks that spread with what processes read, and don't decide
pub record AreMarks (d : Flat) (Doubt : ℕ → Type 0) : Type 0 where
  -- what a process may write is marked if it reads a marked signal outside
  pub spreads :
      (p : ℕ) (does : Doing) → doing_at d p ≡ Some does →
      (j l i k : ℕ) → ReadsOutside (flow_of (widths d) does) j l → Doubt j → MayWrite (flow_of (widths d) does) i k → Doubt i
  pub nets : (p : ℕ) (target : List Piece) (e : Tree) → doing_at d p ≡ Some (Assign target e) → IsPlainTree e
  pub blocks :
      (p : ℕ) (list : Option (List Watched)) (body : Actions) → doing_at d p ≡ Some (Comb list body) → IsMarked d Doubt body
  pub clocked :
      (p : ℕ) (events : List Watched) (body : Actions) → doing_at d p ≡ Some (Edge' events body) → IsMarked d Doubt body

-- ---- values beside numbers

-- a bit is the number's if it is known, and in any case where its signal isn't marked
pub record Tells (Doubt : ℕ → Type 0) (v n : Values) (i k : ℕ) : Type 0 where
  pub may : MayBe (bit v i k) (bit n i k)
  pub same : (Doubt i → ⊥) → Same v n i k

-- values at rest tell a solution bit by bit, where inputs are its own, and bits of registers and of closed latches tell it
abbrev pub AtRestTell : Flat → (ℕ → Type 0) → Type 0
AtRestTell d Doubt =
    (f : Fill) (held given n given' v : Values) →
    AreNumbers d held → AreHeld d held given → IsSolution d f held given n → IsIdle d given' v →
    ((i : ℕ) → IsTrue (is_input d i) → v i ≡ n i) →
    ((i k : ℕ) → IsRegisterBit d i k → Tells Doubt v n i k) →
    ((i k : ℕ) → IsHeldBit d given i k → Tells Doubt v n i k) →
    (i k : ℕ) → IsLasting d i → Tells Doubt v n i k

-- whatever the marks are
abbrev pub RestsMay : Flat → Type 0
RestsMay d =
    (marked : ℕ → Bool) → AreMarks d (λ i. marked i ≡ true) → AtRestTell d (λ i. marked i ≡ true)
