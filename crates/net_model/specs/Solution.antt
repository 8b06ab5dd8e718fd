-- The equations that synthesis makes of a design: they have no order of evaluation (IEEE 1364.1-2002 sections 5.1 to 5.3).
-- Worked examples: crates/sign_off/proofs/Example.antt.
use Rattle.std.specs.Prelude.{◌≡◌, ℕ, ◌<◌, true, false, cond, List, Option, Some, IsTrue}
use Rattle.rtl_bits.specs.Bits.{tabulate}
use Rattle.rtl_flat.specs.Expression.{Tree}
use Rattle.rtl_flat.specs.Flows.{body_flow, may_target}
use Rattle.rtl_flat.specs.Paths.{MayWrite, may_write}
use Rattle.rtl_flat.specs.PathSets.{IsTemporary, OfProcess}
use Rattle.rtl_flat.specs.Process.{Piece, Watched, Actions, Assign, Comb, Edge'}
use Rattle.event_model.specs.Queue.{doing_at, is_input}
use Rattle.rtl_flat.specs.Flats.{Flat, widths}
use Rattle.event_model.specs.Writes.{Values, driven}
use Rattle.net_model.specs.declared.fill.Fill.{Fill}
use Rattle.net_model.specs.Block.{block_bit}
use Rattle.net_model.specs.Numbers.{AreNumbers, bit, digits, fill_bit}

-- whether a signal keeps what it has from one run of its process to the next
abbrev pub IsLasting : Flat → ℕ → Type 0
IsLasting d i = IsTemporary d.signals d.tasks i → ⊥

-- a register bit: an `always` that waits for an edge may write it, and its variable is no temporary (section 5.2)
pub record IsRegisterBit (d : Flat) (i k : ℕ) : Type 0 where
  pub process : ℕ
  pub events : List Watched
  pub body : Actions
  pub does : doing_at d process ≡ Some (Edge' events body)
  pub may : MayWrite (body_flow (widths d) body) i k
  pub lasting : IsLasting d i

-- where the function of a body begins: with its own bits as they are held, and all others as they are. So a bit that some
-- path leaves keeps what it had, as a latch does (section 5.3)
abbrev pub start : Flat → Actions → Values → Values → Values
start d body held n i =
    tabulate (widths d i) (λ k. cond (may_write (body_flow (widths d) body) i k) (bit held i k) (bit n i k))

-- numbers that solve a design's equations, where `held` is what latches had, and `given` what inputs and registers are.
-- A bit of a temporary that its process may write may have any digit
pub record IsSolution (d : Flat) (f : Fill) (held given n : Values) : Type 0 where
  pub numbers : AreNumbers d n
  -- inputs are as given
  pub inputs : (i : ℕ) → IsTrue (is_input d i) → n i ≡ given i
  -- and so are register bits
  pub kept : (i k : ℕ) → IsRegisterBit d i k → bit n i k ≡ bit given i k
  -- the target of a continuous assignment has the number of its expression
  pub assigns :
      (p : ℕ) (target : List Piece) (e : Tree) →
      doing_at d p ≡ Some (Assign target e) →
      (i k : ℕ) → may_target (widths d) target i k ≡ true →
      bit n i k ≡ bit (driven (widths d) target (digits f n e)) i k
  -- a bit that an `always` without edges may write has what the function of the body gives to it
  pub blocks :
      (p : ℕ) (list : Option (List Watched)) (body : Actions) →
      doing_at d p ≡ Some (Comb list body) →
      (i k : ℕ) → MayWrite (body_flow (widths d) body) i k → IsLasting d i →
      bit n i k ≡ block_bit (widths d) f (start d body held n) body i k
  -- a bit that no process may write has the fill
  pub others :
      (i k : ℕ) → k < widths d i → is_input d i ≡ false →
      ((p : ℕ) → OfProcess MayWrite d.signals d.tasks p i k → ⊥) →
      bit n i k ≡ fill_bit f
