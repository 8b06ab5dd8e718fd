-- Resets that set registers to constants, whatever else the values are (IEEE 1364.1-2002 section 5.2).
use Rattle.std.specs.Prelude.{◌≡◌, ◌≢◌, ℕ, true, false, List, Some}
use Rattle.rtl_bits.specs.declared.Bit.{Bit}
use Rattle.rtl_bits.specs.Bit.{is_unknown}
use Rattle.rtl_flat.specs.declared.signal.Kind.TheVariants.{Var}
use Rattle.rtl_flat.specs.Flows.{body_flow}
use Rattle.rtl_flat.specs.Paths.{MayWrite}
use Rattle.rtl_flat.specs.Process.{Watched, Actions, Edge'}
use Rattle.rtl_flat.specs.Signs.{Has}
use Rattle.event_model.specs.Bodies.{body_made}
use Rattle.event_model.specs.Queue.{State, doing_at, listens}
use Rattle.rtl_flat.specs.Flats.{Flat, widths}
use Rattle.event_model.specs.Writes.{Values}
use Rattle.event_runs.specs.event_laws.Steady.{HaveWidths}
use Rattle.net_model.specs.Numbers.{bit}
use Rattle.event_runs.specs.Effects.{laters}
use Rattle.event_runs.specs.Writers.{IsSole}
use Rattle.event_edges.specs.Registers.{due_bit, updates_bit}

-- bit k of signal i is set to a constant by the body of process p where signal r is active
pub record IsReset (d : Flat) (p r : ℕ) (active : Bit) (i k : ℕ) (constant : Bit) : Type 0 where
  pub list : List Watched
  pub body : Actions
  pub does : doing_at d p ≡ Some (Edge' list body)
  pub known : is_unknown active ≡ false
  -- the reset is a signal of one bit that the body doesn't write
  pub one_bit : widths d r ≡ 1
  pub unwritten : (n : ℕ) → MayWrite (body_flow (widths d) body) r n → ⊥
  -- each change of it to its active level is an event of the body
  pub heard : (old : Bit) → old ≢ active → listens (widths d) r 0 old active (Edge' list body) ≡ true
  -- the bit is a variable's that the body alone writes
  pub variable : Has (λ s. s.kind ≡ Var) d.signals i
  pub sole : IsSole d p i k
  -- where the reset is active the body asks for the constant
  pub asks :
      (v : Values) → HaveWidths d v → bit v r 0 ≡ active → (b : Bit) →
      updates_bit i k (laters (body_made (widths d) v body)) b ≡ constant

-- where the reset is active and the body isn't woken by it, the bit has the constant or comes to it
abbrev pub IsSet : Flat → ℕ → ℕ → Bit → ℕ → ℕ → Bit → State → Type 0
IsSet d p r active i k constant s =
    s.woken p ≡ false → bit s.value r 0 ≡ active → due_bit s i k ≡ constant
