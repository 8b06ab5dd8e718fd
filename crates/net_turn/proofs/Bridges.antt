-- What is inferred of a design, in the terms of solutions.
use Rattle.std.specs.Prelude.{IsTrue}
use Rattle.std.proofs.Common.{◌≡◌, ◌∙◌, ℕ, true, Option, None, Some, refl, ap}
use Rattle.std.specs.List.{slice_get}
use Rattle.std.specs.Option.{IsSomeAnd}
use Rattle.rtl_flat.specs.declared.design.Design.{Design}
use Rattle.rtl_flat.specs.declared.signal.Kind.TheVariants.{TopInput}
use Rattle.rtl_flat.specs.declared.signal.Signal.{Signal}
use Rattle.rtl_flat.specs.Expression.{Sized}
use Rattle.rtl_flat.specs.Expression as tree
use Rattle.rtl_flat.specs.Flows.{flow_of}
use Rattle.rtl_flat.specs.Paths.{MayWrite}
use Rattle.rtl_flat.specs.Process.{Task}
use Rattle.rtl_flat.specs.Signs.{Has}
use Rattle.rtl_flat.proofs.Paths.{decided}
use Rattle.event_model.specs.Queue.{doing_of, is_input, is_input_kind, is_input_of}
use Rattle.rtl_flat.specs.Flats.{flat, widths}
use Rattle.net_model.specs.Control.{Here, IsBehind, Next, whole_of}
use Rattle.net_model.specs.Gates.{ComesFrom, GoesTo, Itself, Through}
use Rattle.net_list.specs.Faults as faults
use Rattle.net_settle.specs.net_solve.Laws.{AreApart}

pub apart : (design : Design) → faults.AreApart (flat design) → AreApart (flat design)
apart design none_twice p q i k may may' =
    by_tasks (slice_get (flat design).tasks p) (slice_get (flat design).tasks q) refl refl may may'
  where
    by_tasks : (o o' : Option Task) → slice_get (flat design).tasks p ≡ o → slice_get (flat design).tasks q ≡ o' → IsSomeAnd o (λ task. MayWrite (flow_of (widths (flat design)) task.does) i k) → IsSomeAnd o' (λ task. MayWrite (flow_of (widths (flat design)) task.does) i k) → p ≡ q
    by_tasks None o' there there' one other = absurd one
    by_tasks (Some task) None there there' one other = absurd other
    by_tasks (Some task) (Some task') there there' one other =
        none_twice p q task task' there there' i k
        ((decided (flow_of (widths (flat design)) task.does) i k).writes.1 one)
        ((decided (flow_of (widths (flat design)) task'.does) i k).writes.1 other)

goes_behind : (design : Design) (top i : ℕ) → GoesTo (flat design) top i → IsBehind (flat design) top i
goes_behind design top i (Itself) = Here
goes_behind design top i (Through j i' p task goes there plain) =
    Next j i p (whole_of i plain.at) (Sized 1 plain.signed plain.spot (tree.Whole j)) (goes_behind design top j goes)
    (ap doing_of there ∙ ap Some plain.does)
    (record { signed = plain.signed; spot = plain.spot; target_spot = plain.at; whole = refl; copy = refl; one_bit = plain.one_bit; target_bit = plain.port_bit })

pub behind : (design : Design) (top i : ℕ) → ComesFrom (flat design) top i → IsBehind (flat design) top i
behind design top i comes = goes_behind design top i comes.goes

-- a signal that is a top input
pub is_top : (design : Design) (top : ℕ) → Has (λ signal. signal.kind ≡ TopInput) (flat design).signals top → IsTrue (is_input (flat design) top)
is_top design top h = by_signal (slice_get (flat design).signals top) h
  where
    by_signal : (o : Option Signal) → IsSomeAnd o (λ signal. signal.kind ≡ TopInput) → is_input_of o ≡ true
    by_signal None none = absurd none
    by_signal (Some signal) is = ap is_input_kind is
