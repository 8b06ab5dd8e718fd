-- What the processes of a lawful design are.
use Rattle.std.proofs.Common.{◌≡◌, ◌∙◌, ℕ, true, Option, None, Some, refl, ap, subst}
use Rattle.std.specs.Prelude.{IsTrue}
use Rattle.std.specs.List.{slice_get}
use Rattle.std.specs.Option.{IsSomeAnd}
use Rattle.rtl_flat.specs.Expression as tree
use Rattle.rtl_flat.specs.Expression.{Sized}
use Rattle.rtl_flat.specs.Process.{Task}
use Rattle.rtl_flat.specs.Signs.{Has}
use Rattle.rtl_flat.specs.declared.signal.Kind.TheVariants.{TopInput}
use Rattle.rtl_flat.specs.declared.signal.Signal.{Signal}
use Rattle.rtl_flat.specs.WellFormed.{IsProcess}
use Rattle.event_model.specs.Queue.{doing_of, is_input, is_input_kind, is_input_of}
use Rattle.demo_clean.specs.event_laws.Steady.{AreLawful}
use Rattle.net_model.specs.Control.{Here, IsBehind, Next, whole_of}
use Rattle.rtl_flat.specs.Flats.{Flat}
use Rattle.net_model.specs.Gates.{ComesFrom, GoesTo, Itself, Through}
use Rattle.demo_clean.proofs.net_list_proofs.Formed.{lawful_at}
use Rattle.demo_laws.specs.Laws.{AreProcesses}

pub lawful_flat : (d : Flat) → AreProcesses d → AreLawful d
lawful_flat d lawful p does here = by (slice_get d.tasks p) refl here
  where
    by : (o : Option Task) → slice_get d.tasks p ≡ o → doing_of o ≡ Some does → IsProcess d.signals does
    by None there is = absurd (cc)
    by (Some one) there is =
        let does_is : one.does ≡ does = cc in
        subst (λ x. IsProcess d.signals x) does_is (lawful_at d.signals d.tasks p one lawful there)

goes_behind : (d : Flat) (top i : ℕ) → GoesTo d top i → IsBehind d top i
goes_behind d top i (Itself) = Here
goes_behind d top i (Through j i' p task goes there plain) =
    Next j i p (whole_of i plain.at) (Sized 1 plain.signed plain.spot (tree.Whole j)) (goes_behind d top j goes)
    (ap doing_of there ∙ ap Some plain.does)
    (record { signed = plain.signed; spot = plain.spot; target_spot = plain.at; whole = refl; copy = refl; one_bit = plain.one_bit; target_bit = plain.port_bit })

pub behind : (d : Flat) (top i : ℕ) → ComesFrom d top i → IsBehind d top i
behind d top i comes = goes_behind d top i comes.goes

-- a signal that is a top input
pub is_top : (d : Flat) (top : ℕ) → Has (λ signal. signal.kind ≡ TopInput) d.signals top → IsTrue (is_input d top)
is_top d top h = by_signal (slice_get d.signals top) h
  where
    by_signal : (o : Option Signal) → IsSomeAnd o (λ signal. signal.kind ≡ TopInput) → is_input_of o ≡ true
    by_signal None none = absurd none
    by_signal (Some signal) is = ap is_input_kind is
