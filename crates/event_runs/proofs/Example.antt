-- `always @* y = a;` of one bit: a design whose block is plain, and a run of it.
use Rattle.std.proofs.Common.{◌≡◌, ◌≢◌, ◌==◌, ◌&&◌, ◌||◌, ℕ, zero, suc, Bool, true, false, List, [], ◌∷◌, None, refl, arith}
use Rattle.std.proofs.lemmas.Bool.{eqb-true, false≢true}
use Rattle.rtl_bits.specs.declared.Bit.TheVariants.{One, X}
use Rattle.text_ground.specs.declared.text.Spot.{Spot}
use Rattle.rtl_flat.specs.declared.signal.Signal.{Signal}
use Rattle.rtl_flat.specs.declared.signal.Kind.{Kind}
use Rattle.rtl_flat.specs.declared.signal.Kind.TheVariants.{TopInput, Var}
use Rattle.rtl_flat.specs.Expression.{Tree, Sized}
use Rattle.rtl_flat.specs.Expression as tree
use Rattle.rtl_flat.specs.Flows.{body_flow}
use Rattle.rtl_flat.specs.Paths.{MayWrite, ReadsOutside}
use Rattle.rtl_flat.specs.PathSets.{OfProcess}
use Rattle.rtl_flat.specs.Process.{Actions, Comb, Done, Set, Then, Whole}
use Rattle.rtl_flat.proofs.Paths.{decided}
use Rattle.event_model.specs.Queue.{CanRun, Event, Input, Run, State, offer, power_up, run}
use Rattle.rtl_flat.specs.Flats.{Flat, widths}
use Rattle.event_laws.proofs.Within.{may_read_outside}
use Rattle.event_runs.specs.Plain.{IsPlain}

spot : Spot
spot = record { file = 0; at = 0 }

abbrev signal : Kind → Signal
signal kind = record { path = []; width = 1; signed = false; low = 0; kind = kind; top_output = false; instance = 0; spot = spot }

abbrev body : Actions
body =
    Then (Set (record { signal = 1; selection = Whole; spot = spot } ∷ []) (Sized 1 false spot (tree.Whole 0)) false spot) Done

abbrev design : Flat
design =
    record {
      signals = signal TopInput ∷ signal Var ∷ [];
      tasks = record { does = Comb None body; instance = 0; spot = spot } ∷ [];
    }

-- its block is plain
first_of_and : (a b : Bool) → (((a && b) || false) || false) ≡ true → a ≡ true
first_of_and true b h = refl
first_of_and false b h = h

read_is : (i k : ℕ) → ReadsOutside (body_flow (widths design) body) i k → i ≡ 0
read_is i k h =
    eqb-true i 0 (first_of_and (i == 0) _ ((decided (body_flow (widths design) body) i k).reads.1 (may_read_outside _ i k h)))

written_is : (i k : ℕ) → MayWrite (body_flow (widths design) body) i k → i ≡ 1
written_is i k h =
    eqb-true i 1 (first_of_and (i == 1) _ ((decided (body_flow (widths design) body) i k).writes.1 h))

no_other : (q i k : ℕ) → q ≢ 0 → OfProcess MayWrite design.signals design.tasks q i k → ⊥
no_other zero i k other may = other refl
no_other (suc zero) i k other may = may
no_other (suc (suc q)) i k other may = may

plain : IsPlain design 0 None body
plain =
    record {
      lists = λ i k h. (decided (body_flow (widths design) body) i k).reads.1 (may_read_outside _ i k h);
      no_late = λ i k h. false≢true ((decided (body_flow (widths design) body) i k).late.1 h);
      apart = λ i k reads writes. let e = read_is i k reads in let f = written_is i k writes in omega (arith, e, f);
      alone = λ i k writes q other may. no_other q i k other may;
    }

-- after an offered 1 the block runs, and copies it
abbrev begun : State
begun = offer (power_up design) ((0, One ∷ []) ∷ [])

abbrev events : List Event
events = Input 0 ∷ Run 0 ∷ []

can : CanRun design begun events
can = ((refl, refl), ((refl, refl), tt))

copied : (run design begun events).value 1 ≡ One ∷ []
copied = refl

not_before : (run design begun (Input 0 ∷ [])).value 1 ≡ X ∷ []
not_before = refl
