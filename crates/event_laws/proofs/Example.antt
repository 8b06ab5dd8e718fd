-- `assign y = a;` over two bits: a lawful design, a run of it, and an offered value that is too long.
use Rattle.std.proofs.Common.{◌≡◌, false, List, [], ◌∷◌, refl, arith}
use Rattle.std.proofs.lemmas.List.Elements.{All-cons, All-nil}
use Rattle.rtl_bits.specs.declared.Bit.TheVariants.{Zero, One, X, Z}
use Rattle.text_ground.specs.declared.text.Spot.{Spot}
use Rattle.rtl_flat.specs.declared.signal.Signal.{Signal}
use Rattle.rtl_flat.specs.declared.signal.Kind.{Kind}
use Rattle.rtl_flat.specs.declared.signal.Kind.TheVariants.{Net, TopInput}
use Rattle.rtl_flat.specs.Expression.{Tree, Sized}
use Rattle.rtl_flat.specs.Expression as tree
use Rattle.rtl_flat.specs.Process.{Whole, Assign, Piece, Task}
use Rattle.rtl_flat.specs.Signs.{Has}
use Rattle.rtl_flat.specs.WellFormed.{AreApart, IsAssignment, IsFixed, IsProcess, IsSelection}
use Rattle.event_model.specs.Queue.{State, Event, Input, Evaluate, Update, after, offer, power_up, run}
use Rattle.rtl_flat.specs.Flats.{Flat}
use Rattle.event_laws.specs.Steady.{AreLawful, IsSteady}
use Rattle.event_laws.proofs.Steady.{lawful_processes, steady_offer, steady_power_up, steady_run}

spot : Spot
spot = record { file = 0; at = 0 }

abbrev signal : Kind → Signal
signal kind = record { path = []; width = 2; signed = false; low = 0; kind = kind; top_output = false; instance = 0; spot = spot }

abbrev signals : List Signal
signals = signal TopInput ∷ signal Net ∷ []

abbrev y : Piece
y = record { signal = 1; selection = Whole; spot = spot }

abbrev a : Tree
a = Sized 2 false spot (tree.Whole 0)

abbrev task : Task
task = record { does = Assign (y ∷ []) a; instance = 0; spot = spot }

abbrev design : Flat
design = record { signals = signals; tasks = task ∷ [] }

-- the design is lawful
abbrev CanBe : Piece → Type 0
CanBe piece = IsSelection signals piece.signal piece.selection

abbrev IsNet : Piece → Type 0
IsNet piece = Has (λ s. s.kind ≡ Net) signals piece.signal

abbrev IsKnown : Piece → Type 0
IsKnown piece = IsFixed piece.selection

assigns : IsAssignment signals Net (y ∷ []) a
assigns =
    record {
      parts = All-cons CanBe y [] (omega arith) (All-nil CanBe);
      kinds = All-cons IsNet y [] refl (All-nil IsNet);
      not_empty = omega arith;
      at_most = omega arith;
      sized = record {
        widths = (omega arith, record { not_empty = omega arith; inside = omega arith; whole = λ _. refl }, omega arith);
        signs = ((λ signed. absurd (cc)), tt);
      };
      covered = omega arith;
    }

is_process : IsProcess signals (Assign (y ∷ []) a)
is_process =
    (assigns, All-cons IsKnown y [] tt (All-nil IsKnown), (All-nil (AreApart signals y), tt))

lawful : AreLawful design
lawful =
    lawful_processes design (All-cons (λ (one : Task). IsProcess signals one.does) task [] is_process (All-nil (λ (one : Task). IsProcess signals one.does)))

-- from power-up, where a value is offered, the net takes it
abbrev offered : State
offered = offer (power_up design) ((0, One ∷ Zero ∷ []) ∷ [])

abbrev events : List Event
events = Input 0 ∷ Evaluate 0 ∷ Update 0 ∷ []

y_after : (run design offered events).value 1 ≡ One ∷ Zero ∷ []
y_after = refl

still_steady : IsSteady design (run design offered events)
still_steady =
    steady_run design lawful offered events ((refl, refl), ((refl, refl), ((refl, refl), tt))) (steady_offer design (power_up design) 0 (One ∷ Zero ∷ []) (omega arith) (steady_power_up design))

-- between the evaluation and the update the value is pending
pending_first : (run design offered (Input 0 ∷ Evaluate 0 ∷ [])).driver 0 ≡ Z ∷ Z ∷ []
pending_first = refl

-- three bits that are offered to two lengthen the value: they aren't a steady state's
too_long : (after design (offer (power_up design) ((0, X ∷ X ∷ X ∷ []) ∷ [])) (Input 0)).value 0 ≡ X ∷ X ∷ X ∷ []
too_long = refl
