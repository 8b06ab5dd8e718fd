-- Two assignments that drive one net, a target of two parts, and a case.
use Rattle.std.proofs.Common.{◌≡◌, ℕ, zero, suc, false, List, [], ◌∷◌, Option, None, Some, refl}
use Rattle.std.specs.Prelude.{pos}
use Rattle.rtl_bits.specs.declared.Bit.{Bit}
use Rattle.rtl_bits.specs.declared.Bit.TheVariants.{Zero, One, X}
use Rattle.text_ground.specs.declared.text.Spot.{Spot}
use Rattle.rtl_flat.specs.declared.act.CaseKind.TheVariants.{Plain}
use Rattle.rtl_flat.specs.declared.signal.Signal.{Signal}
use Rattle.rtl_flat.specs.declared.signal.Kind.{Kind}
use Rattle.rtl_flat.specs.declared.signal.Kind.TheVariants.{TopInput, Net}
use Rattle.rtl_flat.specs.Expression.{Tree, Sized}
use Rattle.rtl_flat.specs.Expression as tree
use Rattle.rtl_flat.specs.Process.{Piece, Whole, BitAt, Set, Case, Actions, Done, Then, With, NoBranch, Branch, Assign, Task}
use Rattle.event_model.specs.declared.policy.Policy.TheVariants.{Level, Ascending, Descending}
use Rattle.event_model.specs.Bodies.{Now, body_made}
use Rattle.event_model.specs.Writes.{Values, writes}
use Rattle.event_model.specs.Queue.{Event, Input, Evaluate, Update, run, offer, power_up}
use Rattle.rtl_flat.specs.Flats.{Flat}
use Rattle.event_model.specs.Order.{active}
use Rattle.event_model.specs.Policies.{chosen}

spot : Spot
spot = record { file = 0; at = 0 }

abbrev signal : Kind → ℕ → Signal
signal kind width = record { path = []; width = width; signed = false; low = 0; kind = kind; top_output = false; instance = 0; spot = spot }

abbrev whole : ℕ → Piece
whole i = record { signal = i; selection = Whole; spot = spot }

abbrev drive : ℕ → ℕ → Task
drive to «from» = record { does = Assign (whole to ∷ []) (Sized 1 false spot (tree.Whole «from»)); instance = 0; spot = spot }

-- assign y = a; assign y = b;
abbrev design : Flat
design =
    record {
      signals = signal TopInput 1 ∷ signal TopInput 1 ∷ signal Net 1 ∷ [];
      tasks = drive 2 0 ∷ drive 2 1 ∷ [];
    }

-- both are to be evaluated at power-up; the last is taken first by one policy, and the first by another
woken_first : active design (power_up design) ≡ Evaluate 0 ∷ Evaluate 1 ∷ []
woken_first = refl

last_is_taken : chosen Descending (λ p. None) design (power_up design) ≡ Some (Evaluate 1)
last_is_taken = refl

first_is_taken : chosen Ascending (λ p. None) design (power_up design) ≡ Some (Evaluate 0)
first_is_taken = refl

abbrev level : ℕ → Option ℕ
level zero = Some 1
level (suc p) = Some 0

lowest_is_taken : chosen Level level design (power_up design) ≡ Some (Evaluate 1)
lowest_is_taken = refl

abbrev given : List Event
given = Input 0 ∷ Input 1 ∷ Evaluate 0 ∷ Update 0 ∷ Evaluate 1 ∷ Update 1 ∷ []

-- 0 against 1 is x
conflict : (run design (offer (power_up design) ((0, Zero ∷ []) ∷ (1, One ∷ []) ∷ [])) given).value 2 ≡ X ∷ []
conflict = refl

-- z yields: the second driver hasn't been updated
alone : (run design (offer (power_up design) ((0, Zero ∷ []) ∷ (1, One ∷ []) ∷ [])) (Input 0 ∷ Evaluate 0 ∷ Update 0 ∷ [])).value 2 ≡ Zero ∷ []
alone = refl

-- {a, b[1]} = 2'b01: the rightmost part has the lowest bit
abbrev sizes : ℕ → ℕ
sizes zero = 1
sizes (suc i) = 4

abbrev unknown : Values
unknown i = X ∷ X ∷ X ∷ X ∷ []

abbrev bit : ℕ → ℕ → Piece
bit i k = record { signal = i; selection = BitAt 0 (pos k); spot = spot }

both_parts : writes sizes unknown (whole 0 ∷ bit 1 1 ∷ []) (One ∷ Zero ∷ []) ≡ record { signal = 0; at = 0; bits = Zero ∷ [] } ∷ record { signal = 1; at = 1; bits = One ∷ [] } ∷ []
both_parts = refl

-- b[4] isn't there
no_part : writes sizes unknown (bit 1 4 ∷ []) (One ∷ []) ≡ []
no_part = refl

-- case (s) 1'b0: y = 1'b0; default: y = 1'b1; endcase
abbrev literal : Bit → Tree
literal b = Sized 1 false spot (tree.Literal (b ∷ []))

abbrev choice : Actions
choice =
    Then (Case Plain false false (Sized 1 false spot (tree.Whole 0)) (Branch (literal Zero ∷ []) (Then (Set (whole 1 ∷ []) (literal Zero) false spot) Done) NoBranch) (With (Then (Set (whole 1 ∷ []) (literal One) false spot) Done)) spot) Done

abbrev ones : ℕ → ℕ
ones i = 1

abbrev low : Values
low i = Zero ∷ []

abbrev high : Values
high i = One ∷ []

first_item : body_made ones low choice ≡ Now (record { signal = 1; at = 0; bits = Zero ∷ [] }) ∷ []
first_item = refl

no_item : body_made ones high choice ≡ Now (record { signal = 1; at = 0; bits = One ∷ [] }) ∷ []
no_item = refl
