-- A body that meets all conditions, and bodies that each lack one: there synthesis makes something else than the run.
use Rattle.std.proofs.Common.{◌≡◌, ◌<◌, ℕ, zero, suc, Bool, true, false, [], ◌∷◌, All, refl, sym, arith}
use Rattle.std.proofs.lemmas.Bool.{false≢true}
use Rattle.std.proofs.lemmas.List.Elements.{All-cons, All-nil}
use Rattle.rtl_bits.specs.declared.Bit.{Bit}
use Rattle.rtl_bits.specs.declared.Bit.TheVariants.{Zero, One, X}
use Rattle.rtl_bits.specs.Bits.{is_one_at}
use Rattle.text_ground.specs.declared.text.Spot.{Spot}
use Rattle.rtl_flat.specs.declared.act.CaseKind.TheVariants.{Plain}
use Rattle.rtl_flat.specs.declared.signal.Signal.{Signal}
use Rattle.rtl_flat.specs.declared.signal.Kind.{Kind}
use Rattle.rtl_flat.specs.declared.signal.Kind.TheVariants.{TopInput, Var}
use Rattle.rtl_flat.specs.Expression.{Tree, Sized, Literal}
use Rattle.rtl_flat.specs.Expression as tree
use Rattle.rtl_flat.specs.Flows.{body_flow, each_below}
use Rattle.rtl_flat.specs.Paths.{reads_outside}
use Rattle.rtl_flat.specs.Process.{Piece, Whole, Set, Case, Actions, Done, Then, Without, Branches, NoBranch, Branch}
use Rattle.rtl_flat.specs.Signs.{Has, IsExpression, sign_of}
use Rattle.rtl_flat.specs.Sizes.{width_of}
use Rattle.rtl_flat.specs.WellFormed.{AreBranches, IsAssignment, IsBody, IsSelection}
use Rattle.rtl_flat.proofs.Paths.{decided}
use Rattle.rtl_flat.specs.Flats.{Flat, widths}
use Rattle.event_model.specs.Writes.{Values}
use Rattle.event_laws.specs.Laws.{after_body}
use Rattle.net_model.specs.declared.fill.Fill.{Fill}
use Rattle.net_model.specs.declared.fill.Fill.TheVariants as fill
use Rattle.net_model.specs.Block.{block_bit}
use Rattle.net_model.specs.Numbers.{AreNumbers, bit}
use Rattle.net_laws.specs.Laws.{at_last}
use Rattle.net_laws.specs.Rules.{AreApart, AreDisjoint}
use Rattle.net_laws.specs.Tame.{ArePlainly, AreTame, HasFirmIndex, IsFirmLabel}
use Rattle.net_laws.proofs.Laws.{block_is, exclusive}

spot : Spot
spot = record { file = 0; at = 0 }

-- inputs 0 to 2 and variables 3 and 4, of one bit each
abbrev signal : Kind → Signal
signal kind = record { path = []; width = 1; signed = false; low = 0; kind = kind; top_output = false; instance = 0; spot = spot }

abbrev design : Flat
design =
    record { signals = signal TopInput ∷ signal TopInput ∷ signal TopInput ∷ signal Var ∷ signal Var ∷ []; tasks = [] }

abbrev whole : ℕ → Tree
whole i = Sized 1 false spot (tree.Whole i)

abbrev label : Bit → Tree
label b = Sized 1 false spot (Literal (b ∷ []))

abbrev piece : ℕ → Piece
piece i = record { signal = i; selection = Whole; spot = spot }

abbrev set : ℕ → Tree → Bool → Actions
set i e delayed = Then (Set (piece i ∷ []) e delayed spot) Done

-- ---- `(* full_case, parallel_case *) case (s) 1'b0: y = a; 1'b1: y = b; endcase`

abbrev items : Branches
items =
    Branch (label Zero ∷ []) (set 3 (whole 1) false) (Branch (label One ∷ []) (set 3 (whole 2) false) NoBranch)

abbrev picks : Actions
picks = Then (Case Plain true true (whole 0) items Without spot) Done

signal_lawful : (i : ℕ) → i < 5 → widths design i ≡ 1 → IsExpression design.signals (whole i)
signal_lawful i below one =
    record {
      widths = (omega arith, record { not_empty = omega (arith, one); inside = omega (arith, one); whole = λ is. absurd (false≢true is) }, omega (arith, below));
      signs = ((λ signed. absurd (cc)), tt);
    }

label_lawful : (b : Bit) → IsExpression design.signals (label b)
label_lawful b =
    record {
      widths = (omega arith, record { not_empty = omega arith; inside = omega arith; whole = λ is. refl }, tt);
      signs = (tt, tt);
    }

abbrev CanBe : Piece → Type 0
CanBe piece = IsSelection design.signals piece.signal piece.selection

abbrev IsVar : Piece → Type 0
IsVar piece = Has (λ s. s.kind ≡ Var) design.signals piece.signal

sets : (i : ℕ) → i < 5 → widths design i ≡ 1 → IsAssignment design.signals Var (piece 3 ∷ []) (whole i)
sets i below one =
    record {
      parts = All-cons CanBe (piece 3) [] (omega arith) (All-nil CanBe);
      kinds = All-cons IsVar (piece 3) [] refl (All-nil IsVar);
      not_empty = omega arith;
      at_most = omega arith;
      sized = signal_lawful i below one;
      covered = omega arith;
    }

abbrev IsWide : Tree → Type 0
IsWide e = width_of (widths design) e ≡ width_of (widths design) (whole 0)

abbrev IsSigned : Tree → Type 0
IsSigned e = sign_of e ≡ sign_of (whole 0)

one_label : (b : Bit) → All (IsExpression design.signals) (label b ∷ [])
one_label b =
    All-cons (IsExpression design.signals) (label b) [] (label_lawful b) (All-nil (IsExpression design.signals))

one_width : (b : Bit) → All IsWide (label b ∷ [])
one_width b = All-cons IsWide (label b) [] refl (All-nil IsWide)

one_sign : (b : Bit) → All IsSigned (label b ∷ [])
one_sign b = All-cons IsSigned (label b) [] refl (All-nil IsSigned)

items_lawful : AreBranches design.signals (whole 0) items
items_lawful = (
  one_label Zero,
  one_width Zero,
  one_sign Zero,
  (sets 1 (omega arith) refl, tt),
  (one_label One, one_width One, one_sign One, (sets 2 (omega arith) refl, tt), tt),
)

lawful : IsBody design.signals picks
lawful = ((signal_lawful 0 (omega arith) refl, items_lawful, tt), tt)

abbrev FirmIndex : Piece → Type 0
FirmIndex one = HasFirmIndex design one.selection

target_firm : All FirmIndex (piece 3 ∷ [])
target_firm = All-cons FirmIndex (piece 3) [] tt (All-nil FirmIndex)

label_firm : (b : Bit) → All (IsFirmLabel design) (label b ∷ [])
label_firm b =
    All-cons (IsFirmLabel design) (label b) [] (λ other. absurd (false≢true (sym other))) (All-nil (IsFirmLabel design))

tame : AreTame design picks
unfolding each_below is_one_at
tame =
    ((tt, (λ full. refl), (label_firm Zero, ((target_firm, tt), tt), (label_firm One, ((target_firm, tt), tt), tt)), tt), tt)

-- the two items are disjoint
zero_one : AreApart (label Zero) (label One)
zero_one =
    record { left = Zero ∷ []; right = One ∷ []; is_left = refl; is_right = refl; differ = refl }

abbrev BehindZero : Tree → Type 0
BehindZero a = All (AreApart a) (label One ∷ [])

abbrev BehindOne : Tree → Type 0
BehindOne a = All (AreApart a) []

disjoint : AreDisjoint items
disjoint = (
  All-cons BehindZero (label Zero) [] (All-cons (AreApart (label Zero)) (label One) [] zero_one (All-nil (AreApart (label Zero)))) (All-nil BehindZero),
  (All-cons BehindOne (label One) [] (All-nil (AreApart (label One))) (All-nil BehindOne), tt),
)

plainly : ArePlainly design picks
plainly =
    record {
      at_once = λ i k late. false≢true ((decided (body_flow (widths design) picks) i k).late.1 late);
      exclusive = exclusive design picks lawful tame (((λ is. disjoint), ((tt, tt), ((tt, tt), tt)), tt), tt);
    }

-- so its function is what a run makes, from any known values and with either fill
picks_is : (f : Fill) (v : Values) → AreNumbers design v → block_bit (widths design) f v picks 3 0 ≡ bit (after_body design v picks) 3 0
picks_is f v are = block_is design f v picks 3 0 are lawful tame plainly

-- ---- a body that isn't firm: `y = 1'bx`

abbrev values : Bit → Bit → Bit → Bit → Bit → Values
values s a b y c zero = s ∷ []
values s a b y c (suc zero) = a ∷ []
values s a b y c (suc (suc zero)) = b ∷ []
values s a b y c (suc (suc (suc zero))) = y ∷ []
values s a b y c (suc (suc (suc (suc zero)))) = c ∷ []
values s a b y c (suc (suc (suc (suc (suc i))))) = []

abbrev zeros : Values
zeros = values Zero Zero Zero Zero Zero

abbrev unknown : Actions
unknown = set 3 (label X) false

unknown_run : bit (after_body design zeros unknown) 3 0 ≡ X
unknown_run = refl

unknown_function : block_bit (widths design) fill.One zeros unknown 3 0 ≡ One
unknown_function = refl

-- ---- a case that doesn't keep the promise of `full_case`: `(* full_case *) case (s) 1'b1: y = a; endcase` where s is 0

abbrev broken : Actions
broken =
    Then (Case Plain true false (whole 0) (Branch (label One ∷ []) (set 3 (whole 1) false) NoBranch) Without spot) Done

broken_run : bit (after_body design zeros broken) 3 0 ≡ Zero
broken_run = refl

broken_function : block_bit (widths design) fill.One zeros broken 3 0 ≡ One
broken_function = refl

-- ---- one that doesn't keep the promise of `parallel_case`: `(* parallel_case *) case (1'b0) s: y = a; b: y = 1'b1; endcase`

abbrev shared : Actions
shared =
    Then (Case Plain false true (label Zero) (Branch (whole 0 ∷ []) (set 3 (whole 1) false) (Branch (whole 2 ∷ []) (set 3 (label One) false) NoBranch)) Without spot) Done

shared_run : bit (after_body design zeros shared) 3 0 ≡ Zero
shared_run = refl

shared_function : block_bit (widths design) fill.Zero zeros shared 3 0 ≡ One
shared_function = refl

-- ---- a bit that is written in both ways: under `(* parallel_case *)` with two items that match it has `y <= 1'b0` in one of
-- them, then `y = 1'b0`, and `y = 1'b0` again in an item by itself. What the function gives to c by `c = y` is what y had,
-- though y is read nowhere before it is written: the function depends on what it may write, too

abbrev both_ways : Actions
both_ways =
    Then (Case Plain false true (label One) (Branch (label One ∷ []) (set 3 (label Zero) true) (Branch (label One ∷ []) Done NoBranch)) Without spot)
    (Then (Set (piece 3 ∷ []) (label Zero) false spot)
    (Then (Case Plain false true (label One) (Branch (label One ∷ []) (set 3 (label Zero) false) NoBranch) Without spot) (set 4 (whole 3) false)))

from_zero : block_bit (widths design) fill.Zero (values Zero Zero Zero Zero Zero) both_ways 4 0 ≡ Zero
from_zero = refl

from_one : block_bit (widths design) fill.Zero (values Zero Zero Zero One Zero) both_ways 4 0 ≡ One
from_one = refl

never_outside : reads_outside (body_flow (widths design) both_ways) 3 0 ≡ false
unfolding each_below is_one_at
never_outside = refl

-- ---- registers: `y <= s; y <= a;` gives the last

abbrev twice : Actions
twice =
    Then (Set (piece 3 ∷ []) (whole 0) true spot) (set 3 (whole 1) true)

twice_last : bit (at_last design (values Zero One Zero Zero Zero) twice) 3 0 ≡ One
twice_last = refl

twice_function : block_bit (widths design) fill.Zero (values Zero One Zero Zero Zero) twice 3 0 ≡ One
twice_function = refl

twice_first : bit (after_body design (values Zero One Zero Zero Zero) twice) 3 0 ≡ Zero
twice_first = refl
