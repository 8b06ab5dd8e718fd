-- A q at x: as a condition in an expression, where it may be either bit, and in statements, where it may not decide.
use Rattle.std.proofs.Common.{◌≡◌, ◌∙◌, ℕ, zero, suc, Bool, true, false, ◌&&◌, ◌||◌, [], ◌∷◌, refl, sym, ap, subst, inl, inr, arith}
use Rattle.std.proofs.lemmas.Bool.{cases_eq, false≢true, ne_eqb}
use Rattle.std.proofs.lemmas.List.Elements.{All-cons, All-nil}
use Rattle.rtl_bits.specs.declared.Bit.{Bit}
use Rattle.rtl_bits.specs.declared.Bit.TheVariants.{Zero, One, X, Z}
use Rattle.text_ground.specs.declared.text.Spot.{Spot}
use Rattle.rtl_flat.specs.declared.act.CaseKind.TheVariants.{Plain}
use Rattle.rtl_flat.specs.declared.expr.Compare.TheVariants.{CaseEqual}
use Rattle.rtl_flat.specs.declared.signal.Kind.TheVariants.{Var}
use Rattle.rtl_flat.specs.declared.signal.Signal.{Signal}
use Rattle.rtl_flat.specs.Expression.{Tree, Sized, Literal, Compared, Chosen}
use Rattle.rtl_flat.specs.Expression as tree
use Rattle.rtl_flat.specs.Flats.{Flat, widths}
use Rattle.rtl_flat.specs.Flows.{all_bits}
use Rattle.rtl_flat.specs.Process.{Piece, Whole, BitBy, Set, If, Case, Actions, Done, Then, Without, With, NoBranch, Branch}
use Rattle.rtl_flat.specs.Signs.{Has, IsExpression}
use Rattle.rtl_flat.specs.Sizes.{IsSized}
use Rattle.rtl_flat.specs.Value.{value}
use Rattle.rtl_flat.specs.WellFormed.{IsAssignment, IsBody, IsSelection}
use Rattle.event_model.specs.Bodies.{Now, Later, body_made}
use Rattle.event_model.specs.Traces.{Same}
use Rattle.event_model.specs.Writes.{Values, Write}
use Rattle.event_laws.specs.Laws.{MakesNow}
use Rattle.event_laws.specs.Steady.{HaveWidths}
use Rattle.event_covers.specs.Covers.{AgreeOnChoices, AllMayBe, ArePlainActions, IsPlainTree, KeepsChoices, MadeMayBe, MayBe, OneMayBe, RunMayBe, StoresMayBe, WriteMayBe, WritesMayBe, body_choices}
use Rattle.event_covers.proofs.Laws.{bodies_may, values_may}
use Rattle.event_covers.proofs.MayBe.{at_may, may_refl}

-- ---- bits and lists of bits

-- an x may be 1, a z may be 0, and a 1 may be no 0
x_may_be : MayBe X One
x_may_be known = absurd (false≢true (sym known))

z_may_be : MayBe Z Zero
z_may_be known = absurd (false≢true (sym known))

one_alone : MayBe One Zero → ⊥
one_alone is = let e : One ≡ Zero = is refl in absurd (cc)

-- `1x` may be `10`, but no value of another width
low_bit : AllMayBe (X ∷ One ∷ []) (Zero ∷ One ∷ [])
low_bit = ((λ known. absurd (false≢true (sym known))), (may_refl One, tt))

other_width : AllMayBe (X ∷ []) (X ∷ X ∷ []) → ⊥
other_width is = is.1

-- ---- `q ? 1'b1 : 1'b0`

spot : Spot
spot = record { file = 0; at = 0 }

-- q, c, y and t: variables of one bit
abbrev signal : Signal
signal = record { path = []; width = 1; signed = false; low = 0; kind = Var; top_output = false; instance = 0; spot = spot }

abbrev design : Flat
design = record { signals = signal ∷ signal ∷ signal ∷ signal ∷ []; tasks = [] }

abbrev ws : ℕ → ℕ
ws = widths design

-- q has this bit, and all other signals 1; where there is no signal there are no bits
abbrev with_q : Bit → Values
with_q b zero = b ∷ []
with_q b (suc zero) = One ∷ []
with_q b (suc (suc zero)) = One ∷ []
with_q b (suc (suc (suc zero))) = One ∷ []
with_q b (suc (suc (suc (suc i)))) = []

abbrev whole : ℕ → Tree
whole i = Sized 1 false spot (tree.Whole i)

abbrev bit : Bit → Tree
bit b = Sized 1 false spot (Literal (b ∷ []))

abbrev picks : Tree
picks = Sized 1 false spot (Chosen (whole 0) (bit One) (bit Zero))

are_wide : (b : Bit) → HaveWidths design (with_q b)
are_wide b zero = refl
are_wide b (suc zero) = refl
are_wide b (suc (suc zero)) = refl
are_wide b (suc (suc (suc zero))) = refl
are_wide b (suc (suc (suc (suc i)))) = refl

-- all bits but q's are the same, and q's x may be any
q_may_be : (b : Bit) → StoresMayBe (with_q X) (with_q b)
q_may_be b zero k =
    at_may (X ∷ []) (b ∷ []) ((λ known. absurd (false≢true (sym known))), tt) k
q_may_be b (suc zero) k = may_refl _
q_may_be b (suc (suc zero)) k = may_refl _
q_may_be b (suc (suc (suc zero))) k = may_refl _
q_may_be b (suc (suc (suc (suc i)))) k = may_refl _

-- and a known q may be no other
q_is_known : StoresMayBe (with_q One) (with_q Zero) → ⊥
q_is_known may = one_alone (may 0 0)

signal_lawful : IsExpression design.signals (whole 0)
signal_lawful =
    record {
      widths = (omega arith, record { not_empty = omega arith; inside = omega arith; whole = λ is. refl }, omega arith);
      signs = ((λ signed. absurd (cc)), tt);
    }

picks_lawful : IsExpression design.signals picks
picks_lawful =
    record {
      widths = (
        omega arith,
        record { not_empty = omega arith; inside = omega arith; whole = λ is. refl },
        (refl, signal_lawful.widths, bit_sized One, bit_sized Zero),
      );
      signs = ((refl, refl), (signal_lawful.signs, (tt, tt), (tt, tt)));
    }
  where
    bit_sized : (b : Bit) → IsSized 4 ws (bit b)
    bit_sized b = (omega arith, record { not_empty = omega arith; inside = omega arith; whole = λ is. refl }, tt)

-- it is x where q is, and may be what it is with any other q
picks_x : value (with_q X) picks ≡ X ∷ []
picks_x = refl

picks_may : (b : Bit) → AllMayBe (value (with_q X) picks) (value (with_q b) picks)
picks_may b =
    values_may design (with_q X) (with_q b) picks (are_wide X) (are_wide b) (q_may_be b) picks_lawful (tt, tt, tt)

-- where both arms are 1 it is known
same_arms : value (with_q X) (Sized 1 false spot (Chosen (whole 0) (bit One) (bit One))) ≡ One ∷ []
same_arms = refl

-- `q === 1'b0` isn't plain: an x gives a known 0, and a 0 gives 1
abbrev is_zero : Tree
is_zero = Sized 1 false spot (Compared CaseEqual false (whole 0) (bit Zero))

not_plain : IsPlainTree is_zero → ⊥
not_plain plain = plain.0

case_equality_tells : AllMayBe (value (with_q X) is_zero) (value (with_q Zero) is_zero) → ⊥
case_equality_tells is = let e : Zero ≡ One = is.0 refl in absurd (cc)

-- ---- what is made

abbrev piece : ℕ → Piece
piece i = record { signal = i; selection = Whole; spot = spot }

abbrev set : ℕ → Tree → Bool → Actions
set i e delayed = Then (Set (piece i ∷ []) e delayed spot) Done

abbrev to_y : Bit → Write
to_y b = record { signal = 2; at = 0; bits = b ∷ [] }

x_written : WriteMayBe (to_y X) (to_y One)
x_written = record { signal = refl; at = refl; bits = (x_may_be, tt) }

-- another signal is another write, and one write isn't two
other_signal : WriteMayBe (to_y X) (record { signal = 3; at = 0; bits = One ∷ [] }) → ⊥
other_signal is = let e : 2 ≡ 3 = is.signal in absurd (omega (arith, e))

other_writes : WritesMayBe (to_y X ∷ []) (to_y One ∷ to_y One ∷ []) → ⊥
other_writes is = is.1

-- a write at once isn't one for later
other_time : OneMayBe (Now (to_y X)) (Later (to_y X ∷ [])) → ⊥
other_time is = is

-- `y = q;` and `y <= q;`
copy_may : MadeMayBe (body_made ws (with_q X) (set 2 (whole 0) false)) (body_made ws (with_q One) (set 2 (whole 0) false))
copy_may = (x_written, tt)

delayed_may : MadeMayBe (body_made ws (with_q X) (set 2 (whole 0) true)) (body_made ws (with_q One) (set 2 (whole 0) true))
delayed_may = ((x_written, tt), tt)

-- ---- `if (q) y = 1'b1; else y = 1'b0;`

abbrev decides : ℕ → Actions
decides i = Then (If (whole i) (set 2 (bit One) false) (With (set 2 (bit Zero) false)) spot) Done

-- an x goes the other way, and writes a known 0 where 1 would write 1
goes_other_way : MadeMayBe (body_made ws (with_q X) (decides 0)) (body_made ws (with_q One) (decides 0)) → ⊥
goes_other_way is = let e : Zero ≡ One = is.0.bits.0 refl in absurd (cc)

-- since q decides, and isn't the same
q_decides : body_choices ws (decides 0) 0 0 ≡ true
q_decides = refl

y_decides_not : body_choices ws (decides 0) 2 0 ≡ false
y_decides_not = refl

not_the_same : AgreeOnChoices design (decides 0) (with_q X) (with_q One) → ⊥
not_the_same same = let e : X ≡ One = same 0 0 refl in absurd (cc)

-- `t = q; if (t) ..`: t is the same before, but the run writes it at once before it decides
abbrev copies_first : Actions
copies_first = Then (Set (piece 3 ∷ []) (whole 0) false spot) (decides 3)

goes_other_way_later : MadeMayBe (body_made ws (with_q X) copies_first) (body_made ws (with_q One) copies_first) → ⊥
goes_other_way_later is = let e : Zero ≡ One = is.1.0.bits.0 refl in absurd (cc)

is_the_same : Same (with_q X) (with_q One) 3 0
is_the_same = refl

writes_choice : KeepsChoices design copies_first (with_q X) → ⊥
writes_choice keeps = keeps 3 0 refl refl

-- an index of a target decides, and so do a selector and labels: `y[q] = 1'b1;`, `case (c) q: y = 1'b1; endcase`
abbrev indexed : Actions
indexed =
    Then (Set (record { signal = 2; selection = BitBy 0 (whole 0); spot = spot } ∷ []) (bit One) false spot) Done

abbrev selected : Actions
selected =
    Then (Case Plain false false (whole 1) (Branch (whole 0 ∷ []) (set 2 (bit One) false) NoBranch) Without spot) Done

index_decides : body_choices ws indexed 0 0 ≡ true
index_decides = refl

selector_decides : body_choices ws selected 1 0 ≡ true
selector_decides = refl

label_decides : body_choices ws selected 0 0 ≡ true
label_decides = refl

-- ---- `if (c === 1'b0) y = 1'b0; else y = q;`

-- a `===` that decides is plain, and one that is assigned isn't
abbrev plain_choice : Actions
plain_choice =
    Then (If (Sized 1 false spot (Compared CaseEqual false (whole 1) (bit Zero))) (set 2 (bit Zero) false)
    (With (set 2 (whole 0) false)) spot) Done

is_plain : ArePlainActions plain_choice
is_plain = (((tt, tt), (tt, tt)), tt)

assigns_it : ArePlainActions (set 2 is_zero false) → ⊥
assigns_it plain = plain.0.0

-- ---- `if (c) y = q;`

abbrev copies : Actions
copies = Then (If (whole 1) (set 2 (whole 0) false) Without spot) Done

abbrev CanBe : Piece → Type 0
CanBe piece = IsSelection design.signals piece.signal piece.selection

abbrev IsVar : Piece → Type 0
IsVar piece = Has (λ s. s.kind ≡ Var) design.signals piece.signal

copies_lawful : IsBody design.signals copies
copies_lawful = ((condition, (assigns, tt), tt), tt)
  where
    condition : IsExpression design.signals (whole 1)
    condition =
        record {
          widths = (omega arith, record { not_empty = omega arith; inside = omega arith; whole = λ is. refl }, omega arith);
          signs = ((λ signed. absurd (cc)), tt);
        }

    assigns : IsAssignment design.signals Var (piece 2 ∷ []) (whole 0)
    assigns =
        record {
          parts = All-cons CanBe (piece 2) [] (omega arith) (All-nil CanBe);
          kinds = All-cons IsVar (piece 2) [] refl (All-nil IsVar);
          not_empty = omega arith;
          at_most = omega arith;
          sized = signal_lawful;
          covered = omega arith;
        }

-- c alone decides
only_c : (i k : ℕ) → body_choices ws copies i k ≡ true → i ≡ 1
only_c i k is =
    elim (cases_eq i 1) [
      | inl same ↦ same
      | inr other ↦ absurd (false≢true (sym (ap (λ b. ((b && all_bits ws 1 1 k) || false) || false) (ne_eqb i 1 other)) ∙ is))
    ]

-- so both runs take the branch, whatever q may be
runs_may : (b : Bit) → RunMayBe design copies (with_q X) (with_q b)
runs_may b =
    bodies_may design (with_q X) (with_q b) copies (are_wide X) (are_wide b) (q_may_be b) copies_lawful (((tt, tt), tt), tt)
    (λ i k is. subst (λ j. Same (with_q X) (with_q b) j k) (sym (only_c i k is)) refl)
    (λ i k is writes. absurd (false≢true (subst (λ j. MakesNow design (with_q X) copies j k) (only_c i k is) writes)))
