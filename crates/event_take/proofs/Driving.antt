-- What drivers give to nets.
use Rattle.std.proofs.Common.{◌≡◌, ◌<◌, ◌≤◌, ◌+◌, ◌∙◌, ◌++◌, ℕ, zero, suc, Bool, true, false, cond, List, [], ◌∷◌, length, drop, set, get_or, Option, None, Some, refl, sym, ap, subst, inl, inr, arith}
use Rattle.std.specs.Prelude.{◌==◌, if◌then◌else◌, nat_lt, ℤ, pos, negsuc, ◌-ℤ◌}
use Rattle.std.specs.List.{slice_get}
use Rattle.std.specs.Option.{unwrap_or}
use Rattle.std.proofs.lemmas.Bool.{cases_eq, ne_eqb, ltb-true, true≢false}
use Rattle.std.proofs.lemmas.List.{get_or-set_same, get_or-set_other, length-take}
use Rattle.std.proofs.lemmas.Option.{unwrap_or-slice_get}
use Rattle.rtl_bits.specs.declared.Bit.{Bit}
use Rattle.rtl_bits.specs.Bits.{has_unknown, replaced, selected}
use Rattle.rtl_flat.specs.declared.signal.Signal.{Signal}
use Rattle.rtl_flat.specs.Process.{Doing, Selection, Whole, BitAt, BitBy, Part}
use Rattle.rtl_flat.specs.Signs.{sign_of, width_in}
use Rattle.rtl_flat.specs.Value.{index_number, value}
use Rattle.rtl_flat.specs.WellFormed.{IsSelection}
use Rattle.event_model.specs.Writes.{Values, Write, Span, all_written, bit_inside, count_of, put, span_of, written}
use Rattle.event_write.specs.QueueState.{HasWidth, IsInside, driver_of}
use Rattle.event_write.proofs.Entering.{has_room, part_inside}
use Rattle.event_write.proofs.Writing.{put_at, put_other}

pub same_number : (a b : ℕ) → (a == b) ≡ true → a ≡ b
same_number a b e =
    elim (cases_eq a b) [
      | inl same ↦ same
      | inr apart ↦ absurd (true≢false (sym e ∙ ne_eqb a b apart))
    ]

-- ---- values of one signal under writes

pub all_written_append : (v : Values) (xs ys : List Write) → all_written v (xs ++ ys) ≡ all_written (all_written v xs) ys
all_written_append v [] ys = refl
all_written_append v (x ∷ xs) ys = all_written_append (written v x) xs ys

pub all_written_at : (u v : Values) (ws : List Write) (net : ℕ) → u net ≡ v net → all_written u ws net ≡ all_written v ws net
all_written_at u v [] net e = e
all_written_at u v (w ∷ ws) net e =
    all_written_at (written u w) (written v w) ws net
    (elim (cases_eq net w.signal) as (λ _. written u w net ≡ written v w net) [
      | inl same ↦ ap (written u w) same ∙ put_at u w.signal (replaced w.at w.bits (u w.signal))
          ∙ ap (replaced w.at w.bits) (ap u (sym same) ∙ e ∙ ap v same)
          ∙ sym (ap (written v w) same ∙ put_at v w.signal (replaced w.at w.bits (v w.signal)))
      | inr apart ↦ put_other u w.signal (replaced w.at w.bits (u w.signal)) net apart ∙ e ∙ sym (put_other v w.signal (replaced w.at w.bits (v w.signal)) net apart)
    ])

-- ---- spans lie inside their signals

at_most : (at count : ℕ) (bits : List Bit) → length (selected at count bits) ≤ count
at_most at count bits = let e = length-take count (drop at bits) in omega (arith, e)

pub selected_inside : (signals : List Signal) (v : Values) (i : ℕ) (selection : Selection) (at : ℕ) (bits : List Bit) → IsSelection signals i selection → IsInside signals i (span_of (width_in signals) v i selection) (selected at (count_of (width_in signals) i selection) bits)
selected_inside signals v i selection at bits h =
    part_inside signals v i selection (selected at (count_of (width_in signals) i selection) bits) h (at_most at (count_of (width_in signals) i selection) bits)

-- whether a signal has all bits of a span
abbrev pub Fits : ℕ → Option Span → Type 0
Fits width None = Unit {0}
Fits width (Some span) = span.at + span.count ≤ width

bit_fits : (width : ℕ) (index : ℤ) → Fits width (bit_inside width index)
bit_fits width (negsuc k) = tt
bit_fits width (pos k) = by_test (nat_lt k width) refl
  where
    by_test : (b : Bool) → nat_lt k width ≡ b → Fits width (if b then Some (record { at = k; count = 1 }) else None)
    by_test true e = let below = ltb-true k width e in omega (arith, below)
    by_test false e = tt

cond_fits : (width : ℕ) (b : Bool) (span : Option Span) → Fits width span → Fits width (cond b None span)
cond_fits width true span h = tt
cond_fits width false span h = h

pub span_fits : (signals : List Signal) (v : Values) (i : ℕ) (selection : Selection) → IsSelection signals i selection → Fits (width_in signals i) (span_of (width_in signals) v i selection)
span_fits signals v i Whole h = omega arith
span_fits signals v i (BitAt low index) h = bit_fits (width_in signals i) (index -ℤ pos low)
span_fits signals v i (BitBy low index) h =
    cond_fits (width_in signals i) (has_unknown (value v index)) (bit_inside (width_in signals i) (index_number (sign_of index) (value v index) -ℤ pos low))
    (bit_fits (width_in signals i) (index_number (sign_of index) (value v index) -ℤ pos low))
span_fits signals v i (Part low width) h = has_room (low + width) signals i h.1

-- ---- drivers

bits_of : Option (List Bit) → List Bit
bits_of None = []
bits_of (Some bits) = bits

driver_at : (drivers : List (Option (List Bit))) (p : ℕ) → driver_of (slice_get drivers p) ≡ bits_of (get_or drivers p None)
unfolding bits_of
driver_at drivers p = by_option (slice_get drivers p) ∙ ap bits_of (unwrap_or-slice_get drivers p None)
  where
    by_option : (o : Option (Option (List Bit))) → driver_of o ≡ bits_of (unwrap_or o None)
    by_option None = refl
    by_option (Some None) = refl
    by_option (Some (Some bits)) = refl

pub driver_put : (drivers : List (Option (List Bit))) (p : ℕ) (bits : List Bit) → p < length drivers → (q : ℕ) → driver_of (slice_get (set drivers p (Some bits)) q) ≡ put (λ k. driver_of (slice_get drivers k)) p bits q
unfolding bits_of
driver_put drivers p bits within q =
    elim (cases_eq q p) as (λ _. driver_of (slice_get (set drivers p (Some bits)) q) ≡ put (λ k. driver_of (slice_get drivers k)) p bits q) [
      | inl same ↦ ap (λ k. driver_of (slice_get (set drivers p (Some bits)) k)) same
          ∙ driver_at (set drivers p (Some bits)) p ∙ ap bits_of (get_or-set_same drivers p (Some bits) None within)
          ∙ sym (ap (put (λ k. driver_of (slice_get drivers k)) p bits) same ∙ put_at (λ k. driver_of (slice_get drivers k)) p bits)
      | inr apart ↦ driver_at (set drivers p (Some bits)) q ∙ ap bits_of (get_or-set_other drivers p q (Some bits) None apart)
          ∙ sym (driver_at drivers q) ∙ sym (put_other (λ k. driver_of (slice_get drivers k)) p bits q apart)
    ]

-- the driver that is read
pub driver_here : (drivers : List (Option (List Bit))) (p : ℕ) (x : Option (List Bit)) (bits : List Bit) → p < length drivers → x ≡ get_or drivers p x → x ≡ Some bits → driver_of (slice_get drivers p) ≡ bits
driver_here [] p x bits within is some = absurd (omega (arith, within))
driver_here (y ∷ ys) zero x bits within is some = ap (λ (o : Option (List Bit)). driver_of (Some o)) (sym is ∙ some)
driver_here (y ∷ ys) (suc p) x bits within is some = driver_here ys p x bits (omega (arith, within)) is some

-- whether drivers have their widths where one is set
pub driver_widths_put : (ws : ℕ → ℕ) (does : ℕ → Option Doing) (drivers : List (Option (List Bit))) (p : ℕ) (bits : List Bit) → p < length drivers → ((q : ℕ) → HasWidth ws (does q) (length (driver_of (slice_get drivers q)))) → HasWidth ws (does p) (length bits) → (q : ℕ) → HasWidth ws (does q) (length (driver_of (slice_get (set drivers p (Some bits)) q)))
driver_widths_put ws does drivers p bits within old new q =
    subst (λ (bs : List Bit). HasWidth ws (does q) (length bs)) (sym (driver_put drivers p bits within q))
    (elim (cases_eq q p) as (λ _. HasWidth ws (does q) (length (put (λ k. driver_of (slice_get drivers k)) p bits q))) [
      | inl same ↦ subst (λ (k : ℕ). HasWidth ws (does k) (length (put (λ i. driver_of (slice_get drivers i)) p bits k))) (sym same) (subst (λ (bs : List Bit). HasWidth ws (does p) (length bs)) (sym (put_at (λ i. driver_of (slice_get drivers i)) p bits)) new)
      | inr apart ↦ subst (λ (bs : List Bit). HasWidth ws (does q) (length bs)) (sym (put_other (λ i. driver_of (slice_get drivers i)) p bits q apart)) (old q)
    ])
