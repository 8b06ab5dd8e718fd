-- Changes, place by place.
use Rattle.std.proofs.Common.{ℕ, ◌≡◌, ◌∙◌, arith, Bool, true, false, not, ◌&&◌, ◌||◌, List, length, refl, sym, ap, inl, inr}
use Rattle.std.specs.Prelude.{bit_and, bit_or, bit_xor, slice_index_or}
use Rattle.std.proofs.lemmas.Bool.{cases_lt}
use Rattle.std.proofs.lemmas.List.{get_or_default, get_or_past}
use Rattle.rtl_bits.specs.declared.Bit.{Bit}
use Rattle.rtl_bits.specs.declared.Bit.TheVariants.{Zero, One, X, Z}
use Rattle.rtl_bits.specs.declared.Edge.{Edge}
use Rattle.rtl_bits.specs.declared.Edge.TheVariants.{No, Pos, Neg}
use Rattle.rtl_bits.specs.Bit.{is_unknown}
use Rattle.rtl_bits.specs.Bits.{is_one_at}
use Rattle.rtl_bits.specs.Planes.{in_val}
use Rattle.rtl_bits.specs.Digits.{differ, one_at_and, one_at_or, one_at_xor}
use Rattle.event_model.specs.Queue.{happens}
use Rattle.event_write.specs.Changes.{AreChanges}

-- x that stays x is no event
pub nothing_happens : (edge : Edge) → happens edge X X ≡ false
nothing_happens No = refl
nothing_happens Pos = refl
nothing_happens Neg = refl

nothing_at_zero : (edge : Edge) → happens edge Zero Zero ≡ happens edge X X
nothing_at_zero No = refl
nothing_at_zero Pos = refl
nothing_at_zero Neg = refl

-- past the end of both it is the same which bit is taken to be there
past_end : (edge : Edge) (old new : List Bit) (k : ℕ) → length old ≡ length new → happens edge (slice_index_or old k Zero) (slice_index_or new k Zero) ≡ happens edge (slice_index_or old k X) (slice_index_or new k X)
past_end edge old new k same =
    elim (cases_lt k (length old)) [
      | inl below ↦
          ap (λ a. happens edge a (slice_index_or new k Zero)) (get_or_default old k Zero X below)
          ∙ ap (happens edge (slice_index_or old k X)) (get_or_default new k Zero X (omega (arith, below, same)))
      | inr above ↦
          ap (λ a. happens edge a (slice_index_or new k Zero)) (get_or_past old k Zero above)
          ∙ ap (happens edge Zero) (get_or_past new k Zero (omega (arith, above, same)))
          ∙ nothing_at_zero edge
          ∙ sym (ap (λ a. happens edge a (slice_index_or new k X)) (get_or_past old k X above)
          ∙ ap (happens edge X) (get_or_past new k X (omega (arith, above, same))))
    ]

digit_without : (a b : Bool) → differ (a || b) b ≡ (a && not b)
digit_without true true = refl
digit_without true false = refl
digit_without false true = refl
digit_without false false = refl

-- digits that aren't among others
pub left_digits : (digits others k : ℕ) → is_one_at (bit_xor (bit_or digits others) others) k ≡ (is_one_at digits k && not (is_one_at others k))
left_digits digits others k =
    one_at_xor (bit_or digits others) others k
    ∙ ap (λ b. differ b (is_one_at others k)) (one_at_or digits others k)
    ∙ digit_without (is_one_at digits k) (is_one_at others k)

-- ---- the events of a bit, from the digits of both of its values

change_is : (a b : Bit) → ((differ (in_val a) (in_val b) || differ (is_unknown a) (is_unknown b))) ≡ happens No a b
change_is Zero Zero = refl
change_is Zero One = refl
change_is Zero X = refl
change_is Zero Z = refl
change_is One Zero = refl
change_is One One = refl
change_is One X = refl
change_is One Z = refl
change_is X Zero = refl
change_is X One = refl
change_is X X = refl
change_is X Z = refl
change_is Z Zero = refl
change_is Z One = refl
change_is Z X = refl
change_is Z Z = refl

rise_is : (a b : Bit) → (((differ (in_val a) (in_val b) || differ (is_unknown a) (is_unknown b)) && not (in_val a || is_unknown a)) || ((differ (in_val a) (in_val b) || differ (is_unknown a) (is_unknown b)) && (in_val b && not (is_unknown b)))) ≡ happens Pos a b
rise_is Zero Zero = refl
rise_is Zero One = refl
rise_is Zero X = refl
rise_is Zero Z = refl
rise_is One Zero = refl
rise_is One One = refl
rise_is One X = refl
rise_is One Z = refl
rise_is X Zero = refl
rise_is X One = refl
rise_is X X = refl
rise_is X Z = refl
rise_is Z Zero = refl
rise_is Z One = refl
rise_is Z X = refl
rise_is Z Z = refl

fall_is : (a b : Bit) → (((differ (in_val a) (in_val b) || differ (is_unknown a) (is_unknown b)) && (in_val a && not (is_unknown a))) || ((differ (in_val a) (in_val b) || differ (is_unknown a) (is_unknown b)) && not (in_val b || is_unknown b))) ≡ happens Neg a b
fall_is Zero Zero = refl
fall_is Zero One = refl
fall_is Zero X = refl
fall_is Zero Z = refl
fall_is One Zero = refl
fall_is One One = refl
fall_is One X = refl
fall_is One Z = refl
fall_is X Zero = refl
fall_is X One = refl
fall_is X X = refl
fall_is X Z = refl
fall_is Z Zero = refl
fall_is Z One = refl
fall_is Z X = refl
fall_is Z Z = refl

module _ (old new : List Bit) (same : length old ≡ length new) (ov ou nv nu : ℕ) (old_val : (k : ℕ) → is_one_at ov k ≡ in_val (slice_index_or old k Zero)) (old_unk : (k : ℕ) → is_one_at ou k ≡ is_unknown (slice_index_or old k Zero)) (new_val : (k : ℕ) → is_one_at nv k ≡ in_val (slice_index_or new k Zero)) (new_unk : (k : ℕ) → is_one_at nu k ≡ is_unknown (slice_index_or new k Zero)) where
  abbrev any : ℕ
  any = bit_or (bit_xor ov nv) (bit_xor ou nu)

  abbrev a_at : ℕ → Bit
  a_at k = slice_index_or old k Zero

  abbrev b_at : ℕ → Bit
  b_at k = slice_index_or new k Zero

  any_at : (k : ℕ) → is_one_at any k ≡ (differ (in_val (a_at k)) (in_val (b_at k)) || differ (is_unknown (a_at k)) (is_unknown (b_at k)))
  any_at k =
      rw (one_at_or (bit_xor ov nv) (bit_xor ou nu) k, one_at_xor ov nv k, one_at_xor ou nu k, old_val k, new_val k, old_unk k, new_unk k) refl

  module _ (was_zero is_zero one_before one_after : ℕ) (wz : (k : ℕ) → is_one_at was_zero k ≡ (is_one_at any k && not (is_one_at (bit_or ov ou) k))) (iz : (k : ℕ) → is_one_at is_zero k ≡ (is_one_at any k && not (is_one_at (bit_or nv nu) k))) (wo : (k : ℕ) → is_one_at one_before k ≡ (is_one_at ov k && not (is_one_at ou k))) (io : (k : ℕ) → is_one_at one_after k ≡ (is_one_at nv k && not (is_one_at nu k))) where
    rises_at : (k : ℕ) → is_one_at (bit_or was_zero (bit_and any one_after)) k ≡ happens Pos (a_at k) (b_at k)
    rises_at k =
        rw (one_at_or was_zero (bit_and any one_after) k, one_at_and any one_after k, wz k, io k, any_at k, one_at_or ov ou k, old_val k, old_unk k, new_val k, new_unk k)
        (rise_is (a_at k) (b_at k))

    falls_at : (k : ℕ) → is_one_at (bit_or (bit_and any one_before) is_zero) k ≡ happens Neg (a_at k) (b_at k)
    falls_at k =
        rw (one_at_or (bit_and any one_before) is_zero k, one_at_and any one_before k, iz k, wo k, any_at k, one_at_or nv nu k, old_val k, old_unk k, new_val k, new_unk k)
        (fall_is (a_at k) (b_at k))

    pub changes_are : AreChanges old new (record { any = any; rises = bit_or was_zero (bit_and any one_after); falls = bit_or (bit_and any one_before) is_zero })
    changes_are No k = any_at k ∙ change_is (a_at k) (b_at k) ∙ past_end No old new k same
    changes_are Pos k = rises_at k ∙ past_end Pos old new k same
    changes_are Neg k = falls_at k ∙ past_end Neg old new k same
