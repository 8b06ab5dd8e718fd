-- Digits and bits that are picked by a mask.
use Rattle.std.proofs.Common.{◌≡◌, ◌∙◌, ℕ, zero, suc, ◌+◌, ◌-◌, ◌<◌, ◌≤◌, Bool, true, false, not, cond, ◌&&◌, ◌||◌, nat_le, nat_lt, List, [], ◌∷◌, length, get_or, replicate, Option, Some, None, refl, sym, ap, subst, inl, inr, arith}
use Rattle.std.proofs.lemmas.Bool.{cases_Bool, cases_lt}
use Rattle.rtl_bits.specs.Inside.{length-tabulate}
use Rattle.std.specs.Prelude.{bit_and, bit_or, bit_xor}
use Rattle.std.proofs.lemmas.List.{get_or_default}
use Rattle.rtl_bits.specs.declared.Bit.{Bit}
use Rattle.rtl_bits.specs.declared.Bit.TheVariants.{Zero, One, X, Z}
use Rattle.rtl_bits.specs.Bit.{is_unknown}
use Rattle.rtl_bits.specs.Bits.{is_one_at, replaced, tabulate}
use Rattle.rtl_bits.proofs.Lists.{get_or-tabulate, tabulate-congr}
use Rattle.rtl_bits.specs.Digits.{one_at_and, one_at_or}
use Rattle.rtl_bits.specs.Planes.{bit_of, bits_of_planes, in_val}
use Rattle.rtl_scan.proofs.Masks.{without_is}
use Rattle.event_model.specs.Writes.{Values, Write}
use Rattle.net_number.proofs.event_laws_proofs.Written.{bit_kept, bit_written}
use Rattle.net_body.specs.Marks.{is_over}

pick_table : (m n o : Bool) → ((m && n) || (o && not m)) ≡ cond m n o
pick_table true true o = refl
pick_table true false true = refl
pick_table true false false = refl
pick_table false n true = refl
pick_table false n false = refl

pub picked_digit : (m n o k : ℕ) → is_one_at (bit_or (bit_and m n) (bit_and o (bit_xor o m))) k ≡ cond (is_one_at m k) (is_one_at n k) (is_one_at o k)
picked_digit m n o k =
    one_at_or (bit_and m n) (bit_and o (bit_xor o m)) k
    ∙ ap (λ x. x || is_one_at (bit_and o (bit_xor o m)) k) (one_at_and m n k)
    ∙ ap (λ x. (is_one_at m k && is_one_at n k) || x) (without_is o m k)
    ∙ pick_table (is_one_at m k) (is_one_at n k) (is_one_at o k)

-- a bit is that of its two digits
split_bit : (b : Bit) → bit_of (in_val b) (is_unknown b) ≡ b
split_bit Zero = refl
split_bit One = refl
split_bit X = refl
split_bit Z = refl

whole_bit : (bits : List Bit) (k : ℕ) (v u : Bool) → k < length bits → v ≡ in_val (get_or bits k Zero) → u ≡ is_unknown (get_or bits k Zero) → bit_of v u ≡ get_or bits k X
whole_bit bits k v u below val unk =
    ap (λ b. bit_of b u) val ∙ ap (bit_of (in_val (get_or bits k Zero))) unk
    ∙ split_bit (get_or bits k Zero) ∙ get_or_default bits k Zero X below

pick_bit : (m nv nu ov ou : Bool) → bit_of (cond m nv ov) (cond m nu ou) ≡ cond m (bit_of nv nu) (bit_of ov ou)
pick_bit true nv nu ov ou = refl
pick_bit false nv nu ov ou = refl

pub picked_bit :
    (m : Bool) (new old : List Bit) (k : ℕ) (v u nv nu ov ou : Bool) → k < length new → k < length old →
    v ≡ cond m nv ov → u ≡ cond m nu ou →
    nv ≡ in_val (get_or new k Zero) → nu ≡ is_unknown (get_or new k Zero) → ov ≡ in_val (get_or old k Zero) → ou ≡ is_unknown (get_or old k Zero) →
    bit_of v u ≡ cond m (get_or new k X) (get_or old k X)
picked_bit m new old k v u nv nu ov ou in_new in_old val unk nval nunk oval ounk =
    ap (λ b. bit_of b u) val ∙ ap (bit_of (cond m nv ov)) unk ∙ pick_bit m nv nu ov ou
    ∙ ap (λ b. cond m b (bit_of ov ou)) (whole_bit new k nv nu in_new nval nunk)
    ∙ ap (cond m (get_or new k X)) (whole_bit old k ov ou in_old oval ounk)

-- ---- a mask with some places more

pub over_is : (mask at count n old k : ℕ) → count ≡ n → is_one_at mask k ≡ (nat_le at k && nat_lt k (at + count)) → is_one_at (bit_or mask old) k ≡ (is_over at n k || is_one_at old k)
over_is mask at count n old k same is =
    one_at_or mask old k ∙ ap (λ b. b || is_one_at old k) (is ∙ ap (λ c. nat_le at k && nat_lt k (at + c)) same)

pub next_over :
    (at : ℕ) (part old rep : List Bit) (mask has k : ℕ) → rep ≡ replaced at part old → at + length part ≤ length old →
    is_one_at mask k ≡ (is_over at (length part) k || is_one_at has k) →
    cond (is_one_at mask k) (Some (get_or rep k X)) None ≡ cond (is_over at (length part) k) (Some (get_or part (k - at) X)) (cond (is_one_at has k) (Some (get_or old k X)) None)
next_over at part old rep mask has k rep_is inside mask_is =
    let v : Values = λ i. old in
    let w : Write = record { signal = 0; at = at; bits = part } in
    elim (cases_Bool (is_over at (length part) k)) as (λ _. cond (is_one_at mask k) (Some (get_or rep k X)) None ≡ cond (is_over at (length part) k) (Some (get_or part (k - at) X)) (cond (is_one_at has k) (Some (get_or old k X)) None)) [
      | inl over ↦
          ap (λ b. cond b (Some (get_or rep k X)) None) (mask_is ∙ ap (λ o. o || is_one_at has k) over)
          ∙ ap (λ (bits : List Bit). Some (get_or bits k X)) rep_is ∙ ap Some (bit_written v w 0 k inside over)
          ∙ sym (ap (λ o. cond o (Some (get_or part (k - at) X)) (cond (is_one_at has k) (Some (get_or old k X)) None)) over)
      | inr past ↦
          ap (λ b. cond b (Some (get_or rep k X)) None) (mask_is ∙ ap (λ o. o || is_one_at has k) past)
          ∙ ap (λ b. cond (is_one_at has k) (Some b) None) (ap (λ (bits : List Bit). get_or bits k X) rep_is ∙ bit_kept v w 0 k inside past)
          ∙ sym (ap (λ o. cond o (Some (get_or part (k - at) X)) (cond (is_one_at has k) (Some (get_or old k X)) None)) past)
    ]

-- ---- vectors that are picked

pub past_end : (a : List Bit) (k : ℕ) → length a ≤ k → get_or a k X ≡ X
past_end [] k past = refl
past_end (x ∷ a) zero past = absurd (omega (arith, past))
past_end (x ∷ a) (suc k) past = past_end a k (omega (arith, past))

pick_past : (m : Bool) → X ≡ cond m X X
pick_past true = refl
pick_past false = refl

pub picked_at :
    (mask : ℕ) (new old rep : List Bit) (k : ℕ) → length new ≡ length old →
    rep ≡ tabulate (length old) (λ j. cond (is_one_at mask j) (get_or new j X) (get_or old j X)) →
    get_or rep k X ≡ cond (is_one_at mask k) (get_or new k X) (get_or old k X)
picked_at mask new old rep k same is =
    let f : ℕ → Bit = λ j. cond (is_one_at mask j) (get_or new j X) (get_or old j X) in
    ap (λ (bits : List Bit). get_or bits k X) is
    ∙ elim (cases_lt k (length old)) as (λ _. get_or (tabulate (length old) f) k X ≡ f k) [
      | inl below ↦ get_or-tabulate (length old) f k X below
      | inr past ↦
          past_end (tabulate (length old) f) k (subst (λ n. n ≤ k) (sym (length-tabulate (length old) f)) past)
          ∙ pick_past (is_one_at mask k)
          ∙ sym (ap (λ b. cond (is_one_at mask k) b (get_or old k X)) (past_end new k (subst (λ n. n ≤ k) (sym same) past)) ∙ ap (cond (is_one_at mask k) X) (past_end old k past))
    ]

give_picked : (m h : Bool) (new old : Bit) → cond (m || h) (Some (cond m new old)) None ≡ cond m (Some new) (cond h (Some old) None)
give_picked true h new old = refl
give_picked false h new old = refl

-- what a mark has where it gets the bits of a mask
pub next_picked :
    (mask has : ℕ) (new old rep : List Bit) (k : ℕ) → get_or rep k X ≡ cond (is_one_at mask k) (get_or new k X) (get_or old k X) →
    cond (is_one_at (bit_or mask has) k) (Some (get_or rep k X)) None ≡ cond (is_one_at mask k) (Some (get_or new k X)) (cond (is_one_at has k) (Some (get_or old k X)) None)
next_picked mask has new old rep k at =
    ap (λ b. cond b (Some (get_or rep k X)) None) (one_at_or mask has k)
    ∙ ap (λ b. cond (is_one_at mask k || is_one_at has k) (Some b) None) at
    ∙ give_picked (is_one_at mask k) (is_one_at has k) (get_or new k X) (get_or old k X)

at_copies : (n : ℕ) (b : Bit) (k : ℕ) → k < n → get_or (replicate n b) k X ≡ b
at_copies zero b k below = absurd (omega (arith, below))
at_copies (suc n) b zero below = refl
at_copies (suc n) b (suc k) below = at_copies n b k (omega (arith, below))

pub give_filled : (mask width : ℕ) (b : Bit) (filled : List Bit) (other : Option Bit) (k : ℕ) → filled ≡ replicate width b → (is_one_at mask k ≡ true → k < width) → cond (is_one_at mask k) (Some (get_or filled k X)) other ≡ cond (is_one_at mask k) (Some b) other
give_filled mask width b filled other k is inside =
    elim (cases_Bool (is_one_at mask k)) as (λ _. cond (is_one_at mask k) (Some (get_or filled k X)) other ≡ cond (is_one_at mask k) (Some b) other) [
      | inl there ↦ ap (λ (x : Bit). cond (is_one_at mask k) (Some x) other) (ap (λ (bits : List Bit). get_or bits k X) is ∙ at_copies width b k (inside there))
      | inr not_there ↦ ap (λ m. cond m (Some (get_or filled k X)) other) not_there ∙ sym (ap (λ m. cond m (Some b) other) not_there)
    ]

pub pick_filled : (mask width : ℕ) (b other : Bit) (filled : List Bit) (k : ℕ) → filled ≡ replicate width b → k < width → cond (is_one_at mask k) (get_or filled k X) other ≡ cond (is_one_at mask k) b other
pick_filled mask width b other filled k is below =
    ap (λ (x : Bit). cond (is_one_at mask k) x other) (ap (λ (bits : List Bit). get_or bits k X) is ∙ at_copies width b k below)

-- the bits that two numbers store which are picked
pub merged_bits :
    (mask : ℕ) (new old rep : List Bit) (w v u nv nu ov ou : ℕ) → length new ≡ length old → w ≡ length old → rep ≡ bits_of_planes w v u →
    ((k : ℕ) → is_one_at v k ≡ cond (is_one_at mask k) (is_one_at nv k) (is_one_at ov k)) → ((k : ℕ) → is_one_at u k ≡ cond (is_one_at mask k) (is_one_at nu k) (is_one_at ou k)) →
    ((k : ℕ) → is_one_at nv k ≡ in_val (get_or new k Zero)) → ((k : ℕ) → is_one_at nu k ≡ is_unknown (get_or new k Zero)) →
    ((k : ℕ) → is_one_at ov k ≡ in_val (get_or old k Zero)) → ((k : ℕ) → is_one_at ou k ≡ is_unknown (get_or old k Zero)) →
    rep ≡ tabulate (length old) (λ k. cond (is_one_at mask k) (get_or new k X) (get_or old k X))
merged_bits mask new old rep w v u nv nu ov ou same wide is val unk nval nunk oval ounk =
    is ∙ ap (λ n. bits_of_planes n v u) wide
    ∙ tabulate-congr (length old) (λ i. bit_of (is_one_at v i) (is_one_at u i)) (λ k. cond (is_one_at mask k) (get_or new k X) (get_or old k X))
    (λ k below. picked_bit (is_one_at mask k) new old k (is_one_at v k) (is_one_at u k)
    (is_one_at nv k) (is_one_at nu k) (is_one_at ov k) (is_one_at ou k)
    (omega (arith, same, below)) below (val k) (unk k) (nval k) (nunk k) (oval k) (ounk k))
