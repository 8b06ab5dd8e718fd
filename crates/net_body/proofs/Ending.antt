-- The end of a body.
use Rattle.std.proofs.Common.{◌≡◌, ◌≢◌, ◌∙◌, ℕ, zero, suc, ◌+◌, ◌<◌, ◌≤◌, Bool, true, false, cond, List, [], ◌∷◌, ◌++◌, length, get_or, set, take, Option, Some, None, refl, sym, ap, subst, inl, inr, arith}
use Rattle.std.specs.Prelude.{unwrap_or}
use Rattle.std.proofs.lemmas.Bool.{cases_eq, cases_lt}
use Rattle.std.proofs.Math.Seq.{take-append_seam}
use mathlib.Core.Path.{fun_ext}
use Rattle.rtl_bits.specs.declared.Bit.{Bit}
use Rattle.rtl_bits.specs.declared.Bit.TheVariants.{X}
use Rattle.rtl_bits.specs.Bits.{is_one_at, tabulate}
use Rattle.rtl_bits.proofs.Lists.{tabulate-congr}
use Rattle.rtl_flat.specs.Value.{store, widths}
use Rattle.net_model.specs.Block.{Maps, first_maps, bit_after}
use Rattle.net_body.specs.declared.mark.Mark.{Mark}
use Rattle.net_body.specs.Marks.{maps, next_bit, view_at}
use Rattle.net_body.proofs.Seen.{same_maps, seen_other, seen_read, seen_same}

pub unwrap_pick : (h : Bool) (x y : Bit) → cond h x y ≡ unwrap_or (cond h (Some x) None) y
unwrap_pick true x y = refl
unwrap_pick false x y = refl

-- one signal at the end
pub settled_one :
    (numbers : List (List Bit)) (marks : List Mark) (i : ℕ) (m : Mark) (number rep : List Bit) → i < length marks → m ≡ get_or marks i m → number ≡ store numbers i →
    rep ≡ tabulate (length number) (λ k. cond (is_one_at m.has_next k) (get_or m.next k X) (get_or number k X)) →
    rep ≡ tabulate (widths numbers i) (λ k. bit_after (maps numbers marks) i k)
settled_one numbers marks i m number rep marked is number_is rep_is =
    rep_is ∙ ap (λ (a : List Bit). tabulate (length a) (λ k. cond (is_one_at m.has_next k) (get_or m.next k X) (get_or a k X))) number_is
    ∙ tabulate-congr (length (store numbers i)) (λ k. cond (is_one_at m.has_next k) (get_or m.next k X) (get_or (store numbers i) k X)) (λ k. bit_after (maps numbers marks) i k)
    (λ k below. unwrap_pick (is_one_at m.has_next k) (get_or m.next k X) (get_or (store numbers i) k X)
    ∙ ap (λ (h : ℕ → Option Bit). unwrap_or (h k) (get_or (store numbers i) k X)) (seen_read next_bit (λ j. None) marks i m marked is))

pub store_past : (numbers : List (List Bit)) (i : ℕ) → length numbers ≤ i → store numbers i ≡ []
store_past [] i past = refl
store_past (x ∷ numbers) zero past = absurd (omega (arith, past))
store_past (x ∷ numbers) (suc i) past = store_past numbers i (omega (arith, past))

pub seen_past : {A B : Type 0} → (f : B → A) (none : A) (xs : List B) (i : ℕ) → length xs ≤ i → view_at f none xs i ≡ none
seen_past f none [] i past = refl
seen_past f none (x ∷ xs) zero past = absurd (omega (arith, past))
seen_past f none (x ∷ xs) (suc i) past = seen_past f none xs i (omega (arith, past))

-- one more of a list, where each place has a fact
pub set_more : {A : Type 0} (P : ℕ → A → Type 0) (f : ℕ → A) (g : ℕ → A) (place : ℕ) (a : A) → ((i : ℕ) → i < place → P i (f i)) → g place ≡ a → P place a → ((i : ℕ) → i ≢ place → g i ≡ f i) → (i : ℕ) → i < place + 1 → P i (g i)
set_more P f g place a before here fact other i below =
    elim (cases_eq i place) as (λ _. P i (g i)) [
      | inl same ↦ subst (λ j. P j (g j)) (sym same) (subst (P place) (sym here) fact)
      | inr apart ↦ subst (P i) (sym (other i apart)) (before i (omega (arith, below, apart)))
    ]

-- ---- marks that are cleared

pub cleared_more : {A : Type 0} (f : Mark → ℕ → A) (a : A) (marks : List Mark) (place : ℕ) (m : Mark) → place < length marks → ((k : ℕ) → f m k ≡ a) → ((i : ℕ) → i < place → (k : ℕ) → view_at f (λ j. a) marks i k ≡ a) → (i : ℕ) → i < place + 1 → (k : ℕ) → view_at f (λ j. a) (set marks place m) i k ≡ a
cleared_more f a marks place m there clear before i below k =
    elim (cases_eq i place) as (λ _. view_at f (λ j. a) (set marks place m) i k ≡ a) [
      | inl same ↦ ap (λ j. view_at f (λ x. a) (set marks place m) j k) same ∙ ap (λ (g : ℕ → _). g k) (seen_same f (λ j. a) marks place m there) ∙ clear k
      | inr apart ↦ ap (λ (g : ℕ → _). g k) (seen_other f (λ j. a) marks place m i apart) ∙ before i (omega (arith, below, apart)) k
    ]

pub cleared_all : {A : Type 0} (f : Mark → ℕ → A) (a : A) (marks : List Mark) (place : ℕ) → length marks ≤ place → ((i : ℕ) → i < place → (k : ℕ) → view_at f (λ j. a) marks i k ≡ a) → (i k : ℕ) → view_at f (λ j. a) marks i k ≡ a
cleared_all f a marks place all before i k =
    elim (cases_lt i (length marks)) as (λ _. view_at f (λ j. a) marks i k ≡ a) [
      | inl below ↦ before i (omega (arith, below, all)) k
      | inr past ↦ ap (λ (g : ℕ → _). g k) (seen_past f (λ j. a) marks i past)
    ]

-- maps in which nothing is written
pub clear_maps : (numbers : List (List Bit)) (marks : List Mark) → ((i k : ℕ) → view_at next_bit (λ j. None) marks i k ≡ None) → ((i k : ℕ) → view_at (λ mark. is_one_at mark.wrote) (λ j. false) marks i k ≡ false) → ((i k : ℕ) → view_at (λ mark. is_one_at mark.late) (λ j. false) marks i k ≡ false) → maps numbers marks ≡ first_maps (store numbers)
clear_maps numbers marks next wrote late =
    same_maps (maps numbers marks) (first_maps (store numbers)) refl
    (fun_ext (λ i. fun_ext (next i))) (fun_ext (λ i. fun_ext (wrote i))) (fun_ext (λ i. fun_ext (late i)))

-- so it stays with other digits
pub clear_with : (numbers new : List (List Bit)) (marks : List Mark) → maps numbers marks ≡ first_maps (store numbers) → maps new marks ≡ first_maps (store new)
clear_with numbers new marks clear =
    same_maps (maps new marks) (first_maps (store new)) refl
    (ap (λ (m : Maps). m.next) clear) (ap (λ (m : Maps). m.wrote) clear) (ap (λ (m : Maps). m.late) clear)

-- a vector whose slice was written is that slice
pub kept_front : {A : Type 0} (n : ℕ) (xs ys : List A) → n ≡ length xs → take n (xs ++ ys) ≡ xs
kept_front n xs ys same = ap (λ k. take k (xs ++ ys)) same ∙ take-append_seam xs ys

pub both_subst : (P : List (List Bit) → List Mark → Type 0) (ns ns' : List (List Bit)) (ms ms' : List Mark) → ns ≡ ns' → ms ≡ ms' → P ns' ms' → P ns ms
both_subst P ns ns' ms ms' one two h =
    subst (λ (xs : List (List Bit)). P xs ms) (sym one) (subst (P ns') (sym two) h)
