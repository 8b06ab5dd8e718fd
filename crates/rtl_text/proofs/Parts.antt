-- Whether a part stands in a text, in the words of a loop over the text.
use Rattle.std.proofs.Common.{◌≡◌, ℕ, suc, ◌+◌, ◌<◌, ◌≤◌, Bool, true, false, ◌||◌, List, [], ◌∷◌, length, take, drop, get_or, refl, sym, ap, ◌∙◌, add-one, length-drop, arith}
use Rattle.std.proofs.Math.Seq.{drop-cons}
use Rattle.std.specs.Str.{bytes_eq}
use Rattle.rtl_tree.specs.Splits.{holds}

abbrev begins : List ℕ → List ℕ → Bool
begins part text = bytes_eq (take (length part) text) part

holds_front : (part : List ℕ) (b : ℕ) (bs : List ℕ) (o : Bool) → begins part (b ∷ bs) ≡ o → holds part (b ∷ bs) ≡ (o || holds part bs)
holds_front part b bs o e = ap (λ x. x || holds part bs) e

pub holds_on : (part text : List ℕ) (i d : ℕ) → i < length text → begins part (drop i text) ≡ false → holds part (drop i text) ≡ holds part (drop (i + 1) text)
holds_on part text i d h e =
    ap (λ xs. holds part xs) (drop-cons text i d h)
    ∙ holds_front part (get_or text i d) (drop (suc i) text) false (ap (λ xs. begins part xs) (sym (drop-cons text i d h)) ∙ e)
    ∙ ap (λ n. holds part (drop n text)) (sym (add-one i))

pub holds_here : (part text : List ℕ) (i d : ℕ) → i < length text → begins part (drop i text) ≡ true → holds part (drop i text) ≡ true
holds_here part text i d h e =
    ap (λ xs. holds part xs) (drop-cons text i d h)
    ∙ holds_front part (get_or text i d) (drop (suc i) text) true (ap (λ xs. begins part xs) (sym (drop-cons text i d h)) ∙ e)

holds_none : (part text : List ℕ) → length text ≡ 0 → holds part text ≡ false
holds_none part [] h = refl
holds_none part (b ∷ bs) h = absurd (omega arith)

pub holds_end : (part text : List ℕ) (i : ℕ) → length text ≤ i → holds part (drop i text) ≡ false
holds_end part text i h = holds_none part (drop i text) (omega (arith, length-drop i text))
