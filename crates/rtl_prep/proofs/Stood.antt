-- Where modules stand, in the words of a pass from the last token to the first.
use Rattle.std.specs.Prelude.{ℕ, suc, ◌+◌, ◌<◌, ◌≤◌, Bool, true, false, Option, None, List, [], ◌∷◌, ◌++◌, length, drop, reverse, get_or, codes}
use Rattle.std.proofs.Common.{◌≡◌, refl, sym, ap, ap₂, ◌∙◌, subst, cond, add-one, length-drop, arith}
use Rattle.std.proofs.lemmas.List.{reverse-append}
use Rattle.std.proofs.Math.Seq.{drop-cons}
use Rattle.rtl_tree.specs.declared.token.Token.{Token}
use Rattle.rtl_prep.specs.declared.conditions.Extent.{Extent}
use Rattle.rtl_prep.specs.Initials.{is_word}
use Rattle.rtl_prep.specs.Conditions.{extent, extents, module_end}
use Rattle.rtl_prep.specs.Passes.{end_before, extent_before}

-- before these tokens
pub record Before (text : List ℕ) (end : Option ℕ) (found : List Extent) (left : List Token) : Type 0 where
  pub end_is : end ≡ module_end text left
  pub found_is : reverse found ≡ extents text left

end_first : (text : List ℕ) (t : Token) (ts : List Token) → module_end text (t ∷ ts) ≡ end_before text t (module_end text ts)
unfolding module_end
end_first text t ts = refl

extents_first : (text : List ℕ) (t : Token) (ts : List Token) → extents text (t ∷ ts) ≡ extent_before text t (module_end text ts) ++ extents text ts
unfolding extents
extents_first text t ts = refl

reversed_by : (b : Bool) (e : Extent) (es : List Extent) → reverse (es ++ cond b (e ∷ []) []) ≡ cond b (e ∷ []) [] ++ reverse es
reversed_by true e es = reverse-append es (e ∷ [])
reversed_by false e es = reverse-append es []

turn : (text : List ℕ) (end : Option ℕ) (found : List Extent) (t : Token) (ts : List Token) → Before text end found ts → Before text (end_before text t end) (found ++ extent_before text t end) (t ∷ ts)
turn text end found t ts h = record {
  end_is = ap (end_before text t) h.end_is ∙ sym (end_first text t ts);
  found_is =
      reversed_by (is_word (codes "module") text t) (extent t.at end) found
      ∙ ap₂ (λ o es. extent_before text t o ++ es) h.end_is h.found_is
      ∙ sym (extents_first text t ts);
}

none_left : (ts : List Token) → length ts ≡ 0 → ts ≡ []
none_left [] h = refl
none_left (t ∷ ts) h = absurd (omega arith)

pub begins : (text : List ℕ) (found : List Extent) (ts : List Token) (i : ℕ) → length ts ≤ i → found ≡ [] → Before text None found (drop i ts)
unfolding module_end extents
begins text found ts i h e =
    subst (λ left. Before text None found left) (sym (none_left (drop i ts) (omega (arith, length-drop i ts))))
    (record { end_is = refl; found_is = ap reverse e })

pub goes_on : (text : List ℕ) (end end' : Option ℕ) (found found' : List Extent) (ts : List Token) (i j : ℕ) (d : Token) → i ≡ j + 1 → j < length ts
    → end' ≡ end_before text (get_or ts j d) end → found' ≡ found ++ extent_before text (get_or ts j d) end → Before text end found (drop i ts) → Before text end' found' (drop j ts)
goes_on text end end' found found' ts i j d p h e f b =
    let t = get_or ts j d in
    subst (λ left. Before text end' found' left) (sym (drop-cons ts j d h))
    (subst (λ x. Before text x found' (t ∷ drop (suc j) ts)) (sym e)
    (subst (λ x. Before text (end_before text t end) x (t ∷ drop (suc j) ts)) (sym f)
    (turn text end found t (drop (suc j) ts) (subst (λ k. Before text end found (drop k ts)) (p ∙ add-one j) b))))

pub all_found : (text : List ℕ) (end : Option ℕ) (found : List Extent) (ts : List Token) (i : ℕ) → i ≡ 0 → Before text end found (drop i ts) → reverse found ≡ extents text ts
all_found text end found ts i e b = (subst (λ k. Before text end found (drop k ts)) e b).found_is
