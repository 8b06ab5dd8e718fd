-- How many tokens begin on a line, in the words of a loop over them.
use Rattle.std.proofs.Common.{◌≡◌, ℕ, suc, ◌+◌, ◌<◌, ◌≤◌, Bool, true, false, if◌then◌else◌, List, [], ◌∷◌, length, drop, get_or, refl, ap, sym, ◌∙◌, add-one, length-drop, arith}
use Rattle.std.proofs.Math.Seq.{drop-cons}
use Rattle.rtl_tree.specs.declared.token.Token.{Token}
use Rattle.rtl_prep.specs.Directives.{same_line, line_len}

at_first : (text : List ℕ) (t u : Token) (us : List Token) (b : Bool) → same_line text t u ≡ b → line_len text t (u ∷ us) ≡ (if b then suc (line_len text u us) else 0)
unfolding line_len
at_first text t u us b e = ap (λ b. if b then suc (line_len text u us) else 0) e

none : (text : List ℕ) (t : Token) (us : List Token) → length us ≡ 0 → line_len text t us ≡ 0
unfolding line_len
none text t [] h = refl
none text t (u ∷ us) h = absurd (omega arith)

pub line_ends : (text : List ℕ) (t : Token) (ts : List Token) (i : ℕ) → length ts ≤ i → line_len text t (drop i ts) ≡ 0
line_ends text t ts i h = none text t (drop i ts) (omega (arith, length-drop i ts))

pub line_stops : (text : List ℕ) (t : Token) (ts : List Token) (i : ℕ) (d : Token) → i < length ts → same_line text t (get_or ts i d) ≡ false → line_len text t (drop i ts) ≡ 0
line_stops text t ts i d h e = ap (λ us. line_len text t us) (drop-cons ts i d h) ∙ at_first text t (get_or ts i d) (drop (suc i) ts) false e

pub line_goes : (text : List ℕ) (t : Token) (ts : List Token) (i : ℕ) (d : Token) → i < length ts → same_line text t (get_or ts i d) ≡ true
    → line_len text t (drop i ts) ≡ line_len text (get_or ts i d) (drop (i + 1) ts) + 1
line_goes text t ts i d h e =
    ap (λ us. line_len text t us) (drop-cons ts i d h) ∙ at_first text t (get_or ts i d) (drop (suc i) ts) true e
    ∙ ap (λ n. suc (line_len text (get_or ts i d) (drop n ts))) (sym (add-one i)) ∙ sym (add-one (line_len text (get_or ts i d) (drop (i + 1) ts)))
