-- Doing a step at each token of a list, in the words of a loop over it.
use Rattle.std.proofs.Common.{◌≡◌, ℕ, suc, ◌+◌, ◌<◌, ◌≤◌, List, [], ◌∷◌, length, drop, get_or, Result, Ok, Err, refl, ap, sym, ◌∙◌, add-one, length-drop, arith}
use Rattle.std.proofs.Math.Seq.{drop-cons}
use Rattle.rtl_tree.specs.declared.token.Token.{Token}
use Rattle.rtl_prep.specs.declared.fault.PrepFault.{PrepFault}
use Rattle.rtl_prep.specs.declared.fault.PrepFault.TheVariants.{Directive, Unbalanced, MacroLoop, TooManyTokens, Memory}
use Rattle.rtl_prep.specs.Stops.{Stop, Refused, Alone, Loops, Full, Tells, and_then, each}

each_goes : {S : Type 0} (f : S → Token → Result S Stop) (s s' : S) (t : Token) (ts : List Token) → f s t ≡ Ok s' → each f s (t ∷ ts) ≡ each f s' ts
unfolding each
each_goes f s s' t ts e = ap (λ o. and_then o (λ x. each f x ts)) e

each_fails : {S : Type 0} (f : S → Token → Result S Stop) (s : S) (t : Token) (ts : List Token) (stop : Stop) → f s t ≡ Err stop → each f s (t ∷ ts) ≡ Err stop
unfolding each
each_fails f s t ts stop e = ap (λ o. and_then o (λ x. each f x ts)) e

pub each_turn : {S : Type 0} (f : S → Token → Result S Stop) (s s' : S) (ts : List Token) (i : ℕ) (d : Token) → i < length ts → f s (get_or ts i d) ≡ Ok s'
    → each f s (drop i ts) ≡ each f s' (drop (i + 1) ts)
each_turn f s s' ts i d h e = ap (λ us. each f s us) (drop-cons ts i d h) ∙ each_goes f s s' (get_or ts i d) (drop (suc i) ts) e ∙ ap (λ n. each f s' (drop n ts)) (sym (add-one i))

pub each_stop : {S : Type 0} (f : S → Token → Result S Stop) (s : S) (ts : List Token) (i : ℕ) (d : Token) (stop : Stop) → i < length ts → f s (get_or ts i d) ≡ Err stop
    → each f s (drop i ts) ≡ Err stop
each_stop f s ts i d stop h e = ap (λ us. each f s us) (drop-cons ts i d h) ∙ each_fails f s (get_or ts i d) (drop (suc i) ts) stop e

none_left : {S : Type 0} (f : S → Token → Result S Stop) (s : S) (ts : List Token) → length ts ≡ 0 → each f s ts ≡ Ok s
unfolding each
none_left f s [] h = refl
none_left f s (t ∷ ts) h = absurd (omega arith)

pub each_end : {S : Type 0} (f : S → Token → Result S Stop) (s : S) (ts : List Token) (i : ℕ) → length ts ≤ i → each f s (drop i ts) ≡ Ok s
each_end f s ts i h = none_left f s (drop i ts) (omega (arith, length-drop i ts))

-- a fault is carried on
pub tells_err : {A B C D : Type 0} (seen : B → A) (seen' : D → C) (outcome : Result A Stop) (outcome' : Result C Stop) (e : PrepFault)
    → ((stop : Stop) → outcome ≡ Err stop → outcome' ≡ Err stop) → Tells seen outcome (Err e) → Tells seen' outcome' (Err e)
tells_err seen seen' o o' (Directive name at) f h = f (Refused name.items at) h
tells_err seen seen' o o' (Unbalanced at) f h = f (Alone at) h
tells_err seen seen' o o' (MacroLoop name at) f h = f (Loops name.items at) h
tells_err seen seen' o o' (TooManyTokens at) f h = f (Full at) h
tells_err seen seen' o o' Memory f h = tt
