-- Reading token after token, in the words of a loop over them.
use Rattle.std.proofs.Common.{◌≡◌, ℕ, suc, ◌+◌, ◌<◌, ◌≤◌, List, [], ◌∷◌, length, drop, get_or, Result, Ok, Err, refl, ap, subst, sym, ◌∙◌, add-one, length-drop, arith}
use Rattle.std.proofs.Math.Seq.{drop-cons}
use Rattle.rtl_tree.specs.declared.token.Token.{Token}
use Rattle.rtl_prep.specs.declared.fault.PrepFault.{PrepFault}
use Rattle.rtl_prep.specs.Stops.{Stop, Tells, and_then}
use Rattle.rtl_prep.specs.Reading.{Place, taken, read}
use Rattle.rtl_prep.specs.Prepares.{start, finished, conditions}

read_first : (text : List ℕ) (p : Place) (t : Token) (ts : List Token) (o : Result Place Stop) → taken text ts p t ≡ o → read text (t ∷ ts) p ≡ and_then o (read text ts)
unfolding read
read_first text p t ts o e = ap (λ o. and_then o (read text ts)) e

pub read_turn : (text text' : List ℕ) (p : Place) (ts rest : List Token) (i : ℕ) (t d : Token) (o : Result Place Stop) → i < length ts → text' ≡ text → rest ≡ drop (i + 1) ts → t ≡ get_or ts i d → taken text' rest p t ≡ o
    → read text (drop i ts) p ≡ and_then o (read text (drop (i + 1) ts))
read_turn text text' p ts rest i t d o h x r u e =
    ap (λ us. read text us p) (drop-cons ts i d h)
    ∙ read_first text p (get_or ts i d) (drop (suc i) ts) o
    (rw (sym u, sym x, ap (λ n. drop n ts) (sym (add-one i)) ∙ sym r) e)
    ∙ ap (λ n. and_then o (read text (drop n ts))) (sym (add-one i))

none_left : (text : List ℕ) (p : Place) (ts : List Token) → length ts ≡ 0 → read text ts p ≡ Ok p
unfolding read
none_left text p [] h = refl
none_left text p (t ∷ ts) h = absurd (omega arith)

pub read_end : (text : List ℕ) (p : Place) (ts : List Token) (i : ℕ) → length ts ≤ i → read text (drop i ts) p ≡ Ok p
read_end text p ts i h = none_left text p (drop i ts) (omega (arith, length-drop i ts))

pub conditions_err : (text : List ℕ) (ts : List Token) (stop : Stop) → read text ts start ≡ Err stop → conditions text ts ≡ Err stop
unfolding conditions
conditions_err text ts stop e = ap (λ o. and_then o (λ p. finished p)) e

pub conditions_ok : (text : List ℕ) (ts : List Token) (p : Place) → read text ts start ≡ Ok p → conditions text ts ≡ finished p
unfolding conditions
conditions_ok text ts p e = ap (λ o. and_then o (λ p. finished p)) e

pub tells_same : {A B : Type 0} (seen : B → A) (o o' : Result A Stop) (r : Result B PrepFault) → o ≡ o' → Tells seen o r → Tells seen o' r
tells_same seen o o' r e h = subst (λ o. Tells seen o r) e h
