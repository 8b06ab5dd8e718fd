-- Terminals that were found, with what comes after them.
use Rattle.std.proofs.Common.{◌≡◌, ◌||◌, ℕ, ◌+◌, ◌<◌, Bool, true, false, List, [], ◌∷◌, ◌++◌, Some, None, refl, ap, ◌∙◌, drop, length, get_or}
use Rattle.std.proofs.lemmas.List.{drop_more}
use Rattle.rtl_tree.specs.declared.token.Tok.{Tok}
use Rattle.rtl_tree.specs.declared.token.Tok.TheVariants as tok
use Rattle.rtl_tree.specs.declared.token.Token.{Token}
use Rattle.rtl_tree.specs.declared.token.Pragma.{Pragma}
use Rattle.rtl_tree.specs.Symbols.{Terminal, Sight, seen, sight, pragma_of, says_full, says_parallel}
use Rattle.text_survey.specs.Terminals.{joined, marked, bare}

or_false : (b : Bool) → (b || false) ≡ b
or_false true = refl
or_false false = refl

or_assoc : (a b c : Bool) → ((a || b) || c) ≡ (a || (b || c))
or_assoc true b c = refl
or_assoc false b c = refl

-- a terminal that was pushed
pub joined_push : (found : List Terminal) (text : List ℕ) (t : Token) (after : Sight) → pragma_of t.kind ≡ None → joined (found ++ bare text t ∷ []) after ≡ joined found (sight text t (pragma_of t.kind) after)
joined_push [] text t after e = rw (e) refl
joined_push (a ∷ []) text t after e = rw (e, or_false a.full, or_false a.parallel) refl
joined_push (a ∷ b ∷ found) text t after e = ap (λ ts. a ∷ ts) (joined_push (b ∷ found) text t after e)

-- a pragma that was noted
pub joined_note : (front : List Terminal) (last : Terminal) (text : List ℕ) (t : Token) (said : Pragma) (after : Sight) → pragma_of t.kind ≡ Some said
    → joined (front ++ marked last (says_full said) (says_parallel said) ∷ []) after ≡ joined (front ++ last ∷ []) (sight text t (pragma_of t.kind) after)
joined_note [] last text t said after e =
    rw (e, or_assoc last.full (says_full said) after.full, or_assoc last.parallel (says_parallel said) after.parallel) refl
joined_note (a ∷ []) last text t said after e =
    rw (e, or_assoc last.full (says_full said) after.full, or_assoc last.parallel (says_parallel said) after.parallel) refl
joined_note (a ∷ b ∷ found) last text t said after e = ap (λ ts. a ∷ ts) (joined_note (b ∷ found) last text t said after e)

-- a pragma before the first terminal
pub joined_lost : (text : List ℕ) (t : Token) (said : Pragma) (after : Sight) → pragma_of t.kind ≡ Some said → joined [] after ≡ joined [] (sight text t (pragma_of t.kind) after)
joined_lost text t said after e = rw (e) refl

pub joined_end : (found : List Terminal) (text : List ℕ) → joined found (seen text []) ≡ found
unfolding seen
joined_end [] text = refl
joined_end (a ∷ []) text = rw (or_false a.full, or_false a.parallel) refl
joined_end (a ∷ b ∷ found) text = ap (λ ts. a ∷ ts) (joined_end (b ∷ found) text)

pub seen_more : (text : List ℕ) (t : Token) (ts : List Token) → seen text (t ∷ ts) ≡ sight text t (pragma_of t.kind) (seen text ts)
unfolding seen
seen_more text t ts = refl

pub seen_at : (text : List ℕ) (ts : List Token) (i : ℕ) (d : Token) → i < length ts
    → seen text (drop i ts) ≡ sight text (get_or ts i d) (pragma_of (get_or ts i d).kind) (seen text (drop (i + 1) ts))
seen_at text ts i d h = ap (seen text) (drop_more ts i d h) ∙ seen_more text (get_or ts i d) (drop (i + 1) ts)

pub no_pragma : (kind : Tok) → ((said : Pragma) → kind ≡ tok.Pragma said → ⊥) → pragma_of kind ≡ None
no_pragma (tok.Pragma said) other = absurd (other said refl)
no_pragma kind other = refl
