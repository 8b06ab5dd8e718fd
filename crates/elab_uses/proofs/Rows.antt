-- The notes of uses in a row.
use Rattle.std.specs.Prelude.{ℕ, ◌+◌, ◌<◌, length, drop, List, [], ◌∷◌, ◌++◌}
use Rattle.std.proofs.Common.{◌≡◌, ◌∙◌, ap, refl, sym, append_assoc, get_or}
use Rattle.std.proofs.lemmas.List.{at_drop_more}
use Rattle.rtl_flat.specs.declared.note.Note.{Note}
use Rattle.elab_standard.specs.declared.uses.Home.{Home}
use Rattle.elab_standard.specs.Uses.{use_notes}
use Rattle.elab_uses.specs.Bodies.{Uses, notes_in}

pub notes_append : (home : Home) (xs ys : Uses) → notes_in home (xs ++ ys) ≡ notes_in home xs ++ notes_in home ys
notes_append home [] ys = refl
notes_append home (one ∷ xs) ys =
    ap (λ zs. use_notes home one.0 one.1 ++ zs) (notes_append home xs ys)
    ∙ sym (append_assoc (use_notes home one.0 one.1) (notes_in home xs) (notes_in home ys))

-- one more of a row, behind what is noted already
pub more_noted : {X : Type 0} (home : Home) (own : X → Uses) (all : List X → Uses) → ((x : X) (xs : List X) → all (x ∷ xs) ≡ own x ++ all xs) → (ys zs : List Note) (xs : List X) (i : ℕ) (item : X) (r : List Note) → i < length xs → item ≡ get_or xs i item → zs ≡ ys ++ notes_in home (own item) → ys ++ notes_in home (all (drop i xs)) ≡ r → zs ++ notes_in home (all (drop (i + 1) xs)) ≡ r
more_noted home own all more ys zs xs i item r inside is told earlier =
    let rest : Uses = all (drop (i + 1) xs) in
    ap (λ us. us ++ notes_in home rest) told
    ∙ append_assoc ys (notes_in home (own item)) (notes_in home rest)
    ∙ ap (λ us. ys ++ us) (sym (notes_append home (own item) rest))
    ∙ sym (ap (λ us. ys ++ notes_in home us) (more item (drop (i + 1) xs)))
    ∙ ap (λ x. ys ++ notes_in home (all (x ∷ drop (i + 1) xs))) is
    ∙ sym (at_drop_more (λ us. ys ++ notes_in home (all us)) xs i item inside)
    ∙ earlier

-- those of what comes then
pub then_noted : (home : Home) (ys zs : List Note) (before after : Uses) → zs ≡ ys ++ notes_in home before → zs ++ notes_in home after ≡ ys ++ notes_in home (before ++ after)
then_noted home ys zs before after told =
    ap (λ us. us ++ notes_in home after) told
    ∙ append_assoc ys (notes_in home before) (notes_in home after)
    ∙ ap (λ us. ys ++ us) (sym (notes_append home before after))
