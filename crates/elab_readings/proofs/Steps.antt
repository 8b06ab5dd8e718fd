-- What waits, one after the other.
use Rattle.std.specs.Prelude.{ℕ, ◌+◌, ◌<◌, ◌≤◌, List, [], ◌∷◌, ◌++◌, drop, length, map, reverse, Option, None, Some}
use Rattle.std.specs.List.{slice_get}
use Rattle.std.specs.Option.{option_map}
use Rattle.std.proofs.Common.{◌≡◌, ◌∙◌, ap, append_assoc, get_or, refl, subst, sym}
use Rattle.std.proofs.lemmas.List.{drop-map, drop_more, map-append, reverse-append}
use Rattle.std.proofs.lemmas.Option.{slice_get_past, slice_get_read}
use Rattle.elab_uses.proofs.elab_links_proofs.Places.{at_place}
use Rattle.rtl_flat.specs.declared.note.Note.{Note}
use Rattle.elab_uses.specs.elab_walk.declared.trail.Placement.{Placement as Made}
use Rattle.elab_uses.specs.elab_walk.Placements.{Placement}
use Rattle.elab_uses.specs.elab_walk.Trails.{placement}
use Rattle.elab_readings.specs.declared.above.Above.{Above as Kept}
use Rattle.elab_readings.specs.Readings.{Above, coming, next_of, notes_from, placement_notes}
use Rattle.elab_readings.specs.Views.{above, waiting}

-- one more waits before the others
pub waits_more : (kept : List Kept) (next : Kept) → waiting (kept ++ next ∷ []) ≡ above next ∷ waiting kept
waits_more kept next =
    ap reverse (map-append above kept (next ∷ [])) ∙ reverse-append (map above kept) (above next ∷ [])

-- a place behind all of a list, and the member in a place, of which a function is kept
pub none_at : {A B : Type 0} (f : A → B) (xs : List A) (i : ℕ) → length xs ≤ i → slice_get (map f xs) i ≡ None
none_at f xs i past = at_place f xs i ∙ ap (option_map f) (slice_get_past xs i past)

pub some_at : {A B : Type 0} (f : A → B) (xs : List A) (i : ℕ) (x : A) → i < length xs → x ≡ get_or xs i x → slice_get (map f xs) i ≡ Some (f x)
some_at f xs i x inside is =
    at_place f xs i ∙ ap (option_map f) (slice_get_read xs (length xs) i x refl inside is)

pub none_in : {A : Type 0} (xs : List A) → length xs ≡ 0 → xs ≡ []
none_in [] is = refl
none_in (x ∷ xs) is = absurd cc

-- the notes of one instance more
pub more_notes : (before after : List Note) (waits left : List Above) (own : Placement) (others : List Placement) → after ≡ before ++ placement_notes (next_of waits) own → left ≡ coming waits own → after ++ notes_from left others ≡ before ++ notes_from waits (own ∷ others)
more_notes before after waits left own others told next =
    ap (λ notes. notes ++ notes_from left others) told
    ∙ ap (λ still. (before ++ placement_notes (next_of waits) own) ++ notes_from still others) next
    ∙ append_assoc before (placement_notes (next_of waits) own) (notes_from (coming waits own) others)

-- the instance in a place, and those behind it
pub next_placement : (made : List Made) (seen : List Placement) (place : ℕ) (other : Made) → place < length made → map placement made ≡ seen → drop place seen ≡ placement (get_or made place other) ∷ drop (place + 1) seen
next_placement made seen place other inside same =
    subst (λ (all : List Placement). drop place all ≡ placement (get_or made place other) ∷ drop (place + 1) all) same
    (drop-map placement place made
    ∙ ap (map placement) (drop_more made place other inside)
    ∙ ap (λ others. placement (get_or made place other) ∷ others) (sym (drop-map placement (place + 1) made)))
