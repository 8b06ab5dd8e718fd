-- What instances hold in a row, on the walk.
use Rattle.std.specs.Prelude.{ℕ, ◌+◌, ◌<◌, length, drop, List, ◌∷◌, ◌++◌}
use Rattle.std.specs.List.{flat_map}
use Rattle.std.proofs.Common.{◌≡◌, ◌∙◌, ap, sym, get_or}
use Rattle.std.proofs.lemmas.List.{at_drop_more}
use Rattle.elab_links.specs.elab_scope.Faults.{Answer}
use Rattle.elab_walk.specs.Trails.{Gone, IsStopped, Trail, gone}
use Rattle.elab_walk.specs.Visits.{Library, Visit, visits}
use Rattle.elab_walk.proofs.Telling.{held_on, stopped_on}

abbrev all_gone : Library → ℕ → Gone → List Visit → Gone
all_gone library levels g vs = gone library g (flat_map (visits library levels) vs)

next : {X : Type 0} (library : Library) (levels : ℕ) (row : List X → List Visit) (own : X → List Visit) → ((x : X) (xs : List X) → row (x ∷ xs) ≡ own x ++ row xs) → (g : Gone) (all : List X) (i : ℕ) (item : X) (r : Gone) → i < length all → item ≡ get_or all i item → all_gone library levels g (row (drop i all)) ≡ r → all_gone library levels g (own item ++ row (drop (i + 1) all)) ≡ r
next library levels row own more g all i item r inside is earlier =
    sym (ap (all_gone library levels g) (more item (drop (i + 1) all)))
    ∙ ap (λ x. all_gone library levels g (row (x ∷ drop (i + 1) all))) is
    ∙ sym (at_drop_more (λ xs. all_gone library levels g (row xs)) all i item inside)
    ∙ earlier

-- one more of a row
pub more_gone : {X : Type 0} (library : Library) (levels : ℕ) (row : List X → List Visit) (own : X → List Visit) → ((x : X) (xs : List X) → row (x ∷ xs) ≡ own x ++ row xs) → (g g1 : Gone) (all : List X) (i : ℕ) (item : X) (r : Gone) → i < length all → item ≡ get_or all i item → gone library g (flat_map (visits library levels) (own item)) ≡ g1 → gone library g (flat_map (visits library levels) (row (drop i all))) ≡ r → gone library g1 (flat_map (visits library levels) (row (drop (i + 1) all))) ≡ r
more_gone library levels row own more g g1 all i item r inside is there earlier =
    sym (ap (λ d. all_gone library levels d (row (drop (i + 1) all))) there)
    ∙ sym (held_on library levels g (own item) (row (drop (i + 1) all)))
    ∙ next library levels row own more g all i item r inside is earlier

-- what stops the walk in a row stops it there
pub more_stopped : {X : Type 0} (library : Library) (levels : ℕ) (row : List X → List Visit) (own : X → List Visit) → ((x : X) (xs : List X) → row (x ∷ xs) ≡ own x ++ row xs) → (a : Answer) (end : Trail) (g : Gone) (all : List X) (i : ℕ) (item : X) (r : Gone) → i < length all → item ≡ get_or all i item → IsStopped a end (gone library g (flat_map (visits library levels) (own item))) → gone library g (flat_map (visits library levels) (row (drop i all))) ≡ r → IsStopped a end r
more_stopped library levels row own more a end g all i item r inside is there earlier =
    stopped_on library levels a end g r (own item) (row (drop (i + 1) all)) (next library levels row own more g all i item r inside is earlier) there
