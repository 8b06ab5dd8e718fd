-- Settings that are seen one by one.
use Rattle.std.proofs.Common.{◌<◌, List, length, map, sym, subst}
use Rattle.std.specs.List.{All}
use Rattle.std.proofs.lemmas.List.{get_or-map, length-map}
use Rattle.std.proofs.lemmas.List.Elements.{All-from_get_or, All-get_or}

pub all_map : {A B : Type 0} (P : B → Type 0) (f : A → B) (xs : List A) (d : A) → All (λ x. P (f x)) xs → All P (map f xs)
all_map P f xs d all =
    All-from_get_or P (map f xs) (f d)
    (λ i below.
    let inside : i < length xs = subst (λ n. i < n) (length-map xs f) below in
    subst P (sym (get_or-map f xs i d (f d) inside)) (All-get_or (λ x. P (f x)) xs i d inside all))

pub map_all : {A B : Type 0} (P : B → Type 0) (f : A → B) (xs : List A) (d : A) → All P (map f xs) → All (λ x. P (f x)) xs
map_all P f xs d all =
    All-from_get_or (λ x. P (f x)) xs d
    (λ i below.
    subst P (get_or-map f xs i d (f d) below)
    (All-get_or P (map f xs) i (f d) (subst (λ n. i < n) (sym (length-map xs f)) below) all))
