-- One step of a loop over statements.
use Rattle.std.proofs.Common.{◌≡◌, ◌∙◌, List, ◌∷◌, Option, sym, ap}
use Rattle.std.specs.List.{flat_map}
use Rattle.text_ground.specs.declared.text.Spot.{Spot}
use Rattle.check_loops.specs.check_found.Marked.{joined, least_of}
use Rattle.check_loops.proofs.check_found_proofs.Places.{joined_assoc, least_append}

pub list_step : {A : Type 0} (f : A → List Spot) (rest : List A) (x : A) (xs : List A) → xs ≡ x ∷ rest → (old new all : Option Spot) → new ≡ joined old (least_of (f x)) → joined old (least_of (flat_map f xs)) ≡ all → joined new (least_of (flat_map f rest)) ≡ all
list_step f rest x xs left old new all is h =
    ap (λ o. joined o (least_of (flat_map f rest))) is
    ∙ joined_assoc old (least_of (f x)) (least_of (flat_map f rest))
    ∙ ap (joined old) (sym (least_append (f x) (flat_map f rest)))
    ∙ ap (λ ys. joined old (least_of (flat_map f ys))) (sym left) ∙ h
