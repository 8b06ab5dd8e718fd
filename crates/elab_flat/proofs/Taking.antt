-- Instances in a row, from which what they declare is taken one after the other.
use Rattle.std.specs.Prelude.{ℕ, ◌+◌, ◌-◌, ◌<◌, length, drop, take, List, ◌∷◌, ◌++◌, map, Result, Ok, Err, IfSome, OnOk}
use Rattle.std.specs.List.{flat_map, slice_get}
use Rattle.std.specs.Option.{option_map}
use Rattle.std.proofs.Common.{◌≡◌, ◌∙◌, ap, get_or, refl, subst, sym}
use Rattle.std.proofs.Math.ListN.{get_or-map}
use Rattle.std.proofs.lemmas.List.{at_drop_more, drop-map, take_rest}
use Rattle.std.proofs.lemmas.Option.{slice_get-get_or, slice_get-map}
use Rattle.rtl_flat.specs.declared.signal.Signal.{Signal}
use Rattle.elab_walk.specs.declared.trail.Placement.{Placement as Made}
use Rattle.elab_walk.specs.Placements.{Placement, signals_at}
use Rattle.elab_walk.specs.Trails.{placement}
use Rattle.elab_walk.specs.Visits.{Library}
use Rattle.elab_walk.proofs.elab_parts_proofs.Rows.{more_made}
use Rattle.elab_flat.specs.Works.{Works, with_placement, with_placements}

-- what holds in any case
pub always : {T E : Type 0} (P : Type 0) → P → (r : Result T E) → OnOk r P
always P h (Ok value) = h
always P h (Err error) = tt

-- what contracts see of the instance in a place
pub seen_at : (made : List Made) (i : ℕ) (at : Made) → at ≡ get_or made i at → placement at ≡ get_or (map placement made) i (placement at)
seen_at made i at is = ap placement is ∙ sym (get_or-map placement made i at)

-- what holds of the instance that is read in a place, of the one there
pub to_read : (P : Placement → Type 0) (made : List Made) (place : ℕ) (at : Made) → place < length made → P (placement (get_or made place at)) → IfSome (slice_get (map placement made) place) P
to_read P made place at inside h =
    subst (λ o. IfSome o P) (sym (slice_get-map placement made place ∙ ap (option_map placement) (slice_get-get_or made place at inside))) h

-- the signals of one instance more
pub more_signals : (before after : List Signal) (all : List Placement) (i : ℕ) (p : Placement) → i < length all → p ≡ get_or all i p → after ≡ before ++ signals_at p → after ++ flat_map signals_at (drop (i + 1) all) ≡ before ++ flat_map signals_at (drop i all)
more_signals before after all i p inside is told =
    more_made (flat_map signals_at) signals_at (λ at others. refl) before after all i p (before ++ flat_map signals_at (drop i all)) inside is told refl

-- what is behind an instance
pub behind_it : (made : List Made) (place : ℕ) → map placement (take (length made - (place + 1)) (drop (place + 1) made)) ≡ drop (place + 1) (map placement made)
behind_it made place =
    ap (map placement) (take_rest made (place + 1)) ∙ sym (drop-map placement (place + 1) made)

-- the processes of one instance more
pub more_works : (library : Library) (before after : Works) (all behind : List Placement) (i : ℕ) (p : Placement) → i < length all → p ≡ get_or all i p → behind ≡ drop (i + 1) all → after ≡ with_placement library before p behind → with_placements library after (drop (i + 1) all) ≡ with_placements library before (drop i all)
more_works library before after all behind i p inside is others told =
    ap (λ works. with_placements library works (drop (i + 1) all)) told
    ∙ ap (λ ps. with_placements library (with_placement library before p ps) (drop (i + 1) all)) others
    ∙ ap (λ x. with_placements library before (x ∷ drop (i + 1) all)) is
    ∙ sym (at_drop_more (λ ps. with_placements library before ps) all i p inside)
