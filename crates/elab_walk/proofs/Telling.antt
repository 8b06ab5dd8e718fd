-- What is told on the walk, and where it stops.
use Rattle.std.specs.Prelude.{ℕ, ◌-◌, ◌<◌, zero, suc, List, [], ◌∷◌, ◌++◌, Option, None, Some}
use Rattle.std.specs.List.{flat_map}
use Rattle.std.proofs.Common.{◌≡◌, ◌∙◌, ap, refl, subst, sym, arith}
use Rattle.std.proofs.lemmas.Grind.{flat_map-append}
use Rattle.rtl_tree.specs.TreeItem.{ModuleItem}
use Rattle.elab_links.specs.elab_scope.Faults.{Answer, Memory, Named, Placed}
use Rattle.elab_walk.specs.Refusals.{told_of}
use Rattle.elab_walk.specs.Trails.{Going, Gone, IsStopped, IsTold, Refused, Trail, extended, followed, gone, passed_by, step}
use Rattle.elab_walk.specs.Visits.{Holder, Library, Visit, children, holder_of, visits}

pub told_as : (a b : Answer) → a ≡ b → IsTold a (Some b)
told_as (Named breach) b h = ap Some (sym h)
told_as (Placed breach spot) b h = ap Some (sym h)
told_as Memory b h = tt

-- nothing counts behind what is told
pub refused_stays : (library : Library) (trail : Trail) (told : Answer) (vs : List Visit) → gone library (Refused trail told) vs ≡ Refused trail told
refused_stays library trail told [] = refl
refused_stays library trail told (v ∷ vs) = refused_stays library trail told vs

pub still_stopped : (library : Library) (a : Answer) (end : Trail) (g : Gone) (vs : List Visit) → IsStopped a end g → IsStopped a end (gone library g vs)
still_stopped library (Named breach) end g vs h =
    ap (λ g. gone library g vs) h ∙ refused_stays library end (Named breach) vs
still_stopped library (Placed breach spot) end g vs h =
    ap (λ g. gone library g vs) h ∙ refused_stays library end (Placed breach spot) vs
still_stopped library Memory end g vs h = tt

pub gone_append : (library : Library) (g : Gone) (xs ys : List Visit) → gone library g (xs ++ ys) ≡ gone library (gone library g xs) ys
gone_append library g [] ys = refl
gone_append library g (x ∷ xs) ys = gone_append library (step library g x) xs ys

-- instances with all that they hold, one behind the other
pub held_on : (library : Library) (levels : ℕ) (g : Gone) (xs ys : List Visit) → gone library g (flat_map (visits library levels) (xs ++ ys)) ≡ gone library (gone library g (flat_map (visits library levels) xs)) (flat_map (visits library levels) ys)
held_on library levels g xs ys =
    ap (gone library g) (flat_map-append (visits library levels) xs ys)
    ∙ gone_append library g (flat_map (visits library levels) xs) (flat_map (visits library levels) ys)

pub stopped_on : (library : Library) (levels : ℕ) (a : Answer) (end : Trail) (g whole : Gone) (xs ys : List Visit) → gone library g (flat_map (visits library levels) (xs ++ ys)) ≡ whole → IsStopped a end (gone library g (flat_map (visits library levels) xs)) → IsStopped a end whole
stopped_on library levels a end g whole xs ys is h =
    subst (λ (w : Gone). IsStopped a end w) (sym (held_on library levels g xs ys) ∙ is) (still_stopped library a end (gone library g (flat_map (visits library levels) xs)) (flat_map (visits library levels) ys) h)

pub visits_at : (library : Library) (levels : ℕ) (v : Visit) → 0 < levels → visits library levels v ≡ v ∷ flat_map (visits library (levels - 1)) (children library (holder_of v) v.circuit.items)
visits_at library zero v h = absurd (omega arith)
visits_at library (suc levels) v h =
    let e : levels ≡ suc levels - 1 = omega arith in
    ap (λ n. v ∷ flat_map (visits library n) (children library (holder_of v) v.circuit.items)) e

stops_first : (library : Library) (a : Answer) (trail : Trail) (v : Visit) (told : Option Answer) → IsTold a told → IsStopped a (followed trail v trail.room) (passed_by library trail v told)
stops_first library (Named breach) trail v told h = ap (passed_by library trail v) h
stops_first library (Placed breach spot) trail v told h = ap (passed_by library trail v) h
stops_first library Memory trail v told h = tt

-- the walk stops at an instance of which something is told, and that one is on the trail
pub stopped_there : (library : Library) (levels : ℕ) (a : Answer) (trail end : Trail) (v : Visit) → 0 < levels → end ≡ followed trail v trail.room → IsTold a (told_of library trail.room v) → IsStopped a end (gone library (Going trail) (visits library levels v))
stopped_there library levels a trail end v some after h =
    let below : List Visit =
    flat_map (visits library (levels - 1)) (children library (holder_of v) v.circuit.items) in
    let last : Trail = followed trail v trail.room in
    let stops : IsStopped a last (gone library (Going trail) (v ∷ below)) =
    still_stopped library a last (step library (Going trail) v) below (stops_first library a trail v (told_of library trail.room v) h) in
    subst (λ (t : Trail). IsStopped a t (gone library (Going trail) (visits library levels v))) (sym after) (subst (λ (vs : List Visit). IsStopped a last (gone library (Going trail) vs)) (sym (visits_at library levels v some)) stops)

-- an instance of which nothing is told, and behind it what it holds
pub gone_there : (library : Library) (levels : ℕ) (trail : Trail) (v : Visit) → 0 < levels → told_of library trail.room v ≡ None → gone library (Going trail) (visits library levels v) ≡ gone library (Going (extended library trail v)) (flat_map (visits library (levels - 1)) (children library (holder_of v) v.circuit.items))
gone_there library levels trail v some nothing =
    ap (gone library (Going trail)) (visits_at library levels v some)
    ∙ ap (λ told. gone library (passed_by library trail v told) (flat_map (visits library (levels - 1)) (children library (holder_of v) v.circuit.items))) nothing

-- the same with what the code makes of the trail, of the instance and of its items
pub gone_with : (library : Library) (levels : ℕ) (before behind : Trail) (v : Visit) (holder : Holder) (items : List ModuleItem) → 0 < levels → told_of library before.room v ≡ None → behind ≡ extended library before v → holder ≡ holder_of v → items ≡ v.circuit.items → gone library (Going before) (visits library levels v) ≡ gone library (Going behind) (flat_map (visits library (levels - 1)) (children library holder items))
gone_with library levels before behind v holder items some nothing after held all =
    gone_there library levels before v some nothing
    ∙ sym (ap (λ t. gone library (Going t) (flat_map (visits library (levels - 1)) (children library (holder_of v) v.circuit.items))) after)
    ∙ sym (ap (λ h. gone library (Going behind) (flat_map (visits library (levels - 1)) (children library h v.circuit.items))) held)
    ∙ sym (ap (λ i. gone library (Going behind) (flat_map (visits library (levels - 1)) (children library holder i))) all)
