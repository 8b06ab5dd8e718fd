-- The names that are looked up where elaboration comes to some instances, and the files that they mean.
use Rattle.std.specs.List.{All, Contains}
use Rattle.std.proofs.Common.{◌≡◌, ◌∙◌, ℕ, ◌+◌, zero, suc, List, [], ◌∷◌, length, map, refl, sym, ap, subst, arith}
use Rattle.std.proofs.lemmas.List.Elements.{All-contains, All-map}
use Rattle.rtl_elab.specs.elab_links.declared.module_set.Lookup.{Lookup}
use Rattle.rtl_elab.specs.elab_links.declared.module_set.Lookup.TheVariants.{Found}
use Rattle.rtl_elab.specs.elab_items.Scopes.{listings_of}
use Rattle.rtl_elab.specs.elab_walk.declared.trail.Placement.{Placement as Made}
use Rattle.rtl_elab.specs.elab_walk.Placements.{Placement, placements}
use Rattle.rtl_elab.specs.elab_walk.Trails.{placement}
use Rattle.rtl_elab.specs.elab_walk.Visits.{Library, Visit, visit}
use Rattle.rtl_elab.specs.Elaborated.{visited}
use Rattle.elab_lookups.specs.declared.look_up.LookUp.{LookUp}
use Rattle.elab_names.specs.Asking.{AreFound, names_of}
use Rattle.elab_names.specs.Extracts.{extract, place_in, renumbered}
use Rattle.elab_names.specs.LookUps.{AreLookUps, AreUsed, IsUsed, looked_up, names_by}
use Rattle.elab_names.specs.Moves.{AreFilesOf, HasFile, moved_look_up}

-- ---- lists

contains_seen : {X Y : Type 0} (f : X → Y) (xs : List X) (x : X) → Contains xs x → Contains (map f xs) (f x)
contains_seen f [] x (k, below, is) = absurd (omega (arith, below))
contains_seen f (y ∷ ys) x (zero, below, is) = (zero, omega arith, ap f is)
contains_seen f (y ∷ ys) x (suc k, below, is) =
    let (j, inside, same) = contains_seen f ys x (k, omega (arith, below), is) in
    (suc j, omega (arith, inside), same)

seen_of : {X Y : Type 0} (f : X → Y) (xs : List X) (y : Y) → Contains (map f xs) y → (x : X) × Contains xs x × (f x ≡ y)
seen_of f [] y (k, below, is) = absurd (omega (arith, below))
seen_of f (x ∷ xs) y (zero, below, is) = (x, (zero, omega arith, refl), is)
seen_of f (x ∷ xs) y (suc k, below, is) =
    let (found, (j, inside, same), gives) = seen_of f xs y (k, omega (arith, below), is) in
    (found, (suc j, omega (arith, inside), same), gives)

-- ---- the instances

visits_of : (number base : ℕ) (vs : List Visit) → map (λ (p : Placement). p.visit) (placements number base vs) ≡ vs
visits_of number base [] = refl
visits_of number base (first ∷ others) =
    ap (λ (rest : List Visit). first ∷ rest) (visits_of (number + 1) (base + length (listings_of first.settings first.circuit)) others)

visits_seen : (made : List Made) → map (λ (p : Placement). p.visit) (map placement made) ≡ map (λ (p : Made). visit p.visit) made
visits_seen [] = refl
visits_seen (first ∷ others) = ap (λ (rest : List Visit). visit first.visit ∷ rest) (visits_seen others)

-- ---- the names and the files

module _ (library : Library) (top : List ℕ) where
  -- the names of the instances to which elaboration comes are all that the top looks up
  pub all_found : (made : List Made) (found : List LookUp) → map placement made ≡ placements 0 0 (visited library top) → AreFound library.lookups (top ∷ names_by (map (λ (p : Made). visit p.visit) made)) found → AreFound library.lookups (looked_up library top) found
  all_found made found is are =
      subst (λ (vs : List Visit). AreFound library.lookups (top ∷ names_by vs) found)
      (sym (visits_seen made) ∙ ap (map (λ (p : Placement). p.visit)) is ∙ visits_of 0 0 (visited library top))
      are

  -- their files are those that it uses
  pub all_used : (found : List LookUp) (numbers : List ℕ) → AreFound library.lookups (looked_up library top) found → AreFilesOf found numbers → AreUsed library top numbers
  all_used found numbers are files =
      record {
        ascending = files.ascending;
        each = λ file. (λ h. to file ((files.each file).0 h), λ used. (files.each file).1 (from file used));
      }
    where
      to : (file : ℕ) → HasFile found file → IsUsed library top file
      to file has =
          record {
            name = has.look_up.name;
            index = has.index;
            asked = (are.each has.look_up.name).0 (contains_seen (λ (one : LookUp). one.name) found has.look_up has.among);
            means =
                All-contains (λ (one : LookUp). library.lookups one.name ≡ one.meant) found has.look_up are.meant has.among ∙ has.means;
          }

      from : (file : ℕ) → IsUsed library top file → HasFile found file
      from file used =
          let (one, among, same) = seen_of (λ (one : LookUp). one.name) found used.name ((are.each used.name).1 used.asked) in
          record {
            look_up = one;
            index = used.index;
            among = among;
            means =
                sym (All-contains (λ (one : LookUp). library.lookups one.name ≡ one.meant) found one are.meant among)
                ∙ ap library.lookups same
                ∙ used.means;
          }

  -- the same of what the code has of them
  pub used_there : (made : List Made) (found seen : List LookUp) (numbers : List ℕ) → map placement made ≡ placements 0 0 (visited library top) → AreFound library.lookups (top ∷ names_by (map (λ (p : Made). visit p.visit) made)) found → seen ≡ found → AreFilesOf seen numbers → AreUsed library top numbers
  used_there made found seen numbers is are same files =
      all_used found numbers (all_found made found is are) (subst (λ (all : List LookUp). AreFilesOf all numbers) same files)

  -- in those files they mean the same
  pub all_look_ups : (found : List LookUp) (numbers : List ℕ) → looked_up (extract numbers library) top ≡ looked_up library top → AreFound library.lookups (looked_up library top) found → AreLookUps (extract numbers library) top (map (moved_look_up (place_in numbers)) found)
  all_look_ups found numbers same are =
      record {
        names = λ name. (
          λ among. subst (λ (all : List (List ℕ)). Contains all name) (sym same)
              ((are.each name).0 (subst (λ (all : List (List ℕ)). Contains all name) (names_stay found) among)),
          λ among. subst (λ (all : List (List ℕ)). Contains all name) (sym (names_stay found))
              ((are.each name).1 (subst (λ (all : List (List ℕ)). Contains all name) same among)),
        );
        meant =
            All-map (λ (one : LookUp). (extract numbers library).lookups one.name ≡ one.meant) (moved_look_up number) found
            (λ k d inside. ap (renumbered number) (are.meant k d inside));
      }
    where
      number : ℕ → ℕ
      number = place_in numbers

      names_stay : (all : List LookUp) → names_of (map (moved_look_up number) all) ≡ names_of all
      names_stay [] = refl
      names_stay (first ∷ others) = ap (λ (rest : List (List ℕ)). first.name ∷ rest) (names_stay others)
