-- What is made of a top in the files that it uses, from what the code makes of its instances there.
use Rattle.std.specs.Option.{option_map}
use Rattle.std.proofs.Common.{◌≡◌, ◌∙◌, ℕ, List, ◌++◌, length, map, take, None, Some, Result, Ok, Err, sym, ap}
use Rattle.std.proofs.lemmas.List.{take_at}
use Rattle.rtl_elab.specs.elab_scope.Faults.{Answer}
use Rattle.rtl_elab.specs.elab_walk.declared.trail.Placement.{Placement as Made}
use Rattle.rtl_elab.specs.elab_walk.Placements.{Placement, placements}
use Rattle.rtl_elab.specs.elab_walk.Trails.{placement}
use Rattle.rtl_elab.specs.elab_walk.Visits.{Library}
use Rattle.rtl_flat.specs.Flats.{DesignParts}
use Rattle.rtl_elab.specs.Elaborated.{elaborated, made_of, refused, visited}
use Rattle.elab_names.specs.Extracts.{extract, place_in}
use Rattle.elab_names.specs.LookUps.{AreUsed}
use Rattle.elab_names.specs.Moves.{moved_answer, moved_placement}
use Rattle.elab_names.proofs.Extracting.{design_moved, refusal_moved}

-- what is read of instances after they are moved where they stand
pub moved_back : (numbers read : List ℕ) (before given after shown rest : List Made) (n : ℕ) → given ≡ before → read ≡ numbers → map placement after ≡ map (moved_placement (place_in read)) (map placement given) → length after ≡ n → shown ≡ take n (after ++ rest) → map placement shown ≡ map (moved_placement (place_in numbers)) (map placement before)
moved_back numbers read before given after shown rest n same_given same_read moved size is =
    ap (map placement) (is ∙ take_at after rest n size)
    ∙ moved
    ∙ ap (λ (all : List ℕ). map (moved_placement (place_in all)) (map placement given)) same_read
    ∙ ap (λ (all : List Made). map (moved_placement (place_in numbers)) (map placement all)) same_given

by_refusal : (made : Result DesignParts Answer) (told : Answer) → refused made ≡ Some told → made ≡ Err told
by_refusal (Ok flat) told is = absurd cc
by_refusal (Err other) told is = cc

module _ (library : Library) (top : List ℕ) (numbers : List ℕ) (used : AreUsed library top numbers) where
  -- why there is no design
  pub refused_there : (told moved : Answer) → Some told ≡ refused (elaborated library top) → moved ≡ moved_answer (place_in numbers) told → elaborated (extract numbers library) top ≡ Err moved
  refused_there told moved is so =
      by_refusal (elaborated (extract numbers library) top) moved
      (refusal_moved library top numbers used
      ∙ ap (option_map (moved_answer (place_in numbers))) (sym is)
      ∙ ap (λ (a : Answer). Some a) (sym so))

  -- the design
  pub made_there : (before after : List Placement) (made : DesignParts) → None ≡ refused (elaborated library top) → before ≡ placements 0 0 (visited library top) → after ≡ map (moved_placement (place_in numbers)) before → made ≡ made_of library after → elaborated (extract numbers library) top ≡ Ok made
  made_there before after made nothing come moved is =
      design_moved library top numbers used (sym nothing)
      ∙ ap (λ (all : List Placement). Ok (made_of library (map (moved_placement (place_in numbers)) all))) (sym come)
      ∙ ap (λ (all : List Placement). Ok (made_of library all)) (sym moved)
      ∙ ap (λ (m : DesignParts). Ok m) (sym is)
