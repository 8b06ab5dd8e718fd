-- Where all that a top used of a library is still there, elaboration makes the same of it, and it uses the same files.
use Rattle.std.specs.List.{Contains}
use Rattle.std.specs.Option.{option_map}
use Rattle.std.proofs.Common.{◌≡◌, ◌∙◌, ℕ, ◌<◌, List, length, None, Some, Result, Ok, Err, refl, sym, ap, subst}
use Rattle.std.proofs.lemmas.List.Elements.{Contains-get_or}
use Rattle.rtl_tree.specs.TreeModule.{Circuit}
use Rattle.rtl_elab.specs.elab_scope.Faults.{Answer, Memory, Named, Placed}
use Rattle.rtl_elab.specs.elab_links.declared.module_set.Lookup.{Lookup}
use Rattle.rtl_elab.specs.elab_links.declared.module_set.Lookup.TheVariants.{Missing, Found, Twice}
use Rattle.rtl_elab.specs.elab_links.declared.module_set.Place.{Place}
use Rattle.rtl_elab.specs.elab_links.Modules.{circuit_at}
use Rattle.rtl_elab.specs.elab_walk.Visits.{Library}
use Rattle.rtl_flat.specs.Flats.{DesignParts}
use Rattle.rtl_elab.specs.Elaborated.{elaborated, refused}
use Rattle.elab_names.specs.Extracts.{IsStill, extract, number_at, place_in, renumbered}
use Rattle.elab_names.specs.LookUps.{AreUsed, IsUsed, looked_up}
use Rattle.elab_names.specs.Moves.{moved_answer, moved_place}
use Rattle.elab_names.proofs.Extracting.{file_among, looked_up_same}
use Rattle.elab_names.proofs.Moving.{AgreeBy, design_by, looked_up_by, refused_by}
use Rattle.elab_names.proofs.Numbering.{circuit_numbered, place_at, place_of}

-- ---- where all numbers stay

abbrev stay : ℕ → ℕ
stay number = number

lookup_stays : (lookup : Lookup) → lookup ≡ renumbered stay lookup
lookup_stays Missing = refl
lookup_stays (Found place) = refl
lookup_stays Twice = refl

answer_stays : (answer : Answer) → moved_answer stay answer ≡ answer
answer_stays Memory = refl
answer_stays (Named breach) = refl
answer_stays (Placed breach spot) = refl

told_as : (made : Result DesignParts Answer) (answer : Answer) → refused made ≡ Some answer → made ≡ Err answer
told_as (Ok flat) answer is = absurd cc
told_as (Err other) answer is =
    let same : other ≡ answer = cc in
    ap (λ (one : Answer). Err one) same

module _ (first second : Library) (top : List ℕ) (same : AgreeBy stay first second top) where
  itself : AgreeBy stay first first top
  itself name asked =
      record { lookup = lookup_stays (first.lookups name); circuit = λ place is. refl }

  made_same : (made : Result DesignParts Answer) → elaborated first top ≡ made → elaborated second top ≡ elaborated first top
  made_same (Ok flat) is =
      let none : refused (elaborated first top) ≡ None = ap refused is in
      design_by stay first second top same none ∙ sym (design_by stay first first top itself none)
  made_same (Err answer) is =
      let told : refused (elaborated second top) ≡ Some answer
      = refused_by stay first second top same
      ∙ ap (λ (made : Result DesignParts Answer). option_map (moved_answer stay) (refused made)) is
      ∙ ap (λ (one : Answer). Some one) (answer_stays answer) in
      told_as (elaborated second top) answer told ∙ sym is

  all_same : elaborated second top ≡ elaborated first top
  all_same = made_same (elaborated first top) refl

-- ---- what is renumbered

-- a name that means a module where files have other numbers means it where they don't
before : (number : ℕ → ℕ) (lookup : Lookup) (place : Place) → renumbered number lookup ≡ Found place → (old : Place) × (lookup ≡ Found old) × (moved_place number old ≡ place)
before number Missing place is = absurd cc
before number (Found old) place is = (old, refl, cc)
before number Twice place is = absurd cc

module _ (first second : Library) (top : List ℕ) (numbers others : List ℕ) (are : AreUsed first top numbers) (still : IsStill first second top numbers others) where
  abbrev used : Library
  used = extract numbers first

  asked_first : (name : List ℕ) → Contains (looked_up used top) name → Contains (looked_up first top) name
  asked_first name asked =
      subst (λ (names : List (List ℕ)). Contains names name) (looked_up_same first top numbers are) asked

  asked_used : (name : List ℕ) → Contains (looked_up first top) name → Contains (looked_up used top) name
  asked_used name asked =
      subst (λ (names : List (List ℕ)). Contains names name) (sym (looked_up_same first top numbers are)) asked

  -- a name that is looked up means a module in one of the files
  inside : (name : List ℕ) (place : Place) → Contains (looked_up used top) name → used.lookups name ≡ Found place → place.file < length others
  inside name place asked is =
      let (old, found, moved) = before (place_in numbers) (first.lookups name) place is in
      let (below, number) = place_of numbers old.file (file_among first top numbers are name old (asked_first name asked) found) in
      subst (λ (count : ℕ). place.file < count) (sym still.count)
      (subst (λ (p : Place). p.file < length numbers) moved below)

  agrees_still : AgreeBy (number_at others) used second top
  agrees_still name asked =
      record {
        lookup = still.meant name asked;
        circuit = λ place is.
            sym (circuit_numbered others second.files place (inside name place asked is))
            ∙ ap (λ (files : List (List Circuit)). circuit_at files place) still.files;
      }

  asked_second : looked_up second top ≡ looked_up used top
  asked_second = looked_up_by (number_at others) used second top agrees_still

  -- ---- the same design

  back : (lookup : Lookup) → ((place : Place) → lookup ≡ Found place → place.file < length others) → renumbered (place_in others) (renumbered (number_at others) lookup) ≡ renumbered stay lookup
  back Missing below = refl
  back (Found place) below =
      ap (λ (file : ℕ). Found (record { file = file; index = place.index }))
      (place_at others still.ascending place.file (below place refl))
  back Twice below = refl

  agrees_used : AgreeBy stay used (extract others second) top
  agrees_used name asked =
      record {
        lookup =
            ap (renumbered (place_in others)) (still.meant name asked)
            ∙ back (used.lookups name) (λ place is. inside name place asked is);
        circuit = λ place is. ap (λ (files : List (List Circuit)). circuit_at files place) still.files;
      }

  pub design_same : elaborated (extract others second) top ≡ elaborated used top
  design_same = all_same used (extract others second) top agrees_used

  -- ---- the same files

  file_used : (file : ℕ) → Contains others file → IsUsed second top file
  file_used file among =
      let (below, number) = place_of others file among in
      let within : place_in others file < length numbers
      = subst (λ (count : ℕ). place_in others file < count) still.count below in
      let was : IsUsed first top (number_at numbers (place_in others file))
      = (are.each (number_at numbers (place_in others file))).0 (Contains-get_or numbers (place_in others file) 0 within) in
      let asked : Contains (looked_up used top) was.name = asked_used was.name was.asked in
      record {
        name = was.name;
        index = was.index;
        asked = subst (λ (names : List (List ℕ)). Contains names was.name) (sym asked_second) asked;
        means =
            still.meant was.name asked
            ∙ ap (λ (lookup : Lookup). renumbered (number_at others) (renumbered (place_in numbers) lookup)) was.means
            ∙ ap (λ (at : ℕ). Found (record { file = number_at others at; index = was.index }))
            (place_at numbers are.ascending (place_in others file) within)
            ∙ ap (λ (n : ℕ). Found (record { file = n; index = was.index })) number;
      }

  used_file : (file : ℕ) → IsUsed second top file → Contains others file
  used_file file is =
      let asked : Contains (looked_up used top) is.name
      = subst (λ (names : List (List ℕ)). Contains names is.name) asked_second is.asked in
      let (old, found, moved) = before (number_at others) (used.lookups is.name) (record { file = file; index = is.index }) (sym (still.meant is.name asked) ∙ is.means) in
      subst (λ (place : Place). Contains others place.file) moved
      (Contains-get_or others old.file 0 (inside is.name old asked found))

  pub files_same : AreUsed second top others
  files_same =
      record { ascending = still.ascending; each = λ file. (file_used file, used_file file) }
