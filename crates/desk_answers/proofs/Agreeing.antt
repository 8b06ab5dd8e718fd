-- A ruling that still holds is what the files say of its top.
use Rattle.std.proofs.Common.{◌≡◌, ◌∙◌, ℕ, true, List, Result, map, ap, subst, sym}
use Rattle.std.specs.Prelude.{◌&&◌}
use Rattle.std.specs.List.{Contains, list_all}
use Rattle.std.proofs.lemmas.Bool.{and_parts}
use Rattle.rtl_tree.specs.TreeModule.{Circuit}
use Rattle.desk_memo.specs.rtl_prep.Conditions.{FileConditions}
use Rattle.desk_memo.specs.check_conditions.Foreign.{foreign_in}
use Rattle.desk_memo.specs.check_conditions.ToolNotes.{tool_noted}
use Rattle.desk_refusals.specs.elab_scope.Faults.{Answer as Fault}
use Rattle.elab_names.specs.elab_links.Modules.{all_placed, found}
use Rattle.elab_names.specs.elab_links.declared.module_set.Lookup.{Lookup}
use Rattle.elab_names.specs.Extracts.{IsStill, extract, files_at, number_at, renumbered}
use Rattle.elab_names.specs.LookUps.{AreUsed, looked_up}
use Rattle.elab_lookups.specs.declared.look_up.LookUp.{LookUp}
use Rattle.elab_names.specs.elab_walk.Visits.{Library}
use Rattle.rtl_flat.specs.Flats.{DesignParts}
use Rattle.elab_names.specs.rtl_elab.Designs.{library_of}
use Rattle.elab_names.specs.rtl_elab.Elaborated.{elaborated}
use Rattle.rtl_front.specs.Fronts.{AreAsked, AreSpelled}
use Rattle.desk_build.specs.Building.{Modules}
use Rattle.source_file.specs.declared.SourceFile.{SourceFile}
use Rattle.source_file.specs.SourceFiles.{texts_in}
use Rattle.desk_answers.specs.Fresh.{IsFresh, IsOfDesign, designed}
use Rattle.desk_memo.specs.Orders.{AreInOrder}
use Rattle.desk_memo.specs.Readings.{AllRead}
use Rattle.desk_memo.specs.Rulings.{Ruling, are_told, is_current, is_meant, is_there}
use Rattle.desk_answers.specs.Rulings.{IsRuling}
use Rattle.desk_memo.proofs.Among.{holds_of, named_among}
use Rattle.desk_memo.proofs.Found.{OneAsked}
use Rattle.desk_answers.proofs.Standing.{AreAt, are_at, ascending, only_there, read_there, same_count, sources_are, used_at}
use Rattle.desk_answers.proofs.Telling.{foreign_same}
use Rattle.desk_answers.proofs.Tests.{passes, same_lookup}

-- what holds of all libraries that have what a top uses
pub record Laws : Type 0 where
  pub design :
      (first second : Library) (top : List ℕ) (numbers others : List ℕ) → AreUsed first top numbers →
      IsStill first second top numbers others → elaborated (extract others second) top ≡ elaborated (extract numbers first) top
  pub files :
      (first second : Library) (top : List ℕ) (numbers others : List ℕ) → AreUsed first top numbers →
      IsStill first second top numbers others → AreUsed second top others

-- ---- what the top used is there

used_in : {V : Type 0} {says : DesignParts → V → Type 0} (ruling : Ruling V) (made : IsRuling says ruling) → AreAt made.files made.numbers ruling.used
used_in ruling made =
    subst (AreAt made.files made.numbers) (sym made.used_is)
    (used_at made.files made.modules ruling.top made.numbers made.read made.are_used)

same_meaning : {V : Type 0} {says : DesignParts → V → Type 0} (files : List SourceFile) (modules : List (List Circuit)) (ruling : Ruling V) (made : IsRuling says ruling) (numbers : List ℕ) → AreInOrder files → AreAt files numbers ruling.used → list_all (is_meant files modules ruling.used) ruling.look_ups ≡ true → (name : List ℕ) → Contains (looked_up (extract made.numbers (library_of made.modules)) ruling.top) name → found (all_placed modules) name ≡ renumbered (number_at numbers) ((extract made.numbers (library_of made.modules)).lookups name)
same_meaning files modules ruling made numbers order at meant name asked =
    let among = named_among (λ (it : LookUp). it.name) ruling.look_ups name ((made.looked_up.names name).1 asked) in
    let was = holds_of (λ (it : LookUp). (extract made.numbers (library_of made.modules)).lookups it.name ≡ it.meant) ruling.look_ups among.0 made.looked_up.meant among.1 in
    let now = same_lookup files ruling.used numbers (found (all_placed modules) among.0.name) among.0.meant order at (passes (is_meant files modules ruling.used) ruling.look_ups among.0 meant among.1) in
    subst (λ (it : List ℕ). found (all_placed modules) it ≡ renumbered (number_at numbers) ((extract made.numbers (library_of made.modules)).lookups it)) among.2
    (now ∙ ap (λ (it : Lookup). renumbered (number_at numbers) it) (sym was))

still : {V : Type 0} {says : DesignParts → V → Type 0} (files : List SourceFile) (modules : List (List Circuit)) (ruling : Ruling V) (made : IsRuling says ruling) (numbers : List ℕ) → AreInOrder files → AreSpelled (texts_in files) modules → AreAt files numbers ruling.used → list_all (is_meant files modules ruling.used) ruling.look_ups ≡ true → IsStill (library_of made.modules) (library_of modules) ruling.top made.numbers numbers
still files modules ruling made numbers order spelled at meant =
    let was = used_in ruling made in
    record {
      ascending = ascending made.files files made.numbers numbers ruling.used made.in_order order was at made.are_used.ascending;
      count = same_count files numbers ruling.used at ∙ sym (same_count made.files made.numbers ruling.used was);
      files =
          only_there files modules numbers ruling.used (files_at made.numbers made.modules) spelled at
          (read_there made.files made.modules made.numbers ruling.used made.read was);
      meant = same_meaning files modules ruling made numbers order at meant;
    }

-- ---- so the same is said of it

same_made : (laws : Laws) (first second : Library) (top : List ℕ) (numbers others : List ℕ) (was now : List FileConditions) → AreUsed first top numbers → IsStill first second top numbers others → now ≡ was → tool_noted now (elaborated (extract others second) top) ≡ tool_noted was (elaborated (extract numbers first) top)
same_made laws first second top numbers others was now used agreed same =
    ap (λ (it : List FileConditions). tool_noted it (elaborated (extract others second) top)) same
    ∙ ap (λ (it : Result DesignParts Fault). tool_noted was it) (laws.design first second top numbers others used agreed)

pub still_fresh : {V : Type 0} {says : DesignParts → V → Type 0} (laws : Laws) → OneAsked → (files : List SourceFile) (all : AllRead) (ruling : Ruling V) → AreInOrder files → IsRuling says ruling → is_current files all ruling ≡ true → AreSpelled (texts_in files) all.modules → AreAsked (texts_in files) all.conditions → IsFresh says files ruling.top ruling.answer
still_fresh {V} {says} laws once files all ruling order made current spelled asked =
    let parts = and_parts (list_all (is_there files) ruling.used && are_told files all.conditions ruling.used ruling.elsewhere) (list_all (is_meant files all.modules ruling.used) ruling.look_ups) current in
    let first_two = and_parts (list_all (is_there files) ruling.used) (are_told files all.conditions ruling.used ruling.elsewhere) parts.0 in
    let there = are_at files ruling.used first_two.0 in
    let agreed = still files all.modules ruling made there.0 order spelled there.1 parts.1 in
    let foreign =
    foreign_same once files made.files all.conditions made.conditions there.0 made.numbers ruling.used ruling.elsewhere
    (record { in_order = order; asked = asked }) (record { in_order = made.in_order; asked = made.asked })
    there.1 (used_in ruling made) made.elsewhere_is first_two.1
    in
    let first = library_of made.modules in
    let second = library_of all.modules in
    record {
      front = Modules all.modules all.conditions;
      is_front = (spelled, asked);
      is = record {
        numbers = there.0;
        are_used = laws.files first second ruling.top made.numbers there.0 made.are_used agreed;
        is =
            subst (λ (it : List SourceFile). IsOfDesign says it (designed all.modules all.conditions there.0 ruling.top) ruling.answer) (sym (sources_are files there.0 ruling.used there.1))
            (subst (λ (it : Result DesignParts Fault). IsOfDesign says ruling.used it ruling.answer)
            (sym (same_made laws first second ruling.top made.numbers there.0 (map (foreign_in made.conditions) made.numbers) (map (foreign_in all.conditions) there.0) made.are_used agreed foreign)) made.is);
      };
    }
