-- Answers that are kept beside what they looked up, and when they still hold.
-- Worked examples: proofs/Example.antt.
use Rattle.std.specs.Prelude.{ℕ, ◌==◌, ◌&&◌, not, Bool, true, false, bytes_eq, find, if◌then◌else◌, List, [], ◌∷◌, Option, None, Some, filter, position, slice_get}
use Rattle.std.specs.List.{list_all, list_any}
use Rattle.std.specs.Option.{option_map}
use Rattle.rtl_tree.specs.TreeModule.{Circuit}
use Rattle.rtl_prep.specs.Conditions.{FileConditions}
use Rattle.check_conditions.specs.Foreign.{elsewhere_in}
use Rattle.elab_lookups.specs.elab_links.Modules.{all_placed, found}
use Rattle.elab_lookups.specs.elab_links.declared.module_set.Lookup.{Lookup}
use Rattle.elab_lookups.specs.elab_links.declared.module_set.Lookup.TheVariants.{Missing, Found, Twice}
use Rattle.elab_lookups.specs.declared.look_up.LookUp.{LookUp}
use Rattle.desk_files.specs.Sources.{is_named}
use Rattle.source_file.specs.declared.SourceFile.{SourceFile}
use Rattle.source_file.specs.SourceFiles.{texts_in}
use Rattle.desk_memo.specs.Readings.{AllRead}
use Rattle.desk_memo.specs.declared.answer.Answer.{Answer}

-- an answer with its top, the names that it looked up, whose places number its files among themselves, the files that it used, in
-- the order of their names, and of each of these for which of the names that its conditions ask for another file had a macro
pub record Ruling (V : Type 0) : Type 0 where
  pub top : List ℕ
  pub look_ups : List LookUp
  pub used : List SourceFile
  pub elsewhere : List (List Bool)
  pub answer : Answer V

-- ---- when it still holds

abbrev pub is_same_name : Option SourceFile → Option SourceFile → Bool
is_same_name (Some file) (Some used) = bytes_eq file.name used.name
is_same_name _ _ = false

-- a name means what it meant: no module, more than one, or the same one of the file of the same name
abbrev pub is_same_lookup : List SourceFile → List SourceFile → Lookup → Lookup → Bool
is_same_lookup files used Missing Missing = true
is_same_lookup files used Twice Twice = true
is_same_lookup files used (Found now) (Found was) =
    is_same_name (slice_get files now.file) (slice_get used was.file) && now.index == was.index
is_same_lookup files used _ _ = false

abbrev pub is_meant : List SourceFile → List (List Circuit) → List SourceFile → LookUp → Bool
is_meant files modules used look_up =
    is_same_lookup files used (found (all_placed modules) look_up.name) look_up.meant

abbrev pub is_same_text : Option SourceFile → SourceFile → Bool
is_same_text None used = false
is_same_text (Some file) used = bytes_eq file.text used.text

-- the file of its name has its text still
abbrev pub is_there : List SourceFile → SourceFile → Bool
is_there files used = is_same_text (find (is_named used.name) files) used

-- the same Booleans
abbrev pub is_same_list : List Bool → List Bool → Bool
is_same_list [] [] = true
is_same_list (first ∷ others) (other ∷ more) =
    (if first then other else not other) && is_same_list others more
is_same_list _ _ = false

abbrev pub is_told_at : List FileConditions → Option ℕ → List Bool → Bool
is_told_at conditions None was = false
is_told_at conditions (Some number) was = is_same_list (elsewhere_in conditions number) was

-- the conditions of the file of its name are told the same: of the names that they ask for, other files
-- have those as macros which they had
abbrev pub is_told : List SourceFile → List FileConditions → SourceFile → List Bool → Bool
is_told files conditions used was =
    is_told_at conditions (position (is_named used.name) files) was

-- file by file
abbrev pub are_told : List SourceFile → List FileConditions → List SourceFile → List (List Bool) → Bool
are_told files conditions [] [] = true
are_told files conditions (file ∷ used) (was ∷ elsewhere) =
    is_told files conditions file was && are_told files conditions used elsewhere
are_told files conditions _ _ = false

-- each file that was used is there, its conditions are told the same of other files, and each name that
-- was looked up means what it meant
abbrev pub is_current : {V : Type 0} → List SourceFile → AllRead → Ruling V → Bool
is_current files all ruling =
    list_all (is_there files) ruling.used
    && are_told files all.conditions ruling.used ruling.elsewhere
    && list_all (is_meant files all.modules ruling.used) ruling.look_ups

abbrev pub is_of : {V : Type 0} → List ℕ → Ruling V → Bool
is_of top ruling = bytes_eq ruling.top top

abbrev pub is_current_of : {V : Type 0} → List SourceFile → AllRead → List ℕ → Ruling V → Bool
is_current_of files all top ruling = is_of top ruling && is_current files all ruling

-- the ruling of a top that still holds
abbrev pub current_of : {V : Type 0} → List SourceFile → AllRead → List ℕ → List (Ruling V) → Option (Ruling V)
current_of files all top rulings = find (is_current_of files all top) rulings

-- its answer
abbrev pub current_answer : {V : Type 0} → List SourceFile → AllRead → List ℕ → List (Ruling V) → Option (Answer V)
current_answer {V} files all top rulings =
    option_map (λ (ruling : Ruling V). ruling.answer) (current_of files all top rulings)

-- the rulings with this one: in place of the first of its top, or behind all
abbrev pub with_ruling : {V : Type 0} → Ruling V → List (Ruling V) → List (Ruling V)
with_ruling ruling [] = ruling ∷ []
with_ruling ruling (first ∷ others) =
    if is_of ruling.top first then ruling ∷ others else first ∷ with_ruling ruling others

-- the rulings of other tops
abbrev pub others_of : {V : Type 0} → List ℕ → List (Ruling V) → List (Ruling V)
others_of top rulings = filter (λ ruling. not (is_of top ruling)) rulings

-- ---- absent tops

abbrev pub is_found : Lookup → Bool
is_found Missing = false
is_found (Found place) = true
is_found Twice = false

abbrev pub is_own_module : List ℕ → LookUp → Bool
is_own_module top look_up = bytes_eq look_up.name top && is_found look_up.meant

-- no module, or more than one, had the top's own name
abbrev pub is_absent : {V : Type 0} → Ruling V → Bool
is_absent ruling = not (list_any (is_own_module ruling.top) ruling.look_ups)
