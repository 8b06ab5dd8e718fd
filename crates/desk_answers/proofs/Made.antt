-- What is made of files that are as they were read is a ruling that holds.
use Rattle.std.proofs.Common.{◌≡◌, ◌∙◌, ◌+◌, ◌<◌, ℕ, zero, suc, Bool, true, false, List, [], ◌∷◌, length, map, ap, arith, refl, subst, sym}
use Rattle.std.specs.Prelude.{◌&&◌, if◌then◌else◌, Option, None, Some, Result, slice_get, slice_index_or}
use Rattle.std.specs.List.{Contains, list_all}
use Rattle.std.specs.Option.{option_map}
use Rattle.std.proofs.lemmas.Bool.{and_from}
use Rattle.std.proofs.lemmas.List.Elements.{All-contains_itself}
use Rattle.std.proofs.lemmas.List.Sums.{list_all-from_AllPass}
use Rattle.std.proofs.lemmas.Slice.Eq.{bytes_eq-Decides}
use Rattle.rtl_tree.specs.TreeModule.{Circuit}
use Rattle.desk_memo.specs.rtl_prep.Conditions.{FileConditions}
use Rattle.desk_memo.specs.check_conditions.Foreign.{elsewhere_in, foreign_in}
use Rattle.desk_memo.specs.check_conditions.ToolNotes.{tool_noted}
use Rattle.desk_refusals.specs.elab_scope.Faults.{Answer as Fault}
use Rattle.desk_refusals.specs.elab_scope.declared.fault.ElabFault.{ElabFault}
use Rattle.rtl_flat.specs.declared.design.Design.{Design}
use Rattle.elab_names.specs.elab_links.Modules.{all_placed, found}
use Rattle.elab_names.specs.elab_links.declared.module_set.Lookup.{Lookup}
use Rattle.elab_names.specs.elab_walk.Visits.{Library}
use Rattle.rtl_flat.specs.Flats.{DesignParts}
use Rattle.elab_names.specs.Extracts.{IsElaborated, extract}
use Rattle.elab_names.specs.LookUps.{AreLookUps, AreUsed, looked_up}
use Rattle.elab_lookups.specs.declared.look_up.LookUp.{LookUp}
use Rattle.elab_names.specs.rtl_elab.Designs.{library_of}
use Rattle.elab_names.specs.rtl_elab.Elaborated.{elaborated}
use Rattle.rtl_front.specs.Fronts.{AreAsked, AreSpelled}
use Rattle.source_file.specs.declared.SourceFile.{SourceFile}
use Rattle.source_file.specs.SourceFiles.{texts_in}
use Rattle.desk_answers.specs.Fresh.{IsOfDesign, designed, sources_at}
use Rattle.desk_memo.specs.declared.answer.Answer.{Answer}
use Rattle.desk_memo.specs.Orders.{AreInOrder}
use Rattle.desk_memo.specs.Readings.{AreReadings, IsReading, Reading, changed_count, file_at, is_as_read}
use Rattle.desk_memo.specs.Rulings.{Ruling, are_told, is_current, is_meant, is_same_lookup, is_there}
use Rattle.desk_answers.specs.Rulings.{IsRuling}
use Rattle.desk_memo.specs.Shown.{used_among}
use Rattle.desk_memo.proofs.Among.{first_among, later_among, same_filter}
use Rattle.desk_answers.proofs.Standing.{AreAt, all_there, used_at}
use Rattle.desk_answers.proofs.Telling.{all_told}
use Rattle.desk_answers.proofs.Tests.{same_itself}

-- ---- files as they were read

same_by : (same : Bool) (others : ℕ) → (if same then 0 else 1) + others ≡ 0 → (same ≡ true) × (others ≡ 0)
same_by true others none = (refl, omega arith)
same_by false others none = absurd (omega arith)

read_file : {V : Type 0} (file : SourceFile) (reading : Option (Reading V)) (circuits : List Circuit) → is_as_read file reading ≡ true → IsReading file reading circuits → option_map (λ (it : Reading V). it.file) reading ≡ Some file
read_file file None circuits same right = absurd (cc)
read_file file (Some reading) circuits same right =
    let text = (bytes_eq-Decides reading.file.text file.text).0 same in
    ap (λ (it : List ℕ). let made : SourceFile = record { name = it; text = reading.file.text } in Some made) right.0
    ∙ ap (λ (it : List ℕ). let made : SourceFile = record { name = file.name; text = it } in Some made) text

-- where no text has changed, a file as it was read is that of its number
file_is : {V : Type 0} (files : List SourceFile) (readings : List (Option (Reading V))) (modules : List (List Circuit)) → AreReadings files readings modules → changed_count files readings ≡ 0 → (number : ℕ) → file_at readings number ≡ slice_get files number
file_is [] [] [] right none number = refl
file_is [] [] (circuits ∷ modules) right none number = absurd right
file_is [] (reading ∷ readings) modules right none number = absurd right
file_is (file ∷ files) [] modules right none number = absurd right
file_is (file ∷ files) (reading ∷ readings) [] right none number = absurd right
file_is (file ∷ files) (reading ∷ readings) (circuits ∷ modules) right none zero =
    read_file file reading circuits
    (same_by (is_as_read file reading) (changed_count files readings) none).0 right.0
file_is (file ∷ files) (reading ∷ readings) (circuits ∷ modules) right none (suc number) =
    file_is files readings modules right.1
    (same_by (is_as_read file reading) (changed_count files readings) none).1 number

used_is : {V : Type 0} (files : List SourceFile) (readings : List (Option (Reading V))) (modules : List (List Circuit)) (numbers : List ℕ) → AreReadings files readings modules → changed_count files readings ≡ 0 → used_among (file_at readings) numbers ≡ sources_at numbers files
used_is files readings modules numbers right none =
    same_filter (file_at readings) (slice_get files) numbers
    (λ number among. file_is files readings modules right none number)

-- ---- what is made

-- a top looks up the same names in the files that it uses as among all
abbrev pub SameNames : Type 0
SameNames =
    (library : Library) (top : List ℕ) (numbers : List ℕ) → AreUsed library top numbers →
    looked_up (extract numbers library) top ≡ looked_up library top

pub record IsMade {V : Type 0} (says : DesignParts → V → Type 0) (files : List SourceFile) (readings : List (Option (Reading V))) (modules circuits : List (List Circuit)) (conditions : List FileConditions) (top : List ℕ) (numbers : List ℕ) (ruling : Ruling V) : Type 0 where
  pub names : SameNames
  pub in_order : AreInOrder files
  pub right : AreReadings files readings modules
  pub unchanged : changed_count files readings ≡ 0
  pub spelled : AreSpelled (texts_in files) modules
  pub asked : AreAsked (texts_in files) conditions
  pub are_used : AreUsed (library_of circuits) top numbers
  pub looked : AreLookUps (extract numbers (library_of circuits)) top ruling.look_ups
  pub used : ruling.used ≡ used_among (file_at readings) numbers
  pub elsewhere : ruling.elsewhere ≡ map (elsewhere_in conditions) numbers
  pub said : IsOfDesign says (sources_at numbers files) (designed circuits conditions numbers top) ruling.answer

-- the same, of the modules and the top that the ruling has
made_of : {V : Type 0} {says : DesignParts → V → Type 0} (files : List SourceFile) (readings : List (Option (Reading V))) (modules circuits : List (List Circuit)) (conditions : List FileConditions) (top : List ℕ) (numbers : List ℕ) (ruling : Ruling V) → circuits ≡ modules → ruling.top ≡ top → IsMade says files readings modules circuits conditions top numbers ruling → IsMade says files readings modules modules conditions ruling.top numbers ruling
made_of {V} {says} files readings modules circuits conditions top numbers ruling same is_top made =
    subst (λ (it : List ℕ). IsMade says files readings modules modules conditions it numbers ruling) (sym is_top)
    (subst (λ (it : List (List Circuit)). IsMade says files readings modules it conditions top numbers ruling) same made)

sources_of_made : {V : Type 0} {says : DesignParts → V → Type 0} (files : List SourceFile) (readings : List (Option (Reading V))) (modules : List (List Circuit)) (conditions : List FileConditions) (numbers : List ℕ) (ruling : Ruling V) → IsMade says files readings modules modules conditions ruling.top numbers ruling → ruling.used ≡ sources_at numbers files
sources_of_made files readings modules conditions numbers ruling made =
    made.used ∙ used_is files readings modules numbers made.right made.unchanged

-- what is said of the design that was noted
pub said_of : {V : Type 0} (says : DesignParts → V → Type 0) (files : List SourceFile) (circuits : List (List Circuit)) (conditions asked : List FileConditions) (top : List ℕ) (numbers noted used : List ℕ) (design : Result Design ElabFault) (answer other : Answer V) → asked ≡ conditions → noted ≡ numbers → used ≡ numbers → other ≡ answer → IsElaborated (tool_noted (map (foreign_in asked) noted) (elaborated (extract numbers (library_of circuits)) top)) design → ((made : Result DesignParts Fault) → IsElaborated made design → IsOfDesign says (sources_at used files) made answer) → IsOfDesign says (sources_at numbers files) (designed circuits conditions numbers top) other
said_of {V} says files circuits conditions asked top numbers noted used design answer other same_asked same_noted same_used is made says_of =
    let first = elaborated (extract numbers (library_of circuits)) top in
    let there : IsElaborated (designed circuits conditions numbers top) design =
    subst (λ (it : List FileConditions). IsElaborated (tool_noted (map (foreign_in it) numbers) first) design) same_asked
    (subst (λ (it : List ℕ). IsElaborated (tool_noted (map (foreign_in asked) it) first) design) same_noted made) in
    subst (λ (it : Answer V). IsOfDesign says (sources_at numbers files) (designed circuits conditions numbers top) it) (sym is)
    (subst (λ (it : List ℕ). IsOfDesign says (sources_at it files) (designed circuits conditions numbers top) answer) same_used
    (says_of (designed circuits conditions numbers top) there))

-- ---- it is a ruling

is_ruling : {V : Type 0} {says : DesignParts → V → Type 0} (files : List SourceFile) (readings : List (Option (Reading V))) (modules : List (List Circuit)) (conditions : List FileConditions) (numbers : List ℕ) (ruling : Ruling V) → IsMade says files readings modules modules conditions ruling.top numbers ruling → IsRuling says ruling
is_ruling {V} {says} files readings modules conditions numbers ruling made =
    let used = sources_of_made files readings modules conditions numbers ruling made in
    record {
      files = files;
      modules = modules;
      conditions = conditions;
      numbers = numbers;
      in_order = made.in_order;
      read = made.spelled.read;
      asked = made.asked;
      are_used = made.are_used;
      used_is = used;
      looked_up = made.looked;
      elsewhere_is = made.elsewhere;
      is =
          subst (λ (it : List SourceFile). IsOfDesign says it (designed modules conditions numbers ruling.top) ruling.answer) (sym used) made.said;
    }

pub made_ruling : {V : Type 0} {says : DesignParts → V → Type 0} (files : List SourceFile) (readings : List (Option (Reading V))) (modules circuits : List (List Circuit)) (conditions : List FileConditions) (top : List ℕ) (numbers : List ℕ) (ruling : Ruling V) → circuits ≡ modules → ruling.top ≡ top → IsMade says files readings modules circuits conditions top numbers ruling → IsRuling says ruling
made_ruling files readings modules circuits conditions top numbers ruling same is_top made =
    is_ruling files readings modules conditions numbers ruling
    (made_of files readings modules circuits conditions top numbers ruling same is_top made)

-- ---- it holds

mapped_at : {X : Type 0} (f : X → List ℕ) (xs : List X) (place : ℕ) (x : X) → place < length xs → slice_index_or xs place x ≡ x → Contains (map f xs) (f x)
mapped_at f [] place x within is = absurd (omega arith)
mapped_at f (first ∷ xs) zero x within is =
    subst (λ it. Contains (f first ∷ map f xs) (f it)) is (first_among (f first) (map f xs))
mapped_at f (first ∷ xs) (suc place) x within is =
    later_among (f first) (f x) (map f xs) (mapped_at f xs place x (omega arith) is)

asked : {V : Type 0} {says : DesignParts → V → Type 0} (files : List SourceFile) (readings : List (Option (Reading V))) (modules : List (List Circuit)) (conditions : List FileConditions) (numbers : List ℕ) (ruling : Ruling V) → IsMade says files readings modules modules conditions ruling.top numbers ruling → (look_up : LookUp) → Contains ruling.look_ups look_up → Contains (looked_up (library_of modules) ruling.top) look_up.name
asked files readings modules conditions numbers ruling made look_up among =
    subst (λ (it : List (List ℕ)). Contains it look_up.name) (made.names (library_of modules) ruling.top numbers made.are_used)
    ((made.looked.names look_up.name).0
    (mapped_at (λ (it : LookUp). it.name) ruling.look_ups among.0 look_up among.1 among.2))

meant_all : {V : Type 0} {says : DesignParts → V → Type 0} (files : List SourceFile) (readings : List (Option (Reading V))) (modules : List (List Circuit)) (conditions : List FileConditions) (numbers : List ℕ) (ruling : Ruling V) → IsMade says files readings modules modules conditions ruling.top numbers ruling → AreAt files numbers ruling.used → list_all (is_meant files modules ruling.used) ruling.look_ups ≡ true
meant_all files readings modules conditions numbers ruling made at =
    list_all-from_AllPass (is_meant files modules ruling.used) ruling.look_ups
    (λ place other within.
    let it : LookUp = slice_index_or ruling.look_ups place other in
    let among = All-contains_itself ruling.look_ups place other within in
    ap (λ (lookup : Lookup). is_same_lookup files ruling.used (found (all_placed modules) it.name) lookup) (sym (made.looked.meant place other within))
    ∙ same_itself files ruling.used numbers (found (all_placed modules) it.name) at
    (λ stands is. (made.are_used.each stands.file).1
    (record { name = it.name; index = stands.index; asked = asked files readings modules conditions numbers ruling made it among; means = is })))

holds : {V : Type 0} {says : DesignParts → V → Type 0} (files : List SourceFile) (readings : List (Option (Reading V))) (modules : List (List Circuit)) (conditions : List FileConditions) (numbers : List ℕ) (ruling : Ruling V) → IsMade says files readings modules modules conditions ruling.top numbers ruling → is_current files (record { modules = modules; conditions = conditions }) ruling ≡ true
holds files readings modules conditions numbers ruling made =
    let at : AreAt files numbers ruling.used =
    subst (AreAt files numbers) (sym (sources_of_made files readings modules conditions numbers ruling made))
    (used_at files modules ruling.top numbers made.spelled.read made.are_used) in
    let told : are_told files conditions ruling.used ruling.elsewhere ≡ true =
    ap (λ (it : List (List Bool)). are_told files conditions ruling.used it) made.elsewhere
    ∙ all_told files conditions numbers ruling.used made.in_order at in
    and_from (list_all (is_there files) ruling.used && are_told files conditions ruling.used ruling.elsewhere) (list_all (is_meant files modules ruling.used) ruling.look_ups)
    (and_from (list_all (is_there files) ruling.used) (are_told files conditions ruling.used ruling.elsewhere) (all_there files numbers ruling.used made.in_order at) told)
    (meant_all files readings modules conditions numbers ruling made at)

pub made_current : {V : Type 0} {says : DesignParts → V → Type 0} (files : List SourceFile) (readings : List (Option (Reading V))) (modules circuits : List (List Circuit)) (conditions : List FileConditions) (top : List ℕ) (numbers : List ℕ) (ruling : Ruling V) → circuits ≡ modules → ruling.top ≡ top → IsMade says files readings modules circuits conditions top numbers ruling → is_current files (record { modules = modules; conditions = conditions }) ruling ≡ true
made_current files readings modules circuits conditions top numbers ruling same is_top made =
    holds files readings modules conditions numbers ruling
    (made_of files readings modules circuits conditions top numbers ruling same is_top made)
