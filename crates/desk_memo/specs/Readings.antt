-- What the texts of files were found to be, each when it was read last.
-- Worked examples: proofs/ReadingsExample.antt.
use Rattle.std.specs.Prelude.{◌≡◌, ℕ, ◌+◌, ◌⊎◌, ⊤, Bool, false, bytes_eq, if◌then◌else◌, insert, List, [], ◌∷◌, ◌++◌, Option, None, Some, option_and_then, option_map, slice_get}
use Rattle.rtl_tree.specs.TreeModule.{Circuit}
use Rattle.rtl_prep.specs.Conditions.{FileConditions}
use Rattle.check_conditions.specs.Foreign.{nothing_asked}
use Rattle.rtl_front.specs.Fronts.{IsAsked, IsFaulty, IsFirstFaulty, IsRead, is_memory}
use Rattle.rtl_front.specs.declared.fault.FileFault.{FileFault}
use Rattle.rtl_front.specs.declared.fault.SourceFault.TheVariants as source
use Rattle.desk_refusals.specs.Refusals.{source_line}
use Rattle.desk_files.specs.Sources.{is_named, place_of}
use Rattle.source_file.specs.declared.SourceFile.{SourceFile}
use Rattle.desk_memo.specs.Texts.{IsRefusal, refusal_line}
use Rattle.source_file.specs.SourceFiles.{texts_in}
use Rattle.desk_memo.specs.declared.answer.Answer.{Answer}

-- a file as it was read last, and the refusal of it where it spells no modules
pub record Reading (V : Type 0) : Type 0 where
  pub file : SourceFile
  pub refusal : Option (Answer V)

-- of each file its modules, and what its conditions ask, with the macros that it has at its end
pub record AllRead : Type 0 where
  pub modules : List (List Circuit)
  pub conditions : List FileConditions

-- the file with a number, as it was read last
abbrev pub file_at : {V : Type 0} → List (Option (Reading V)) → ℕ → Option SourceFile
file_at readings number =
    option_map (λ reading. reading.file) (option_and_then (λ reading. reading) (slice_get readings number))

-- ---- the files whose texts have changed

-- the file's text is the one that was read last
abbrev pub is_as_read : {V : Type 0} → SourceFile → Option (Reading V) → Bool
is_as_read file None = false
is_as_read file (Some reading) = bytes_eq reading.file.text file.text

-- how many files are new, or have another text than the one that was read last
abbrev pub changed_count : {V : Type 0} → List SourceFile → List (Option (Reading V)) → ℕ
changed_count (file ∷ files) (reading ∷ readings) =
    (if is_as_read file reading then 0 else 1) + changed_count files readings
changed_count _ _ = 0

-- ---- the first refusal

abbrev pub refusal_of : {V : Type 0} → Option (Reading V) → Option (Answer V)
refusal_of None = None
refusal_of (Some reading) = reading.refusal

abbrev pub or_later : {V : Type 0} → Option (Answer V) → Option (Answer V) → Option (Answer V)
or_later (Some answer) later = Some answer
or_later None later = later

-- the refusal of the first file that was found to spell no modules
abbrev pub first_refusal : {V : Type 0} → List (Option (Reading V)) → Option (Answer V)
first_refusal [] = None
first_refusal (reading ∷ readings) = or_later (refusal_of reading) (first_refusal readings)

-- ---- what readings are right

-- the text spells these modules, and no others
pub record Spells (text : List ℕ) (circuits : List Circuit) : Type 0 where
  pub read : IsRead text circuits
  pub only : (others : List Circuit) → IsRead text others → others ≡ circuits

-- the file spells no modules, and the answer says why
pub record Refuses {V : Type 0} (file : SourceFile) (answer : Answer V) : Type 0 where
  pub fault : FileFault
  pub no_memory : is_memory fault ≡ false
  pub faulty : IsFaulty file.text fault
  pub told : IsRefusal (refusal_line file fault) answer

-- what a file was found to be: what its text spells, or why it spells none
abbrev pub IsFound : {V : Type 0} → SourceFile → Option (Answer V) → List Circuit → Type 0
IsFound file None circuits = Spells file.text circuits
IsFound file (Some answer) circuits = Refuses file answer × (circuits ≡ [])

-- the modules that are kept of a file are those that its text spelled when it was read last; none
-- where it spelled none, or was never read
abbrev pub IsReading : {V : Type 0} → SourceFile → Option (Reading V) → List Circuit → Type 0
IsReading file None circuits = circuits ≡ []
IsReading file (Some reading) circuits =
    (reading.file.name ≡ file.name) × IsFound reading.file reading.refusal circuits

-- the readings of files, with their modules, file by file
abbrev pub AreReadings : {V : Type 0} → List SourceFile → List (Option (Reading V)) → List (List Circuit) → Type 0
AreReadings [] [] [] = ⊤
AreReadings (file ∷ files) (reading ∷ readings) (circuits ∷ modules) =
    IsReading file reading circuits × AreReadings files readings modules
AreReadings _ _ _ = ⊥

-- what the conditions of a file ask that is as it was found: what its text asks, and nothing where it
-- spells no modules
abbrev pub IsAskedBy : {V : Type 0} → SourceFile → Option (Answer V) → FileConditions → Type 0
IsAskedBy file None conditions = IsAsked file.text conditions
IsAskedBy file (Some answer) conditions = conditions ≡ nothing_asked

-- the conditions that are kept of a file are those of the text that was read last; nothing is asked
-- where none was read
abbrev pub IsKnown : {V : Type 0} → Option (Reading V) → FileConditions → Type 0
IsKnown None conditions = conditions ≡ nothing_asked
IsKnown (Some reading) conditions = IsAskedBy reading.file reading.refusal conditions

-- the readings of files, with what their conditions ask, file by file
abbrev pub AreKnown : {V : Type 0} → List (Option (Reading V)) → List FileConditions → Type 0
AreKnown [] [] = ⊤
AreKnown (reading ∷ readings) (asked ∷ conditions) =
    IsKnown reading asked × AreKnown readings conditions
AreKnown _ _ = ⊥

-- ---- what texts define

-- the modules that a text defines: those that it spells, and none where it spells none
abbrev pub Defines : List ℕ → List Circuit → Type 0
Defines text circuits =
    IsRead text circuits ⊎ ((circuits ≡ []) × ((others : List Circuit) → IsRead text others → ⊥))

abbrev pub AreModules : List (List ℕ) → List (List Circuit) → Type 0
AreModules [] [] = ⊤
AreModules (text ∷ texts) (circuits ∷ modules) = Defines text circuits × AreModules texts modules
AreModules _ _ = ⊥

-- what the conditions of a text ask that spells modules; one that spells none asks nothing, and has no
-- macros
abbrev pub Asks : List ℕ → FileConditions → Type 0
Asks text conditions =
    ((circuits : List Circuit) × IsRead text circuits × IsAsked text conditions)
    ⊎ ((conditions ≡ nothing_asked) × ((others : List Circuit) → IsRead text others → ⊥))

abbrev pub AreConditions : List (List ℕ) → List FileConditions → Type 0
AreConditions [] [] = ⊤
AreConditions (text ∷ texts) (asked ∷ conditions) = Asks text asked × AreConditions texts conditions
AreConditions _ _ = ⊥

-- what texts define: of each its modules, and what its conditions ask
pub record AreDefined (texts : List (List ℕ)) (all : AllRead) : Type 0 where
  pub modules : AreModules texts all.modules
  pub conditions : AreConditions texts all.conditions

-- the first of files that spells no modules is refused, and the answer is its line
pub record IsFirstRefused {V : Type 0} (files : List SourceFile) (answer : Answer V) : Type 0 where
  pub number : ℕ
  pub fault : FileFault
  pub faulty : IsFirstFaulty (texts_in files) (source.Refused number fault)
  pub told : IsRefusal (source_line files number fault) answer

-- ---- files that come and go

-- a blank at a place, or behind all
abbrev pub blank_in : {X : Type 0} → X → Option ℕ → List X → List X
blank_in blank None kept = kept ++ blank ∷ []
blank_in blank (Some place) kept = insert kept place blank

abbrev pub blank_by : {X : Type 0} → X → List ℕ → Option SourceFile → ℕ → List X → List X
blank_by blank name None place kept = kept
blank_by blank name (Some file) place kept =
    if is_named name file then kept else blank_in blank (Some place) kept

abbrev pub blank_at : {X : Type 0} → X → List ℕ → Option ℕ → List SourceFile → List X → List X
blank_at blank name None files kept = blank_in blank None kept
blank_at blank name (Some place) files kept = blank_by blank name (slice_get files place) place kept

-- what is kept of files, with a blank where a file of a new name comes among them; a file that is
-- there keeps what it has
abbrev pub with_blank : {X : Type 0} → X → List ℕ → List SourceFile → List X → List X
with_blank blank name files kept = blank_at blank name (place_of name files) files kept

-- what is kept of files, without what is kept of the file of a name
abbrev pub without : {X : Type 0} → List ℕ → List SourceFile → List X → List X
without name (file ∷ files) (first ∷ others) =
    if is_named name file then without name files others else first ∷ without name files others
without name _ kept = kept
