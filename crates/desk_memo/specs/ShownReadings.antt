-- It serves inner contracts and proofs; no answer of the program is stated by it.
-- What contracts see of readings.
use Rattle.std.specs.Prelude.{◌≡◌, ◌≤◌, ℕ, ◌+◌, ◌-◌, min, ⊤, Bool, true, false, if◌then◌else◌, List, [], ◌∷◌, map, Option, None, Some, option_map, Vec, vec_len, vec_capacity}
use Rattle.std.specs.declared.alloc.Global.{Global}
use Rattle.rtl_tree.specs.TreeModule.{Circuit, circuit}
use Rattle.rtl_tree.specs.declared.tree.modules.Module.{Module}
use Rattle.rtl_prep.specs.Conditions.{FileConditions}
use Rattle.elab_lookups.specs.elab_links.Modules.{circuits_of}
use Rattle.source_file.specs.declared.SourceFile.{SourceFile}
use Rattle.desk_memo.specs.Exchanges.{put_in}
use Rattle.desk_memo.specs.Readings.{AllRead, AreKnown, AreReadings, IsFound, IsKnown, Reading, changed_count, is_as_read}
use Rattle.desk_memo.specs.declared.aside.Aside.{Aside}
use Rattle.desk_memo.specs.declared.reading.Reading.{Reading as Held}
use Rattle.desk_memo.specs.declared.readings.Readings.{Readings as Kept}

abbrev pub reading_of : {V : Type 0} → Held V → Reading V
reading_of held =
    record { file = held.file.value; refusal = option_map (λ refusal. refusal.value) held.refusal }

abbrev pub readings_in : {V : Type 0} → List (Option (Held V)) → List (Option (Reading V))
readings_in helds = map (λ held. option_map reading_of held) helds

-- whether a file has the text that was read last, by its flag
abbrev pub is_current : {V : Type 0} → Option (Held V) → Bool
is_current None = false
is_current (Some held) = held.is_current

abbrev pub flags_in : {V : Type 0} → List (Option (Held V)) → List Bool
flags_in helds = map is_current helds

-- of each file the reading, in the order of the files
abbrev pub readings_of : {V : Type 0} → Kept V → List (Option (Reading V))
readings_of kept = readings_in kept.readings.items

-- of each file the modules as the code holds them, in the order of the files
abbrev pub held_modules_of : {V : Type 0} → Kept V → List (Vec Module Global)
held_modules_of kept = kept.modules.items

-- the same as contracts of designs see them
abbrev pub modules_of : {V : Type 0} → Kept V → List (List Circuit)
modules_of kept = circuits_of (held_modules_of kept)

-- of each file what its conditions ask, in the order of the files
abbrev pub conditions_of : {V : Type 0} → Kept V → List FileConditions
conditions_of kept = kept.conditions.items

-- all that was read
abbrev pub read_of : {V : Type 0} → Kept V → AllRead
read_of kept = record { modules = modules_of kept; conditions = conditions_of kept }

-- of each file the flag, in the order of the files
abbrev pub flags_of : {V : Type 0} → Kept V → List Bool
flags_of kept = flags_in kept.readings.items

-- for how many more files there is room
abbrev pub room_of : {V : Type 0} → Kept V → ℕ
room_of kept =
    min (vec_capacity kept.readings - vec_len kept.readings)
    (min (vec_capacity kept.modules - vec_len kept.modules)
    (vec_capacity kept.conditions - vec_len kept.conditions))

-- ---- flags

-- of each file whether its text is the one that was read last
abbrev pub are_as_read : {V : Type 0} → List SourceFile → List (Option (Reading V)) → List Bool
are_as_read (file ∷ files) (reading ∷ readings) =
    is_as_read file reading ∷ are_as_read files readings
are_as_read _ _ = []

-- the flags say which texts are those that were read last
abbrev pub AreFlagged : {V : Type 0} → List SourceFile → Kept V → Type 0
AreFlagged files kept = flags_of kept ≡ are_as_read files (readings_of kept)

-- how many flags are down
abbrev pub down_count : List Bool → ℕ
down_count [] = 0
down_count (flag ∷ flags) = (if flag then 0 else 1) + down_count flags

-- ---- what is read beside

-- what an exchange leaves
abbrev pub readings_by : {V : Type 0} → Aside V → Kept V → List (Option (Reading V))
readings_by aside kept = readings_in (put_in aside.readings.items kept.readings.items)

abbrev pub held_modules_by : {V : Type 0} → Aside V → Kept V → List (Vec Module Global)
held_modules_by aside kept = put_in aside.modules.items kept.modules.items

abbrev pub modules_by : {V : Type 0} → Aside V → Kept V → List (List Circuit)
modules_by aside kept = circuits_of (held_modules_by aside kept)

abbrev pub conditions_by : {V : Type 0} → Aside V → Kept V → List FileConditions
conditions_by aside kept = put_in aside.conditions.items kept.conditions.items

abbrev pub flags_by : {V : Type 0} → Aside V → Kept V → List Bool
flags_by aside kept = flags_in (put_in aside.readings.items kept.readings.items)

-- where the text of a file is the one that was read last, its reading and its modules stay
abbrev pub IsSame : {V : Type 0} → Bool → Option (Reading V) → Option (Reading V) → List Circuit → List Circuit → Type 0
IsSame false reading new circuits others = ⊤
IsSame true reading new circuits others = (new ≡ reading) × (others ≡ circuits)

-- file by file
abbrev pub AreSame : {V : Type 0} → List Bool → List (Option (Reading V)) → List (Option (Reading V)) → List (List Circuit) → List (List Circuit) → Type 0
AreSame [] [] [] [] [] = ⊤
AreSame (flag ∷ flags) (reading ∷ readings) (new ∷ news) (circuits ∷ modules) (others ∷ made) =
    IsSame flag reading new circuits others × AreSame flags readings news modules made
AreSame _ _ _ _ _ = ⊥

-- after an exchange every file is as it was read last, and nothing else has changed
pub record IsBeside {V : Type 0} (files : List SourceFile) (kept : Kept V) (aside : Aside V) : Type 0 where
  pub right : AreReadings files (readings_by aside kept) (modules_by aside kept)
  pub known : AreKnown (readings_by aside kept) (conditions_by aside kept)
  pub flagged : flags_by aside kept ≡ are_as_read files (readings_by aside kept)
  pub unchanged : changed_count files (readings_by aside kept) ≡ 0
  pub same : AreSame (are_as_read files (readings_of kept)) (readings_of kept) (readings_by aside kept) (modules_of kept) (modules_by aside kept)

-- ---- steps of reading

-- a file that has just been read
pub record IsNew {V : Type 0} (file : SourceFile) (held : Held V) (modules : Vec Module Global) : Type 0 where
  pub file_is : held.file.value ≡ file
  pub current : held.is_current ≡ true
  pub found : IsFound file (option_map (λ refusal. refusal.value) held.refusal) (map circuit modules.items)

abbrev pub IsNewIn : {V : Type 0} → SourceFile → Option (Held V) → Vec Module Global → Type 0
IsNewIn file None modules = ⊥
IsNewIn file (Some held) modules = IsNew file held modules

-- nothing is made beside a file that is as it was read last; else what it is found to be now
abbrev pub IsMade : {V : Type 0} → SourceFile → Bool → Option (Option (Held V)) → Option (Vec Module Global) → Type 0
IsMade file true None None = ⊤
IsMade file false (Some held) (Some modules) = IsNewIn file held modules
IsMade _ _ _ _ = ⊥

abbrev pub AreMade : {V : Type 0} → List SourceFile → List Bool → List (Option (Option (Held V))) → List (Option (Vec Module Global)) → Type 0
AreMade [] [] [] [] = ⊤
AreMade (file ∷ files) (flag ∷ flags) (held ∷ helds) (modules ∷ others) =
    IsMade file flag held modules × AreMade files flags helds others
AreMade _ _ _ _ = ⊥

-- what is made beside a file goes with what its conditions ask
abbrev pub IsMadeKnown : {V : Type 0} → Option (Option (Held V)) → Option FileConditions → Type 0
IsMadeKnown None None = ⊤
IsMadeKnown (Some held) (Some conditions) = IsKnown (option_map reading_of held) conditions
IsMadeKnown _ _ = ⊥

abbrev pub AreMadeKnown : {V : Type 0} → List (Option (Option (Held V))) → List (Option FileConditions) → Type 0
AreMadeKnown [] [] = ⊤
AreMadeKnown (held ∷ helds) (asked ∷ conditions) =
    IsMadeKnown held asked × AreMadeKnown helds conditions
AreMadeKnown _ _ = ⊥

-- ---- a file that comes

-- the flag of a reading, by the file as it is now
abbrev pub marked : {V : Type 0} → SourceFile → Option (Held V) → Option (Held V)
marked file None = None
marked file (Some held) = Some (record held { is_current = is_as_read file (Some (reading_of held)) })

abbrev pub IsWithin : Option ℕ → ℕ → Type 0
IsWithin None count = ⊤
IsWithin (Some place) count = place ≤ count
