-- What is kept of files, where a file comes or goes.
use Rattle.std.specs.Prelude.{ℕ, zero, suc, Bool, true, false, not, insert, if◌then◌else◌, List, [], ◌∷◌, ◌++◌, Option, None, Some, option_map, slice_get, slice_set, map, cond}
use Rattle.std.proofs.Common.{◌≡◌, ◌∙◌, ◌<◌, length, take, drop, set, get_or, ap, refl, sym, arith}
use Rattle.std.proofs.lemmas.List.{map-append}
use Rattle.std.proofs.lemmas.List.Quantifiers.{position-Some}
use Rattle.std.proofs.lemmas.Option.{slice_get-get_or}
use Rattle.std.proofs.lemmas.Slice.Eq.{bytes_eq-Decides}
use Rattle.rtl_tree.specs.TreeModule.{Circuit}
use Rattle.desk_files.specs.Sources.{is_before, is_named, place_of, with_file, with_file_at, with_file_by, without_file}
use Rattle.source_file.specs.declared.SourceFile.{SourceFile}
use Rattle.desk_memo.specs.Readings.{AreReadings, IsReading, Reading, blank_at, blank_by, blank_in, is_as_read, with_blank, without}
use Rattle.desk_memo.specs.ShownReadings.{are_as_read, flags_in, is_current, marked, reading_of, readings_in}
use Rattle.desk_memo.specs.declared.reading.Reading.{Reading as Held}

-- ---- a blank at a place

pub map_blank : {X Y : Type 0} (f : X → Y) (blank : X) (place : Option ℕ) (xs : List X) → map f (blank_in blank place xs) ≡ blank_in (f blank) place (map f xs)
map_blank f blank None xs = map-append f xs (blank ∷ [])
map_blank f blank (Some zero) [] = refl
map_blank f blank (Some zero) (x ∷ xs) = refl
map_blank f blank (Some (suc place)) [] = refl
map_blank f blank (Some (suc place)) (x ∷ xs) = ap (λ it. f x ∷ it) (map_blank f blank (Some place) xs)

pub right_blank : {V : Type 0} (file : SourceFile) (place : Option ℕ) (files : List SourceFile) (readings : List (Option (Reading V))) (modules : List (List Circuit)) → AreReadings files readings modules → AreReadings (blank_in file place files) (blank_in None place readings) (blank_in [] place modules)
right_blank file place [] (reading ∷ readings) modules right = absurd right
right_blank file place [] [] (circuits ∷ modules) right = absurd right
right_blank file place (first ∷ files) [] modules right = absurd right
right_blank file place (first ∷ files) (reading ∷ readings) [] right = absurd right
right_blank file None [] [] [] right = (refl, tt)
right_blank file (Some zero) [] [] [] right = (refl, tt)
right_blank file (Some (suc place)) [] [] [] right = (refl, tt)
right_blank file None (first ∷ files) (reading ∷ readings) (circuits ∷ modules) right =
    (right.0, right_blank file None files readings modules right.1)
right_blank file (Some zero) (first ∷ files) (reading ∷ readings) (circuits ∷ modules) right =
    (refl, right)
right_blank file (Some (suc place)) (first ∷ files) (reading ∷ readings) (circuits ∷ modules) right =
    (right.0, right_blank file (Some place) files readings modules right.1)

pub flags_blank : {V : Type 0} (file : SourceFile) (place : Option ℕ) (files : List SourceFile) (readings : List (Option (Reading V))) (modules : List (List Circuit)) → AreReadings files readings modules → blank_in false place (are_as_read files readings) ≡ are_as_read (blank_in file place files) (blank_in None place readings)
flags_blank file place [] (reading ∷ readings) modules right = absurd right
flags_blank file place (first ∷ files) [] modules right = absurd right
flags_blank file place (first ∷ files) (reading ∷ readings) [] right = absurd right
flags_blank file None [] [] modules right = refl
flags_blank file (Some zero) [] [] modules right = refl
flags_blank file (Some (suc place)) [] [] modules right = refl
flags_blank file None (first ∷ files) (reading ∷ readings) (circuits ∷ modules) right =
    ap (λ it. is_as_read first reading ∷ it) (flags_blank file None files readings modules right.1)
flags_blank file (Some zero) (first ∷ files) (reading ∷ readings) (circuits ∷ modules) right = refl
flags_blank file (Some (suc place)) (first ∷ files) (reading ∷ readings) (circuits ∷ modules) right =
    ap (λ it. is_as_read first reading ∷ it) (flags_blank file (Some place) files readings modules right.1)

-- ---- which place it is

held_at : (files : List SourceFile) (place : ℕ) (held : SourceFile) → place < length files → held ≡ get_or files place held → slice_get files place ≡ Some held
held_at files place held inside is = slice_get-get_or files place held inside ∙ ap Some (sym is)

pub place_within : (name : List ℕ) (files : List SourceFile) (place : ℕ) (d : SourceFile) → Some place ≡ place_of name files → place < length files
place_within name files place d is =
    (position-Some (λ file. not (is_before name file)) files place d (sym is)).0

-- a new name is put behind all
pub behind_all : {X : Type 0} (blank : X) (kept : List X) (name : List ℕ) (files : List SourceFile) → None ≡ place_of name files → with_blank blank name files kept ≡ blank_in blank None kept
behind_all blank kept name files is = ap (λ it. blank_at blank name it files kept) (sym is)

-- or at a place, where the file has another name
pub at_place : {X : Type 0} (blank : X) (kept : List X) (name : List ℕ) (files : List SourceFile) (place : ℕ) (held : SourceFile) → Some place ≡ place_of name files → place < length files → held ≡ get_or files place held → is_named name held ≡ false → with_blank blank name files kept ≡ blank_in blank (Some place) kept
at_place blank kept name files place held is inside read other =
    ap (λ it. blank_at blank name it files kept) (sym is)
    ∙ ap (λ it. blank_by blank name it place kept) (held_at files place held inside read)
    ∙ ap (λ it. if it then kept else blank_in blank (Some place) kept) other

-- a name that is there stays
pub stays : {X : Type 0} (blank : X) (kept : List X) (name : List ℕ) (files : List SourceFile) (place : ℕ) (held : SourceFile) → Some place ≡ place_of name files → place < length files → held ≡ get_or files place held → is_named name held ≡ true → with_blank blank name files kept ≡ kept
stays blank kept name files place held is inside read same =
    ap (λ it. blank_at blank name it files kept) (sym is)
    ∙ ap (λ it. blank_by blank name it place kept) (held_at files place held inside read)
    ∙ ap (λ it. if it then kept else blank_in blank (Some place) kept) same

pub file_behind_all : (file : SourceFile) (files : List SourceFile) → None ≡ place_of file.name files → with_file file files ≡ blank_in file None files
file_behind_all file files is = ap (λ it. with_file_at it file files) (sym is)

pub file_at_place : (file : SourceFile) (files : List SourceFile) (place : ℕ) (held : SourceFile) → Some place ≡ place_of file.name files → place < length files → held ≡ get_or files place held → is_named file.name held ≡ false → with_file file files ≡ blank_in file (Some place) files
file_at_place file files place held is inside read other =
    ap (λ it. with_file_at it file files) (sym is)
    ∙ ap (λ it. with_file_by it place file files) (held_at files place held inside read)
    ∙ ap (λ it. if it then slice_set files place file else insert files place file) other

pub file_stays : (file : SourceFile) (files : List SourceFile) (place : ℕ) (held : SourceFile) → Some place ≡ place_of file.name files → place < length files → held ≡ get_or files place held → is_named file.name held ≡ true → with_file file files ≡ set files place file
file_stays file files place held is inside read same =
    ap (λ it. with_file_at it file files) (sym is)
    ∙ ap (λ it. with_file_by it place file files) (held_at files place held inside read)
    ∙ ap (λ it. if it then slice_set files place file else insert files place file) same

-- ---- a file that is there gets another text

same_reading : {V : Type 0} (file : SourceFile) (held : Option (Held V)) → option_map reading_of (marked file held) ≡ option_map reading_of held
same_reading file None = refl
same_reading file (Some held) = refl

pub same_readings : {V : Type 0} (file : SourceFile) (place : ℕ) (helds : List (Option (Held V))) (d : Option (Held V)) → readings_in (set helds place (marked file (get_or helds place d))) ≡ readings_in helds
same_readings file place [] d = refl
same_readings file zero (held ∷ helds) d = ap (λ it. it ∷ readings_in helds) (same_reading file held)
same_readings file (suc place) (held ∷ helds) d =
    ap (λ it. option_map reading_of held ∷ it) (same_readings file place helds d)

other_name : {V : Type 0} (file first : SourceFile) (reading : Option (Reading V)) (circuits : List Circuit) → first.name ≡ file.name → IsReading first reading circuits → IsReading file reading circuits
other_name file first None circuits same right = right
other_name file first (Some reading) circuits same right = (right.0 ∙ same, right.1)

pub right_marked : {V : Type 0} (file : SourceFile) (place : ℕ) (files : List SourceFile) (readings : List (Option (Reading V))) (modules : List (List Circuit)) (d : SourceFile) → place < length files → is_named file.name (get_or files place d) ≡ true → AreReadings files readings modules → AreReadings (set files place file) readings modules
right_marked file place [] readings modules d inside named right = absurd (omega arith)
right_marked file place (first ∷ files) [] modules d inside named right = absurd right
right_marked file place (first ∷ files) (reading ∷ readings) [] d inside named right = absurd right
right_marked file zero (first ∷ files) (reading ∷ readings) (circuits ∷ modules) d inside named right =
    (other_name file first reading circuits ((bytes_eq-Decides first.name file.name).0 named) right.0, right.1)
right_marked file (suc place) (first ∷ files) (reading ∷ readings) (circuits ∷ modules) d inside named right =
    (right.0, right_marked file place files readings modules d (omega arith) named right.1)

marked_is : {V : Type 0} (file : SourceFile) (held : Option (Held V)) → is_current (marked file held) ≡ is_as_read file (option_map reading_of held)
marked_is file None = refl
marked_is file (Some held) = refl

none_marked : {V : Type 0} (file : SourceFile) (place : ℕ) (helds : List (Option (Held V))) (d : Option (Held V)) → flags_in helds ≡ [] → flags_in (set helds place (marked file (get_or helds place d))) ≡ []
none_marked file place [] d none = refl
none_marked file place (held ∷ helds) d none = absurd (cc)

absurd_or_same : (V : Type 0) (file : SourceFile) (place : ℕ) (first : SourceFile) (files : List SourceFile) → [] ≡ are_as_read {V = V} (set (first ∷ files) place file) []
absurd_or_same V file zero first files = refl
absurd_or_same V file (suc place) first files = refl

pub flags_marked : {V : Type 0} (file : SourceFile) (place : ℕ) (files : List SourceFile) (helds : List (Option (Held V))) (d : Option (Held V)) → flags_in helds ≡ are_as_read files (readings_in helds) → flags_in (set helds place (marked file (get_or helds place d))) ≡ are_as_read (set files place file) (readings_in helds)
flags_marked file place [] helds d flagged = none_marked file place helds d flagged
flags_marked {V} file place (first ∷ files) [] d flagged = absurd_or_same V file place first files
flags_marked file zero (first ∷ files) (held ∷ helds) d flagged =
    let rest : flags_in helds ≡ are_as_read files (readings_in helds) = cc in
    ap (λ it. it ∷ flags_in helds) (marked_is file held)
    ∙ ap (λ it. is_as_read file (option_map reading_of held) ∷ it) rest
flags_marked file (suc place) (first ∷ files) (held ∷ helds) d flagged =
    let here : is_current held ≡ is_as_read first (option_map reading_of held) = cc in
    let rest : flags_in helds ≡ are_as_read files (readings_in helds) = cc in
    ap (λ it. it ∷ flags_in (set helds place (marked file (get_or helds place d)))) here
    ∙ ap (λ it. is_as_read first (option_map reading_of held) ∷ it) (flags_marked file place files helds d rest)

-- ---- a file goes

map_if : {X Y : Type 0} (f : X → Y) (named : Bool) (x : X) (xs : List X) → map f (if named then xs else x ∷ xs) ≡ (if named then map f xs else f x ∷ map f xs)
map_if f true x xs = refl
map_if f false x xs = refl

right_if : {V : Type 0} (named : Bool) (file : SourceFile) (reading : Option (Reading V)) (circuits : List Circuit) (files : List SourceFile) (readings : List (Option (Reading V))) (modules : List (List Circuit)) → IsReading file reading circuits → AreReadings files readings modules → AreReadings (cond (not named) (file ∷ files) files) (if named then readings else reading ∷ readings) (if named then modules else circuits ∷ modules)
right_if true file reading circuits files readings modules here rest = rest
right_if false file reading circuits files readings modules here rest = (here, rest)

flags_if : {V : Type 0} (named : Bool) (file : SourceFile) (reading : Option (Reading V)) (files : List SourceFile) (readings : List (Option (Reading V))) → (if named then are_as_read files readings else is_as_read file reading ∷ are_as_read files readings) ≡ are_as_read (cond (not named) (file ∷ files) files) (if named then readings else reading ∷ readings)
flags_if true file reading files readings = refl
flags_if false file reading files readings = refl

no_flags : (V : Type 0) (files : List SourceFile) → [] ≡ are_as_read {V = V} files []
no_flags V [] = refl
no_flags V (file ∷ files) = refl

pub map_without : {X Y : Type 0} (f : X → Y) (name : List ℕ) (files : List SourceFile) (xs : List X) → map f (without name files xs) ≡ without name files (map f xs)
map_without f name [] xs = refl
map_without f name (file ∷ files) [] = refl
map_without f name (file ∷ files) (x ∷ xs) =
    map_if f (is_named name file) x (without name files xs)
    ∙ ap (λ it. if is_named name file then it else f x ∷ it) (map_without f name files xs)

pub right_without : {V : Type 0} (name : List ℕ) (files : List SourceFile) (readings : List (Option (Reading V))) (modules : List (List Circuit)) → AreReadings files readings modules → AreReadings (without_file name files) (without name files readings) (without name files modules)
right_without name [] (reading ∷ readings) modules right = absurd right
right_without name [] [] (circuits ∷ modules) right = absurd right
right_without name (file ∷ files) [] modules right = absurd right
right_without name (file ∷ files) (reading ∷ readings) [] right = absurd right
right_without name [] [] [] right = tt
right_without name (file ∷ files) (reading ∷ readings) (circuits ∷ modules) right =
    right_if (is_named name file) file reading circuits (without_file name files) (without name files readings) (without name files modules)
    right.0 (right_without name files readings modules right.1)

pub flags_without : {V : Type 0} (name : List ℕ) (files : List SourceFile) (readings : List (Option (Reading V))) → without name files (are_as_read files readings) ≡ are_as_read (without_file name files) (without name files readings)
flags_without name [] readings = refl
flags_without {V} name (file ∷ files) [] = no_flags V (without_file name (file ∷ files))
flags_without name (file ∷ files) (reading ∷ readings) =
    ap (λ it. if is_named name file then it else is_as_read file reading ∷ it) (flags_without name files readings)
    ∙ flags_if (is_named name file) file reading (without_file name files) (without name files readings)

-- one place more, from the end: a file of the name
pub named_less : {X : Type 0} (name : List ℕ) (place : ℕ) (files : List SourceFile) (olds : List X) (d : SourceFile) → place < length files → length files ≡ length olds → is_named name (get_or files place d) ≡ true → take place (take (suc place) olds ++ without name (drop (suc place) files) (drop (suc place) olds)) ++ drop (suc place) (take (suc place) olds ++ without name (drop (suc place) files) (drop (suc place) olds)) ≡ take place olds ++ without name (drop place files) (drop place olds)
named_less name place [] olds d inside same named = absurd (omega arith)
named_less name place (file ∷ files) [] d inside same named = absurd (omega arith)
named_less name zero (file ∷ files) (old ∷ olds) d inside same named =
    sym (ap (λ it. if it then without name files olds else old ∷ without name files olds) named)
named_less name (suc place) (file ∷ files) (old ∷ olds) d inside same named =
    ap (λ it. old ∷ it) (named_less name place files olds d (omega arith) (omega arith) named)

-- a file of another name
pub other_less : {X : Type 0} (name : List ℕ) (place : ℕ) (files : List SourceFile) (olds : List X) (d : SourceFile) → place < length files → length files ≡ length olds → is_named name (get_or files place d) ≡ false → take (suc place) olds ++ without name (drop (suc place) files) (drop (suc place) olds) ≡ take place olds ++ without name (drop place files) (drop place olds)
other_less name place [] olds d inside same other = absurd (omega arith)
other_less name place (file ∷ files) [] d inside same other = absurd (omega arith)
other_less name zero (file ∷ files) (old ∷ olds) d inside same other =
    sym (ap (λ it. if it then without name files olds else old ∷ without name files olds) other)
other_less name (suc place) (file ∷ files) (old ∷ olds) d inside same other =
    ap (λ it. old ∷ it) (other_less name place files olds d (omega arith) (omega arith) other)
