-- It serves inner contracts and proofs; no answer of the program is stated by it.
-- What contracts see of the rulings that are kept.
use Rattle.std.specs.Prelude.{ℕ, ◌≡◌, Bool, true, find, List, ◌++◌, Option, None, Some, IfSome, map, option_to_list, slice_get, take, Vec}
use Rattle.std.specs.List.{All, filter_map}
use Rattle.std.specs.Option.{option_map}
use Rattle.std.specs.declared.alloc.Global.{Global}
use Rattle.source_file.specs.declared.SourceFile.{SourceFile}
use Rattle.desk_memo.specs.Readings.{AllRead}
use Rattle.desk_memo.specs.Rulings.{Ruling, is_current}
use Rattle.desk_memo.specs.declared.kept.Kept.{Kept}
use Rattle.desk_memo.specs.declared.memo.Memo.{Memo}
use Rattle.desk_memo.specs.declared.used.Used.{Used}

abbrev pub all_used : List Used → List SourceFile
all_used held = map (λ used. used.file.value) held

abbrev pub lists_in : List (Vec Bool Global) → List (List Bool)
lists_in held = map (λ list. list.items) held

abbrev pub ruling_of : {V : Type 0} → Kept V → Ruling V
ruling_of kept =
    record {
      top = kept.top;
      look_ups = kept.look_ups.items;
      used = all_used kept.used.items;
      elsewhere = lists_in kept.elsewhere.items;
      answer = kept.answer.value;
    }

-- the rulings of tops that modules are named by, in the order in which they came first
abbrev pub rulings_of : {V : Type 0} → Memo V → List (Ruling V)
rulings_of memo = map ruling_of memo.rulings.items

-- that of the last top that no module, or more than one, is named by
abbrev pub absent_of : {V : Type 0} → Memo V → Option (Ruling V)
absent_of memo = option_map ruling_of memo.absent

abbrev pub all_of : {V : Type 0} → Memo V → List (Ruling V)
all_of memo = rulings_of memo ++ option_to_list (absent_of memo)

-- ---- what is known to hold

-- where the flag is set, the ruling holds among files, by what was read of them
abbrev pub IsChecked : {V : Type 0} → List SourceFile → AllRead → Kept V → Type 0
IsChecked files all kept =
    kept.is_checked ≡ true → is_current files all (ruling_of kept) ≡ true

abbrev pub AreAllChecked : {V : Type 0} → List SourceFile → AllRead → List (Kept V) → Type 0
AreAllChecked files all kept = All (IsChecked files all) kept

pub record AreChecked {V : Type 0} (files : List SourceFile) (all : AllRead) (memo : Memo V) : Type 0 where
  pub rulings : AreAllChecked files all memo.rulings.items
  pub absent : IfSome memo.absent (IsChecked files all)

-- ---- places

-- the place of the first ruling that passes a test
abbrev pub IsPlaceOf : {V : Type 0} → (Ruling V → Bool) → List (Ruling V) → Option ℕ → Type 0
IsPlaceOf test rulings None = find test rulings ≡ None
IsPlaceOf {V} test rulings (Some place) =
    (ruling : Ruling V) × (slice_get rulings place ≡ Some ruling) × (test ruling ≡ true)
    × (find test (take place rulings) ≡ None)

-- ---- the files that a top uses

-- the files with these numbers, where there are such
abbrev pub used_among : (ℕ → Option SourceFile) → List ℕ → List SourceFile
used_among file_of numbers = filter_map file_of numbers
