-- The notes of files that are kept by reference.
use Rattle.std.specs.List.{filter, list_all, slice_get}
use Rattle.std.specs.Option.{option_map}
use Rattle.std.proofs.Common.{ℕ, zero, suc, ◌≡◌, ◌∙◌, ◌+◌, ◌==◌, ◌&&◌, Bool, true, false, List, [], ◌∷◌, ◌++◌, Option, Some, None, map, unwrap_or, length, refl, sym, ap, arith}
use Rattle.std.proofs.lemmas.Bool.Decides.{nat_tests}
use Rattle.std.proofs.lemmas.Option.{slice_get-map}
use Rattle.rtl_flat.specs.declared.instance.Instance.{Instance}
use Rattle.rtl_flat.specs.declared.note.Note.{Note}
use Rattle.rtl_flat.specs.Flats.{DesignParts}
use Rattle.rtl_prep.specs.declared.conditions.Ask.{Ask}
use Rattle.rtl_prep.specs.Conditions.{FileConditions}
use Rattle.check_conditions.specs.declared.foreign.AskingFile.{AskingFile}
use Rattle.check_conditions.specs.Foreign.{elsewhere_in, file_at, foreign_asks, foreign_by, foreign_in, nothing_asked}
use Rattle.check_conditions.specs.Kept.{bare, is_quiet, shown}
use Rattle.check_conditions.specs.ToolNotes.{asked_notes, hangs_in, notes_from, tool_note, tool_notes, with_tools}

pub no_file : (files : List AskingFile) (file : ℕ) → slice_get files file ≡ None → file_at (map shown files) file ≡ nothing_asked
no_file files file none =
    ap (λ found. unwrap_or found nothing_asked) (slice_get-map shown files file ∙ ap (option_map shown) none)

-- macros have no part in notes
module _ (of : ℕ → FileConditions) (numbers : List ℕ) where
  bare_found : (found : Option ℕ) (number : ℕ) (instance : Instance) → asked_notes (unwrap_or (option_map (λ n. bare (of n)) found) nothing_asked) number instance ≡ asked_notes (unwrap_or (option_map of found) nothing_asked) number instance
  bare_found None number instance = refl
  bare_found (Some n) number instance = refl

  bare_one : (file number : ℕ) (instance : Instance) → asked_notes (file_at (map (λ n. bare (of n)) numbers) file) number instance ≡ asked_notes (file_at (map of numbers) file) number instance
  bare_one file number instance =
      ap (λ found. asked_notes (unwrap_or found nothing_asked) number instance) (slice_get-map (λ n. bare (of n)) numbers file)
      ∙ bare_found (slice_get numbers file) number instance
      ∙ sym (ap (λ found. asked_notes (unwrap_or found nothing_asked) number instance) (slice_get-map of numbers file))

  pub bare_notes : (number : ℕ) (instances : List Instance) → notes_from (map (λ n. bare (of n)) numbers) number instances ≡ notes_from (map of numbers) number instances
  bare_notes number [] = refl
  bare_notes number (instance ∷ others) =
      ap (λ notes. notes ++ notes_from (map (λ n. bare (of n)) numbers) (number + 1) others) (bare_one instance.file number instance)
      ∙ ap (λ notes. asked_notes (file_at (map of numbers) instance.file) number instance ++ notes) (bare_notes (number + 1) others)

pub with_notes : (design : DesignParts) (files : List FileConditions) (notes : List Note) → notes ≡ design.parts.notes ++ tool_notes files design.instances → record { parts = record { flat = design.parts.flat; delays = design.parts.delays; dropped = design.parts.dropped; notes = notes }; instances = design.instances } ≡ with_tools files design
with_notes design files notes is =
    let of : List Note → DesignParts = λ all. record { parts = record { flat = design.parts.flat; delays = design.parts.delays; dropped = design.parts.dropped; notes = all }; instances = design.instances } in
    ap of is

-- ---- files that ask nothing

none_left : (asks : List Ask) (elsewhere : List Bool) → (length asks == 0) ≡ true → foreign_asks asks elsewhere ≡ []
none_left [] elsewhere none = refl
none_left (ask ∷ asks) elsewhere none = absurd (grind (arith, nat_tests, none))

quiet_file : (file : FileConditions) (elsewhere : List Bool) (number : ℕ) (instance : Instance) → is_quiet file ≡ true → asked_notes (foreign_by file elsewhere) number instance ≡ []
quiet_file file elsewhere number instance quiet =
    ap (λ asks. map (tool_note number instance) (filter (hangs_in (foreign_by file elsewhere) instance.«module») asks)) (none_left file.asks elsewhere quiet)

both_left : (a b : Bool) → (a && b) ≡ true → a ≡ true
both_left true b both = refl
both_left false b both = both

both_right : (a b : Bool) → (a && b) ≡ true → b ≡ true
both_right true b both = both
both_right false b both = cc

all_at : {A : Type 0} (test : A → Bool) (xs : List A) → list_all test xs ≡ true → (k : ℕ) (x : A) → slice_get xs k ≡ Some x → test x ≡ true
all_at test [] all k x is = cc
all_at test (y ∷ ys) all zero x is =
    let same : y ≡ x = cc in
    ap test (sym same) ∙ both_left (test y) (list_all test ys) all
all_at test (y ∷ ys) all (suc k) x is =
    all_at test ys (both_right (test y) (list_all test ys) all) k x is

module _ (all : List FileConditions) (numbers : List ℕ) (quiet : list_all (λ number. is_quiet (file_at all number)) numbers ≡ true) where
  quiet_found : (found : Option ℕ) → ((n : ℕ) → found ≡ Some n → is_quiet (file_at all n) ≡ true) → (number : ℕ) (instance : Instance) → asked_notes (unwrap_or (option_map (foreign_in all) found) nothing_asked) number instance ≡ []
  quiet_found None each number instance = refl
  quiet_found (Some n) each number instance =
      quiet_file (file_at all n) (elsewhere_in all n) number instance (each n refl)

  quiet_one : (file number : ℕ) (instance : Instance) → asked_notes (file_at (map (foreign_in all) numbers) file) number instance ≡ []
  quiet_one file number instance =
      ap (λ found. asked_notes (unwrap_or found nothing_asked) number instance) (slice_get-map (foreign_in all) numbers file)
      ∙ quiet_found (slice_get numbers file) (λ n is. all_at (λ number. is_quiet (file_at all number)) numbers quiet file n is) number instance

  pub quiet_notes : (number : ℕ) (instances : List Instance) → notes_from (map (foreign_in all) numbers) number instances ≡ []
  quiet_notes number [] = refl
  quiet_notes number (instance ∷ others) =
      ap (λ notes. notes ++ notes_from (map (foreign_in all) numbers) (number + 1) others) (quiet_one instance.file number instance)
      ∙ quiet_notes (number + 1) others
