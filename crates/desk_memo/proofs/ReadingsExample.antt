-- Readings of two files.
use Rattle.std.proofs.Common.{◌≡◌, ℕ, List, [], ◌∷◌, Option, None, Some, refl, codes}
use Rattle.rtl_tree.specs.TreeModule.{Circuit}
use Rattle.rtl_prep.specs.Conditions.{FileConditions}
use Rattle.rtl_front.specs.Fronts.{IsAsked}
use Rattle.check_conditions.specs.Foreign.{nothing_asked}
use Rattle.source_file.specs.declared.SourceFile.{SourceFile}
use Rattle.desk_memo.specs.declared.answer.Answer.{Answer}
use Rattle.desk_memo.specs.Exchanges.{put_in}
use Rattle.desk_memo.specs.Readings.{AreKnown, AreReadings, Reading, Spells, changed_count, file_at, first_refusal, with_blank, without}

abbrev file : List ℕ → List ℕ → SourceFile
file its_name its_text = record { name = its_name; text = its_text }

abbrev both : List SourceFile
both = file (codes "a.v") (codes "1") ∷ file (codes "c.v") (codes "2") ∷ []

abbrev read : {V : Type 0} → SourceFile → Option (Answer V) → Option (Reading V)
read its_file its_refusal = Some (record { file = its_file; refusal = its_refusal })

-- ---- texts that have changed

a_file_without_a_reading_counts : (V : Type 0) → changed_count {V = V} both (None ∷ read (file (codes "c.v") (codes "2")) None ∷ []) ≡ 1
a_file_without_a_reading_counts V = refl

another_text_counts : (V : Type 0) → changed_count {V = V} both (read (file (codes "a.v") (codes "1")) None ∷ read (file (codes "c.v") (codes "3")) None ∷ []) ≡ 1
another_text_counts V = refl

a_text_that_was_read_does_not : (V : Type 0) → changed_count {V = V} both (read (file (codes "a.v") (codes "1")) None ∷ read (file (codes "c.v") (codes "2")) None ∷ []) ≡ 0
a_text_that_was_read_does_not V = refl

-- ---- refusals

the_first_refusal_is_told : {V : Type 0} (some other : Answer V) → first_refusal (None ∷ read (file (codes "a.v") (codes "1")) (Some some) ∷ read (file (codes "c.v") (codes "2")) (Some other) ∷ []) ≡ Some some
the_first_refusal_is_told some other = refl

files_that_spell_modules_tell_none : (V : Type 0) → first_refusal {V = V} (None ∷ read (file (codes "c.v") (codes "2")) None ∷ []) ≡ None
files_that_spell_modules_tell_none V = refl

-- ---- files that come and go

a_new_file_gets_a_blank_in_its_place : with_blank {X = ℕ} 0 (codes "b.v") both (1 ∷ 2 ∷ []) ≡ 1 ∷ 0 ∷ 2 ∷ []
a_new_file_gets_a_blank_in_its_place = refl

the_last_one_gets_it_behind_all : with_blank {X = ℕ} 0 (codes "d.v") both (1 ∷ 2 ∷ []) ≡ 1 ∷ 2 ∷ 0 ∷ []
the_last_one_gets_it_behind_all = refl

a_file_that_is_there_keeps_what_it_has : with_blank {X = ℕ} 0 (codes "c.v") both (1 ∷ 2 ∷ []) ≡ 1 ∷ 2 ∷ []
a_file_that_is_there_keeps_what_it_has = refl

what_is_kept_of_a_dropped_file_goes : without {X = ℕ} (codes "a.v") both (1 ∷ 2 ∷ []) ≡ 2 ∷ []
what_is_kept_of_a_dropped_file_goes = refl

-- ---- readings that are right

a_file_as_it_was_read : (V : Type 0) → file_at {V = V} (None ∷ read (file (codes "c.v") (codes "3")) None ∷ []) 1 ≡ Some (file (codes "c.v") (codes "3"))
a_file_as_it_was_read V = refl

-- a new file has no modules yet, and one whose text has changed has those of the text that was read
modules_are_of_the_text_that_was_read : (V : Type 0) (circuits : List Circuit) → Spells (codes "3") circuits → AreReadings {V = V} both (None ∷ read (file (codes "c.v") (codes "3")) None ∷ []) ([] ∷ circuits ∷ [])
modules_are_of_the_text_that_was_read V circuits spelled = (refl, ((refl, spelled), tt))

-- a new file asks nothing yet, nor does one that was refused, and one whose text has changed asks what
-- the text asked that was read
conditions_are_of_the_text_that_was_read : {V : Type 0} (answer : Answer V) (asked : FileConditions) → IsAsked (codes "3") asked → AreKnown (None ∷ read (file (codes "b.v") (codes "4")) (Some answer) ∷ read (file (codes "c.v") (codes "3")) None ∷ []) (nothing_asked ∷ nothing_asked ∷ asked ∷ [])
conditions_are_of_the_text_that_was_read answer asked is = (refl, (refl, (is, tt)))

-- ---- exchanges

what_was_made_beside_comes_in : put_in {X = ℕ} (None ∷ Some 5 ∷ []) (1 ∷ 2 ∷ []) ≡ 1 ∷ 5 ∷ []
what_was_made_beside_comes_in = refl
