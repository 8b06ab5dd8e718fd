-- Which answers are there, on small cases.
use Rattle.std.proofs.Common.{◌≡◌, ℕ, List, [], ◌∷◌, codes, refl}
use Rattle.std.specs.Prelude.{Option, Some, None}
use Rattle.source_file.specs.declared.SourceFile.{SourceFile}
use Rattle.design_db.specs.Answers.{Answer, Reading, Ruling}
use Rattle.design_db.specs.Stores.{Store, answer_of, changed_in, lasting_answer}

abbrev file : List ℕ → SourceFile
file text = record { name = codes "a.v"; text = text }

abbrev reading : List ℕ → Option Answer → Option Reading
reading text refusal = Some (record { file = file text; refusal = refusal })

-- it looked nothing up
abbrev ruling : List ℕ → Answer → Ruling
ruling top answer = record { top = top; look_ups = []; used = []; elsewhere = []; answer = answer }

abbrev stored : List ℕ → Option Reading → List Ruling → Option Ruling → Store
stored text read rulings absent = record {
  files = file text ∷ [];
  room = 0;
  readings = read ∷ [];
  modules = [];
  conditions = [];
  rulings = rulings;
  absent = absent;
}

a_new_file_has_changed : changed_in (stored (codes "1") None [] None) ≡ 1
a_new_file_has_changed = refl

so_has_one_with_another_text : changed_in (stored (codes "2") (reading (codes "1") None) [] None) ≡ 1
so_has_one_with_another_text = refl

not_one_as_it_was_read : changed_in (stored (codes "1") (reading (codes "1") None) [] None) ≡ 0
not_one_as_it_was_read = refl

a_ruling_is_an_answer_for_its_top : (answer : Answer) → answer_of (stored (codes "1") (reading (codes "1") None) (ruling (codes "adder") answer ∷ []) None) (codes "adder") ≡ Some answer
a_ruling_is_an_answer_for_its_top answer = refl

for_no_other_top : (answer : Answer) → answer_of (stored (codes "1") (reading (codes "1") None) (ruling (codes "adder") answer ∷ []) None) (codes "add") ≡ None
for_no_other_top answer = refl

for_none_where_a_text_has_changed : (answer : Answer) → answer_of (stored (codes "2") (reading (codes "1") None) (ruling (codes "adder") answer ∷ []) None) (codes "adder") ≡ None
for_none_where_a_text_has_changed answer = refl

a_refusal_is_one_for_each_top : (answer refusal : Answer) → answer_of (stored (codes "1") (reading (codes "1") (Some refusal)) (ruling (codes "adder") answer ∷ []) None) (codes "adder") ≡ Some refusal
a_refusal_is_one_for_each_top answer refusal = refl

the_last_absent_top_has_one : (answer : Answer) → answer_of (stored (codes "1") (reading (codes "1") None) [] (Some (ruling (codes "add") answer))) (codes "add") ≡ Some answer
the_last_absent_top_has_one answer = refl

it_does_not_last : (answer : Answer) → lasting_answer (stored (codes "1") (reading (codes "1") None) [] (Some (ruling (codes "add") answer))) (codes "add") ≡ None
it_does_not_last answer = refl
