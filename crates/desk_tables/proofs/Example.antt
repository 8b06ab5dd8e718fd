-- Names, days and changes, on small cases.
use Rattle.std.proofs.Common.{◌≡◌, true, false, List, ℕ, [], ◌∷◌, Option, None, Some, refl, codes}
use Rattle.std.specs.Prelude.{pos, negsuc}
use Rattle.desk_tables.specs.Changes.{with_file, without_file}
use Rattle.desk_tables.specs.Days.{day_of}
use Rattle.desk_tables.specs.Editions.{is_edition}
use Rattle.desk_tables.specs.Grades.{grade_word, is_grade_word}
use Rattle.desk_tables.specs.Migrations.{current}
use Rattle.desk_tables.specs.Names.{is_name}
use Rattle.desk_tables.specs.Rules.{broken_meta, has_reply, is_file_name}
use Rattle.desk_tables.specs.Tables.{Kept, new_tables}
use Rattle.desk_tables.specs.declared.rows.FileRow.{FileRow}
use Rattle.desk_tables.specs.declared.rows.Grade.TheVariants.{Waived}
use Rattle.desk_tables.specs.declared.rows.ReplyRow.{ReplyRow}
use Rattle.desk_tables.specs.declared.rows.SignOffRow.{SignOffRow}

a_name : is_name (codes "jo_2-b") ≡ true
a_name = refl

no_capital : is_name (codes "Jo") ≡ false
no_capital = refl

no_empty_name : is_name [] ≡ false
no_empty_name = refl

the_last_day : day_of (pos 2932896) ≡ Some (pos 2932896)
the_last_day = refl

no_day_behind_it : day_of (pos 2932897) ≡ None
no_day_behind_it = refl

no_day_before_the_first : day_of (negsuc 719528) ≡ None
no_day_before_the_first = refl

a_file_name : is_file_name (codes "Uart_tx.v") ≡ true
a_file_name = refl

no_folder : is_file_name (codes "src/tx.v") ≡ false
no_folder = refl

abbrev file : List ℕ → List ℕ → FileRow
file its_name its_text = record { name = its_name; text = its_text; digest = []; editor = codes "jo" }

abbrev both : List FileRow
both = file (codes "a") (codes "1") ∷ file (codes "b") (codes "2") ∷ []

a_replaced_file_keeps_its_place : with_file (file (codes "a") (codes "3")) both ≡ file (codes "a") (codes "3") ∷ file (codes "b") (codes "2") ∷ []
a_replaced_file_keeps_its_place = refl

a_new_file_stands_at_the_end : with_file (file (codes "c") (codes "3")) both ≡ file (codes "a") (codes "1") ∷ file (codes "b") (codes "2") ∷ file (codes "c") (codes "3") ∷ []
a_new_file_stands_at_the_end = refl

a_dropped_file_goes : without_file (codes "a") both ≡ file (codes "b") (codes "2") ∷ []
a_dropped_file_goes = refl

no_version_breaks_at_the_first_row : broken_meta [] ≡ Some 1
no_version_breaks_at_the_first_row = refl

two_versions_break_at_the_second : broken_meta (record { version = 1 } ∷ record { version = 1 } ∷ []) ≡ Some 2
two_versions_break_at_the_second = refl

abbrev reply : List ℕ → List ℕ → ReplyRow
reply its_user its_request =
    record { user = its_user; request = its_request; digest = []; status = 200; body = [] }

no_third_version : broken_meta (record { version = 3 } ∷ []) ≡ Some 1
no_third_version = refl

no_edition_under_version_1 : is_edition 1 (Some 1) ≡ false
no_edition_under_version_1 = refl

version_2_has_editions : is_edition 2 None ≡ false
version_2_has_editions = refl

no_third_edition : is_edition 2 (Some 3) ≡ false
no_third_edition = refl

abbrev signed : Option ℕ → SignOffRow
signed its_edition = record {
  id = 1;
  top = codes "top";
  who = codes "jo";
  day = pos 5;
  grade = codes "clean";
  reach = [];
  edition = its_edition;
}

abbrev tables_of : ℕ → Option ℕ → Kept
tables_of its_version its_edition = record new_tables {
  meta = record { version = its_version } ∷ [];
  signoffs = signed its_edition ∷ [];
  replies = reply (codes "jo") (codes "b1") ∷ [];
}

a_sign_off_of_version_1_gets_edition_1 : current (tables_of 1 None) ≡ tables_of 2 (Some 1)
a_sign_off_of_version_1_gets_edition_1 = refl

tables_of_version_2_stay : current (tables_of 2 (Some 2)) ≡ tables_of 2 (Some 2)
tables_of_version_2_stay = refl

a_grade_has_its_word : grade_word Waived ≡ codes "waived"
a_grade_has_its_word = refl

no_other_letters : is_grade_word (codes "Clean") ≡ false
no_other_letters = refl

-- the same letters, parted elsewhere, are another request
another_pair : has_reply (codes "jo") (codes "b1") (reply (codes "job") (codes "1") ∷ []) ≡ false
another_pair = refl
