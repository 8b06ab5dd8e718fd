-- Files, on small cases.
use Rattle.std.proofs.Common.{◌≡◌, ◌*◌, List, ℕ, [], ◌∷◌, refl, codes}
use Rattle.desk_files.specs.Limits.{MAX_BYTES}
use Rattle.desk_files.specs.Sources.{with_file, without_file}
use Rattle.source_file.specs.declared.SourceFile.{SourceFile}

abbrev file : List ℕ → List ℕ → SourceFile
file its_name its_text = record { name = its_name; text = its_text }

abbrev both : List SourceFile
both = file (codes "a.v") (codes "1") ∷ file (codes "c.v") (codes "2") ∷ []

a_file_takes_the_place_of_its_name : with_file (file (codes "c.v") (codes "3")) both ≡ file (codes "a.v") (codes "1") ∷ file (codes "c.v") (codes "3") ∷ []
a_file_takes_the_place_of_its_name = refl

a_new_file_stands_in_order : with_file (file (codes "b.v") (codes "3")) both ≡ file (codes "a.v") (codes "1") ∷ file (codes "b.v") (codes "3") ∷ file (codes "c.v") (codes "2") ∷ []
a_new_file_stands_in_order = refl

a_dropped_file_goes : without_file (codes "a.v") both ≡ file (codes "c.v") (codes "2") ∷ []
a_dropped_file_goes = refl

a_text_has_a_mebibyte : MAX_BYTES ≡ 1024 * 1024
a_text_has_a_mebibyte = refl
