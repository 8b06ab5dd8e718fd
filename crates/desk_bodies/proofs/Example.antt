-- Bodies, on small cases.
use Rattle.std.proofs.Common.{◌≡◌, ℕ, List, [], ◌∷◌, refl, codes, false, None}
use Rattle.std.specs.Fmt.{digits}
use Rattle.json.specs.Print.{escape_byte}
use Rattle.desk_bodies.specs.Bodies.{array, id_text, listed, name_text, reach_text, signoff_text, truth_text, with_digest_or_null, with_number, with_number_or_null, with_text}
use Rattle.desk_bodies.specs.Orders.{by_name}
use Rattle.desk_tables.specs.declared.rows.FileRow.{FileRow}
use Rattle.desk_bodies.specs.Refusals.{value_line}

a_file_that_was_dropped : name_text (codes "tx.v") ≡ codes "{\"name\":\"tx.v\"}"
unfolding name_text with_text escape_byte
a_file_that_was_dropped = refl

a_waiver_that_was_granted : id_text 12 ≡ codes "{\"id\":12}"
unfolding id_text with_number digits
a_waiver_that_was_granted = refl

no_sign_off : array signoff_text [] ≡ codes "[]"
unfolding array listed
no_sign_off = refl

abbrev file_of : List ℕ → FileRow
file_of name = record { name = name; text = []; digest = []; editor = codes "ann" }

by_bytes : by_name (file_of (codes "b") ∷ file_of (codes "a.v") ∷ file_of (codes "B") ∷ file_of (codes "a") ∷ []) ≡ file_of (codes "B") ∷ file_of (codes "a") ∷ file_of (codes "a.v") ∷ file_of (codes "b") ∷ []
by_bytes = refl

nothing_is_known : reach_text false None None ≡ codes "{\"current\":false,\"reach\":null,\"signoff\":null}"
unfolding reach_text truth_text with_digest_or_null with_number_or_null
nothing_is_known = refl

a_table_is_full : value_line (codes "Full") (codes "files") ≡ codes "Full files\n"
a_table_is_full = refl
