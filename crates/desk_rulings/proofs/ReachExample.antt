-- What is told of a module's reach, on small cases.
use Rattle.std.proofs.Common.{◌≡◌, ℕ, List, [], ◌∷◌, None, Some, refl, codes}
use Rattle.std.specs.Prelude.{pos}
use Rattle.desk_tables.specs.declared.rows.SignOffRow.{SignOffRow}
use Rattle.desk_rulings.specs.Reaches.{last_signed}

abbrev signoff : ℕ → List ℕ → List ℕ → SignOffRow
signoff id top reach =
    record { id = id; top = top; who = codes "ann"; day = pos 3; grade = codes "clean"; reach = reach; edition = Some 2 }

abbrev signoffs : List SignOffRow
signoffs =
    signoff 1 (codes "top") (7 ∷ []) ∷ signoff 2 (codes "top") (7 ∷ [])
    ∷ signoff 3 (codes "other") (7 ∷ []) ∷ signoff 4 (codes "top") (8 ∷ []) ∷ []

the_last_of_these_files : last_signed (codes "top") (7 ∷ []) signoffs ≡ Some 2
the_last_of_these_files = refl

none_of_other_files : last_signed (codes "top") (9 ∷ []) signoffs ≡ None
none_of_other_files = refl
