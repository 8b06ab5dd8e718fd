-- A test of rows one by one, as a test of their findings.
use Rattle.std.proofs.Common.{◌≡◌, ◌||◌, List, [], ◌∷◌, refl, ap}
use Rattle.std.specs.List.{list_any}
use Rattle.rtl_rule.specs.Rows.{has_first_grade, row_of}
use Rattle.desk_rows.specs.declared.Row.{Row}
use Rattle.desk_rulings.specs.SignOffs.{findings_of}

-- some row has a finding of the first grade where its findings have one
pub any_first_grade : (rows : List Row) → list_any (λ one. (row_of one.finding.rule).first_grade) rows ≡ has_first_grade (findings_of rows)
any_first_grade [] = refl
any_first_grade (one ∷ rest) =
    ap (λ b. (row_of one.finding.rule).first_grade || b) (any_first_grade rest)
