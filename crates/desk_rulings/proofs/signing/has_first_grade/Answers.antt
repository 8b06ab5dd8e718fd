use Rattle.std.proofs.Common.{rules, tests, ◌∙◌}
use Rattle.std.proofs.lemmas.Iterator.{YieldsList-from_slice}
use Rattle.std.proofs.lemmas.Iterator.Search.{any_from_yields_List}
use Rattle.rtl_rule.specs.Rows.{row_of}
use Rattle.desk_rulings.proofs.FirstGrade.{any_first_grade}
use Rattle.desk_rulings.proofs.signing.has_first_grade.Goals as goal

pub returns : goal.returns
returns c =
    any_from_yields_List (λ one. (row_of one.finding.rule).first_grade) _ _ _ c.any.ensures.ran (YieldsList-from_slice c.args.rows.now cc) (λ x b q k. search (rules, tests))
    ∙ any_first_grade c.args.rows.now
