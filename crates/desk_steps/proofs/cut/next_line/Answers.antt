use Rattle.std.proofs.Common.{◌∙◌, ◌∷◌, ap, sym}
use Rattle.desk_steps.specs.Cuts.{cut}
use Rattle.desk_steps.proofs.Cutting.{line_cut, line_whole, none_left, shorter}
use Rattle.desk_steps.proofs.cut.next_line.Goals as goal

pub returns-in-Some-clause-line : goal.returns-in-Some-clause-line
returns-in-Some-clause-line c =
    line_cut c.args.text.now (cut (c.in-Some.line, c.in-Some.behind)) (sym c.in-Some.ensures)

pub returns-in-Some-clause-shorter : goal.returns-in-Some-clause-shorter
returns-in-Some-clause-shorter c =
    shorter 10 c.args.text.now (cut (c.in-Some.line, c.in-Some.behind)) (sym c.in-Some.ensures)

pub returns-in-None-clause-line : goal.returns-in-None-clause-line
returns-in-None-clause-line c =
    line_whole c.args.text.now c.requires (sym c.in-None.ensures)
    ∙ ap (λ rest. c.args.text.now ∷ rest) (sym (none_left c.args.text.now))
