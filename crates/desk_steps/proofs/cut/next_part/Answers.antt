use Rattle.std.proofs.Common.{sym}
use Rattle.desk_steps.specs.Cuts.{cut}
use Rattle.desk_steps.proofs.Cutting.{part_cut, part_whole, shorter}
use Rattle.desk_steps.proofs.cut.next_part.Goals as goal

pub returns-in-Some-clause-part : goal.returns-in-Some-clause-part
returns-in-Some-clause-part c =
    part_cut c.args.text.now (cut (c.in-Some.part, c.in-Some.behind)) (sym c.in-Some.ensures)

pub returns-in-Some-clause-shorter : goal.returns-in-Some-clause-shorter
returns-in-Some-clause-shorter c =
    shorter 32 c.args.text.now (cut (c.in-Some.part, c.in-Some.behind)) (sym c.in-Some.ensures)

pub returns-in-None-clause-part : goal.returns-in-None-clause-part
returns-in-None-clause-part c = part_whole c.args.text.now (sym c.in-None.ensures)
