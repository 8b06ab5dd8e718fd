use Rattle.std.proofs.Common.{None, Some, false, refl}
use Rattle.rtl_flat.specs.Expression.{tree}
use Rattle.rtl_flat.specs.Flats.{flat, widths}
use Rattle.check_unknown.proofs.Doubts.{read_meets}
use Rattle.check_unknown.proofs.choices.reads_mark.Goals as goal

pub returns-in-Some : goal.returns-in-Some
returns-in-Some c =
    read_meets (widths (flat c.args.design.now)) c.args.marks.now (tree c.args.e.now) (Some c.in-Some.signal) c.in-Some.ensures c.is_marked.result c.is_marked.ensures

pub returns-in-None : goal.returns-in-None
returns-in-None c =
    read_meets (widths (flat c.args.design.now)) c.args.marks.now (tree c.args.e.now) None c.in-None.ensures false refl
