use Rattle.std.proofs.Common.{◌∙◌, sym}
use Rattle.rtl_flat.specs.Expression.{tree}
use Rattle.rtl_flat.specs.Flats.{flat}
use Rattle.check_parts.proofs.OwnReads.{constant_is, unknown_sized}
use Rattle.check_parts.proofs.reads.constant_of.Goals as goal

pub eval-requires : goal.eval-requires
eval-requires c =
    unknown_sized (flat c.args.design.now) c.args.unknowns.now c.requires.unknown (tree c.args.e.now) c.requires.sized

pub returns : goal.returns
returns c =
    constant_is (flat c.args.design.now) c.args.unknowns.now c.requires.unknown (tree c.args.e.now) (sym c.in_ok-reads_signal.ensures ∙ c.if-branch.false) c.eval.result c.eval.ensures.bits
