use Rattle.check_chains.proofs.Resets.{whole_piece}
use Rattle.check_chains.proofs.constants.whole_target.Goals as goal

pub returns-in-Whole : goal.returns-in-Whole
returns-in-Whole c =
    whole_piece c.args.target.now c.in_ok-part.part.now c.in_ok-part.ensures c.in-Whole.is
