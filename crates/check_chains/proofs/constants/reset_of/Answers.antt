use Rattle.rtl_flat.specs.Flats.{flat}
use Rattle.check_chains.proofs.Resets.{not_whole}
use Rattle.check_chains.proofs.constants.reset_of.Goals as goal

pub returns-in_default : goal.returns-in_default
returns-in_default c =
    not_whole (flat c.args.design.now) c.args.one.now c.in-Set.target c.in-Set.value c.in-Set.delayed c.in-Set.spot c.in-Set.is c.deref.result.now c.deref.ensures.value c.in_default.ensures
