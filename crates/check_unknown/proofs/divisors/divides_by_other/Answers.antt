use Rattle.rtl_flat.specs.Flats.{flat}
use Rattle.check_unknown.proofs.Nodes.{no_joined}
use Rattle.check_unknown.proofs.divisors.divides_by_other.Goals as goal

pub returns-in_default : goal.returns-in_default
returns-in_default c =
    no_joined c.args.e.now.width c.args.e.now.signed c.args.e.now.spot (flat c.args.design.now) c.args.e.now.node c.in_default.not-Joined
