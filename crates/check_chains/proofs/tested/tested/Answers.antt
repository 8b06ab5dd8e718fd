use Rattle.rtl_flat.specs.Flats.{flat}
use Rattle.check_chains.proofs.Nodes.{concat_untested}
use Rattle.check_chains.proofs.tested.tested.Goals as goal

pub returns-in-Concat : goal.returns-in-Concat
returns-in-Concat c =
    let e = c.args.e.now in
    concat_untested (flat c.args.design.now) e.width e.signed e.spot e.node c.in-Concat.field-0 c.in-Concat.is
