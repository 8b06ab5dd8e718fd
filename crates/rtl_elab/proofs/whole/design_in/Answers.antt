use Rattle.elab_lawful.specs.elab_walk.Visits.{library}
use Rattle.rtl_elab.specs.Designs.{noted_parts}
use Rattle.rtl_elab.proofs.Deciding.{elaborated_lawful}
use Rattle.rtl_elab.proofs.whole.design_in.Goals as goal

pub design_of-requires : goal.design_of-requires
design_of-requires c =
    elaborated_lawful (library c.args.all) c.args.top.now (noted_parts c.in-Ok.made) c.in-Ok.ensures.design
