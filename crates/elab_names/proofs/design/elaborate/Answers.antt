use Rattle.std.proofs.Common.{subst}
use Rattle.std.specs.Prelude.{IfOk}
use Rattle.rtl_elab.specs.elab_walk.Visits.{Library}
use Rattle.rtl_elab.specs.Elaborated.{elaborated}
use Rattle.rtl_elab.proofs.Libraries.{library_is}
use Rattle.elab_names.specs.Extracts.{IsElaborated, extract}
use Rattle.elab_names.proofs.design.elaborate.Goals as goal

pub returns-clause-design : goal.returns-clause-design
returns-clause-design g c =
    subst (λ (all : Library). IfOk c.elaborate_in.result (λ made. IsElaborated (elaborated (extract made.files.items all) c.args.top.now) made.design)) (library_is c.args.files.now c.args.set.now c.requires) c.elaborate_in.ensures.design
