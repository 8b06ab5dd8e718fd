use Rattle.std.proofs.Common.{◌≡◌, Ok, subst}
use Rattle.std.specs.Prelude.{IfErr, IfOk}
use Rattle.elab_lawful.specs.elab_scope.Faults.{answer}
use Rattle.elab_lawful.specs.elab_walk.Trails.{IsTold}
use Rattle.elab_lawful.specs.elab_walk.Visits.{Library}
use Rattle.rtl_flat.specs.Flats.{flat_in}
use Rattle.rtl_elab.specs.Elaborated.{elaborated, refused}
use Rattle.rtl_elab.proofs.Libraries.{library_is}
use Rattle.rtl_elab.proofs.whole.elaborate.Goals as goal

pub returns-clause-design : goal.returns-clause-design
returns-clause-design g c =
    subst (λ (all : Library). IfOk c.design_in.result (λ design. elaborated all c.args.top.now ≡ Ok (flat_in design))) (library_is c.args.files.now c.args.set.now c.requires) c.design_in.ensures.design

pub returns-clause-told : goal.returns-clause-told
returns-clause-told g c =
    subst (λ (all : Library). IfErr c.design_in.result (λ error. IsTold (answer error) (refused (elaborated all c.args.top.now)))) (library_is c.args.files.now c.args.set.now c.requires) c.design_in.ensures.told
