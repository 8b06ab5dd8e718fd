use Rattle.std.proofs.Common.{Ok, subst}
use Rattle.source_file.specs.SourceFiles.{texts_in}
use Rattle.desk_build.specs.declared.front.Built.{Built as Made}
use Rattle.desk_top.specs.declared.simulate.Plan.TheVariants.{Told}
use Rattle.rtl_flat.specs.Flats.{flat_in}
use Rattle.desk_build.specs.Building.{Designed, IsBuilt, Refused, built}
use Rattle.desk_top.proofs.Buildings.{stepped_of}
use Rattle.desk_top.proofs.simulate.try_steps.Goals as goal

pub returns-in-Ok-Refused-clause-plan : goal.returns-in-Ok-Refused-clause-plan
returns-in-Ok-Refused-clause-plan c =
    let files = c.args.files.now in
    stepped_of c.args.top.now files (texts_in files) c.args.steps.now (Refused c.in-Ok-Refused.line.items) (Ok (Told c.refused.result))
    (subst (λ (m : Made). IsBuilt c.args.top.now files (texts_in files) (built m)) c.in-Ok-Refused.field-0-is c.in-Ok-Refused.ensures)
    c.refused.ensures

pub returns-in-Ok-Designed-clause-plan : goal.returns-in-Ok-Designed-clause-plan
returns-in-Ok-Designed-clause-plan c =
    let files = c.args.files.now in
    stepped_of c.args.top.now files (texts_in files) c.args.steps.now (Designed (flat_in c.in-Ok-Designed.design)) c.make_plan.result
    (subst (λ (m : Made). IsBuilt c.args.top.now files (texts_in files) (built m)) c.in-Ok-Designed.field-0-is c.in-Ok-Designed.ensures)
    c.make_plan.ensures.plan
