use Rattle.std.proofs.Common.{◌∙◌, List, codes, subst}
use Rattle.source_file.specs.SourceFiles.{texts_in}
use Rattle.rtl_flat.specs.Flats.{flat_in}
use Rattle.desk_build.specs.declared.front.Built.{Built as Made}
use Rattle.desk_build.specs.Building.{Designed, IsBuilt, Refused, built}
use Rattle.desk_top.proofs.Buildings.{generated_of}
use Rattle.desk_top.proofs.generate.generate.Goals as goal

pub returns-in-Ok-Refused-clause-work : goal.returns-in-Ok-Refused-clause-work
returns-in-Ok-Refused-clause-work c =
    let files = c.deref.result.now in
    generated_of c.args.stages files (Refused c.in-Ok-Refused.line.items) c.refuse.result
    (c.deref.ensures.value ∙ c.in_ok-files.ensures.files)
    (subst (λ (m : Made). IsBuilt (codes "top") files (texts_in files) (built m)) c.in-Ok-Refused.field-0-is c.in-Ok-Refused.ensures)
    c.refuse.ensures.work

pub returns-in-Ok-Designed-clause-work : goal.returns-in-Ok-Designed-clause-work
returns-in-Ok-Designed-clause-work c =
    let files = c.deref.result.now in
    generated_of c.args.stages files (Designed (flat_in c.in-Ok-Designed.design)) c.count.result
    (c.deref.ensures.value ∙ c.in_ok-files.ensures.files)
    (subst (λ (m : Made). IsBuilt (codes "top") files (texts_in files) (built m)) c.in-Ok-Designed.field-0-is c.in-Ok-Designed.ensures)
    c.count.ensures.work
