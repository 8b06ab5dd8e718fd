use Rattle.std.proofs.Common.{subst}
use Rattle.source_file.specs.SourceFiles.{texts_in}
use Rattle.desk_build.specs.declared.front.Built.{Built as Made}
use Rattle.rtl_flat.specs.Flats.{flat_in}
use Rattle.desk_build.specs.Building.{Designed, IsBuilt, Refused, built}
use Rattle.desk_top.proofs.Buildings.{judged_of}
use Rattle.desk_top.proofs.sign.judge.Goals as goal

pub returns-in-Ok-Refused-clause-work : goal.returns-in-Ok-Refused-clause-work
returns-in-Ok-Refused-clause-work c =
    let files = c.args.files.now in
    judged_of c.args.top.now files (texts_in files) (Refused c.in-Ok-Refused.line.items) c.refuse.result
    (subst (λ (m : Made). IsBuilt c.args.top.now files (texts_in files) (built m)) c.in-Ok-Refused.field-0-is c.in-Ok-Refused.ensures)
    c.refuse.ensures.work

pub returns-in-Ok-Designed-clause-work : goal.returns-in-Ok-Designed-clause-work
returns-in-Ok-Designed-clause-work c =
    let files = c.args.files.now in
    judged_of c.args.top.now files (texts_in files) (Designed (flat_in c.in-Ok-Designed.design)) c.judge_design.result
    (subst (λ (m : Made). IsBuilt c.args.top.now files (texts_in files) (built m)) c.in-Ok-Designed.field-0-is c.in-Ok-Designed.ensures)
    c.judge_design.ensures.work
