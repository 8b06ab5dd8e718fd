use Rattle.std.proofs.Common.{subst}
use Rattle.source_file.specs.SourceFiles.{texts_in}
use Rattle.desk_build.specs.declared.front.Built.{Built as Made}
use Rattle.rtl_flat.specs.Flats.{flat_in}
use Rattle.vcd_check.specs.vcd_signals.vcd_read.Reading.{dump_of}
use Rattle.desk_build.specs.Building.{Designed, IsBuilt, Refused, built}
use Rattle.desk_top.proofs.Buildings.{compared_of}
use Rattle.desk_top.proofs.vcd.compare_in.Goals as goal

pub returns-in-Ok-Refused-clause-work : goal.returns-in-Ok-Refused-clause-work
returns-in-Ok-Refused-clause-work c =
    let files = c.args.files.now in
    compared_of c.args.top.now files (texts_in files) c.args.scope.now (dump_of c.args.dump.now) (Refused c.in-Ok-Refused.line.items) c.refuse.result
    (subst (λ (m : Made). IsBuilt c.args.top.now files (texts_in files) (built m)) c.in-Ok-Refused.field-0-is c.in-Ok-Refused.ensures)
    c.refuse.ensures.work

pub returns-in-Ok-Designed-clause-work : goal.returns-in-Ok-Designed-clause-work
returns-in-Ok-Designed-clause-work c =
    let files = c.args.files.now in
    compared_of c.args.top.now files (texts_in files) c.args.scope.now (dump_of c.args.dump.now) (Designed (flat_in c.in-Ok-Designed.design)) c.compare_with.result
    (subst (λ (m : Made). IsBuilt c.args.top.now files (texts_in files) (built m)) c.in-Ok-Designed.field-0-is c.in-Ok-Designed.ensures)
    c.compare_with.ensures.work
