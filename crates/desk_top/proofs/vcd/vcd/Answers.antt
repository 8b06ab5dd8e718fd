use Rattle.std.proofs.Common.{◌≡◌, List, Option, None, Some, Err, subst}
use Rattle.std.specs.Prelude.{IfSome}
use Rattle.source_file.specs.SourceFiles.{texts_in}
use Rattle.source_file.specs.declared.SourceFile.{SourceFile}
use Rattle.desk_io.specs.Shelf.{Files}
use Rattle.vcd_check.specs.vcd_signals.vcd_read.Reading.{read}
use Rattle.desk_top.specs.declared.deliver.Stop.TheVariants.{NoFile}
use Rattle.desk_top.specs.Delivery.{IsWork}
use Rattle.desk_top.specs.Outcome.{IsReadBeside}
use Rattle.desk_top.specs.Texts.{texts_of}
use Rattle.desk_top.specs.Words.{texts}
use Rattle.desk_top.proofs.Worlds.{compared_fault, compared_stop, compared_texts, gone}
use Rattle.desk_top.proofs.vcd.vcd.Goals as goal

pub returns-in-Err-clause-work : goal.returns-in-Err-clause-work
returns-in-Err-clause-work g c =
    rw c.stop_of.ensures (compared_fault (g.F.Shelf.files c.args.shelf.now) c.args.top.now c.args.scope.now c.args.dump.now (texts c.args.files.now) c.in-Err.fault c.in-Err.ensures.told)

pub returns-in-Ok-read_sources-clause-work : goal.returns-in-Ok-read_sources-clause-work
returns-in-Ok-read_sources-clause-work g c =
    let made = c.in-Ok-read_sources.made in
    compared_texts (g.F.Shelf.files c.args.shelf.now) c.args.top.now c.args.scope.now c.args.dump.now (texts c.args.files.now) c.in-Ok.text c.deref.result.now made.items c.compare_text.result
    c.in-Ok.ensures.told c.in-Ok.ensures.short c.deref.ensures.value
    (subst (λ (fs : Option Files). IfSome fs (λ held. texts_of held (texts c.args.files.now) ≡ Some (texts_in made.items))) c.in-Ok.ensures.same c.in-Ok-read_sources.ensures.told)
    c.in-Ok-read_sources.ensures.names c.in-Ok-read_sources.ensures.short c.requires
    (subst (λ (files : List SourceFile). IsWork (IsReadBeside c.args.top.now files (texts_in files) c.args.scope.now (read c.deref.result.now)) c.compare_text.result) c.deref-in-Ok-read_sources.ensures.value c.compare_text.ensures.work)

pub returns-clause-work : goal.returns-clause-work
returns-clause-work g c =
    compared_stop (g.F.Shelf.files c.args.shelf.now) c.args.top.now c.args.scope.now c.args.dump.now (texts c.args.files.now) c.in-Ok.text c.in-Err-read_sources.stop c.in-Ok.ensures.told c.in-Ok.ensures.short
    (subst (λ (fs : Option Files). IfSome fs (λ held. gone c.in-Err-read_sources.stop ≡ Err NoFile → texts_of held (texts c.args.files.now) ≡ None)) c.in-Ok.ensures.same c.in-Err-read_sources.ensures.missing)
    c.requires
