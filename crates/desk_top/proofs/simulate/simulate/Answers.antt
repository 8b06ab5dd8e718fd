use Rattle.std.proofs.Common.{◌≡◌, List, Option, None, Some, Err, subst}
use Rattle.std.specs.Prelude.{IfSome}
use Rattle.source_file.specs.SourceFiles.{texts_in}
use Rattle.source_file.specs.declared.SourceFile.{SourceFile}
use Rattle.desk_io.specs.Shelf.{Files}
use Rattle.desk_top.specs.declared.deliver.Stop.TheVariants.{NoFile}
use Rattle.desk_top.specs.Plans.{IsPlan}
use Rattle.desk_top.specs.Outcome.{IsStepped}
use Rattle.desk_top.specs.Texts.{texts_of}
use Rattle.desk_top.specs.Words.{texts}
use Rattle.desk_top.proofs.Worlds.{gone, stepped_fault, stepped_stop, stepped_texts}
use Rattle.desk_top.proofs.simulate.simulate.Goals as goal

pub returns-in-Err-clause-plan : goal.returns-in-Err-clause-plan
returns-in-Err-clause-plan g c =
    rw c.stop_of.ensures (stepped_fault (g.F.Shelf.files c.args.shelf.now) c.args.top.now c.args.steps.now (texts c.args.files.now) c.in-Err.fault c.in-Err.ensures.told)

pub returns-in-Ok-read_sources-clause-plan : goal.returns-in-Ok-read_sources-clause-plan
returns-in-Ok-read_sources-clause-plan g c =
    let made = c.in-Ok-read_sources.made in
    stepped_texts (g.F.Shelf.files c.args.shelf.now) c.args.top.now c.args.steps.now (texts c.args.files.now) c.in-Ok.text c.deref.result.now made.items c.try_steps.result
    c.in-Ok.ensures.told c.in-Ok.ensures.short c.deref.ensures.value
    (subst (λ (fs : Option Files). IfSome fs (λ held. texts_of held (texts c.args.files.now) ≡ Some (texts_in made.items))) c.in-Ok.ensures.same c.in-Ok-read_sources.ensures.told)
    c.in-Ok-read_sources.ensures.names c.in-Ok-read_sources.ensures.short c.requires
    (subst (λ (files : List SourceFile). IsPlan (IsStepped c.args.top.now files (texts_in files) c.deref.result.now) c.try_steps.result) c.deref-in-Ok-read_sources.ensures.value c.try_steps.ensures.plan)

pub returns-clause-plan : goal.returns-clause-plan
returns-clause-plan g c =
    stepped_stop (g.F.Shelf.files c.args.shelf.now) c.args.top.now c.args.steps.now (texts c.args.files.now) c.in-Ok.text c.in-Err-read_sources.stop c.in-Ok.ensures.told c.in-Ok.ensures.short
    (subst (λ (fs : Option Files). IfSome fs (λ held. gone c.in-Err-read_sources.stop ≡ Err NoFile → texts_of held (texts c.args.files.now) ≡ None)) c.in-Ok.ensures.same c.in-Err-read_sources.ensures.missing)
    c.requires
