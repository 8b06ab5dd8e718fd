use Rattle.std.proofs.Common.{List, subst}
use Rattle.source_file.specs.SourceFiles.{texts_in}
use Rattle.source_file.specs.declared.SourceFile.{SourceFile}
use Rattle.desk_top.specs.Delivery.{IsWork}
use Rattle.desk_top.specs.Outcome.{IsJudged}
use Rattle.desk_top.specs.Words.{texts}
use Rattle.desk_top.proofs.Worlds.{signed_stop, signed_texts}
use Rattle.desk_top.proofs.sign.sign.Goals as goal

pub returns-in-Ok-clause-work : goal.returns-in-Ok-clause-work
returns-in-Ok-clause-work g c =
    signed_texts (g.F.Shelf.files c.args.shelf.now) c.args.top.now (texts c.args.files.now) c.in-Ok.made.items c.judge.result
    c.in-Ok.ensures.told c.in-Ok.ensures.names c.in-Ok.ensures.short c.requires
    (subst (λ (files : List SourceFile). IsWork (IsJudged c.args.top.now files (texts_in files)) c.judge.result) c.deref.ensures.value c.judge.ensures.work)

pub returns-in-Err-clause-work : goal.returns-in-Err-clause-work
returns-in-Err-clause-work g c =
    signed_stop (g.F.Shelf.files c.args.shelf.now) c.args.top.now (texts c.args.files.now) c.in-Err.stop c.in-Err.ensures.missing c.requires
