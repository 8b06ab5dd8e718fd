use Rattle.std.proofs.Common.{◌∙◌, length, ap, arith}
use Rattle.std.proofs.lemmas.List.{length_push}
use Rattle.check_unknown.specs.Spreading.{bucket}
use Rattle.check_unknown.proofs.Worklist.{bucket_empty}
use Rattle.check_unknown.proofs.doubt.no_readers.Goals as goal

pub loop-preserved : goal.loop-preserved
loop-preserved c =
    let added = c.in_ok-push.ensures.items in (
      omega (arith, ap length added, length_push c.loop.table.items c.new.result, c.loop.invariant.0),
      λ s. ap (λ t. bucket t s) added ∙ bucket_empty c.loop.table.items c.new.result c.new.ensures.items c.loop.invariant.1 s,
    )
