use Rattle.std.proofs.Common.{◌∙◌, sym, arith}
use Rattle.desk_tables.specs.Rules.{waiver_breaks}
use Rattle.desk_tables.proofs.Broken.{broken_here, passed_all, passed_more}
use Rattle.desk_tables.proofs.Looked.{bad_waiver_is}
use Rattle.desk_tables.proofs.rules.broken_waiver.Goals as goal

pub returns-then-is_bad_waiver : goal.returns-then-is_bad_waiver
returns-then-is_bad_waiver c =
    broken_here waiver_breaks c.args.rows.now c.loop-index.index c.index-rows-index.result (omega arith) c.index-rows-index.is c.loop-index.invariant
    (sym (bad_waiver_is c.args.rows.now c.loop-index.index c.index-rows-index.result c.is_bad_waiver.result (omega arith) c.is_bad_waiver.ensures) ∙ c.if-is_bad_waiver.true)

pub loop-index-preserved : goal.loop-index-preserved
loop-index-preserved c =
    passed_more waiver_breaks c.args.rows.now c.loop-index.index c.index-rows-index.result (omega arith) c.index-rows-index.is c.loop-index.invariant
    (sym (bad_waiver_is c.args.rows.now c.loop-index.index c.index-rows-index.result c.is_bad_waiver.result (omega arith) c.is_bad_waiver.ensures) ∙ c.if-is_bad_waiver.false)

pub returns : goal.returns
returns c = passed_all waiver_breaks c.args.rows.now c.loop-index.index (omega arith) c.loop-index.invariant
