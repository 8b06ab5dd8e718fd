use Rattle.std.proofs.Common.{◌∙◌, sym, arith}
use Rattle.desk_tables.specs.Rules.{signoff_breaks}
use Rattle.desk_tables.proofs.Broken.{broken_here, passed_all, passed_more}
use Rattle.desk_tables.proofs.Looked.{bad_signoff_is}
use Rattle.desk_tables.proofs.rules.broken_signoff.Goals as goal

pub returns-then-is_bad_signoff : goal.returns-then-is_bad_signoff
returns-then-is_bad_signoff c =
    broken_here (signoff_breaks c.args.version) c.args.rows.now c.loop-index.index c.index-rows-index.result (omega arith) c.index-rows-index.is c.loop-index.invariant
    (sym (bad_signoff_is c.args.version c.args.rows.now c.loop-index.index c.index-rows-index.result c.is_bad_signoff.result (omega arith) c.is_bad_signoff.ensures) ∙ c.if-is_bad_signoff.true)

pub loop-index-preserved : goal.loop-index-preserved
loop-index-preserved c =
    passed_more (signoff_breaks c.args.version) c.args.rows.now c.loop-index.index c.index-rows-index.result (omega arith) c.index-rows-index.is c.loop-index.invariant
    (sym (bad_signoff_is c.args.version c.args.rows.now c.loop-index.index c.index-rows-index.result c.is_bad_signoff.result (omega arith) c.is_bad_signoff.ensures) ∙ c.if-is_bad_signoff.false)

pub returns : goal.returns
returns c = passed_all (signoff_breaks c.args.version) c.args.rows.now c.loop-index.index (omega arith) c.loop-index.invariant
