use Rattle.std.proofs.Common.{◌∙◌, sym, arith}
use Rattle.desk_tables.specs.Rules.{reply_breaks}
use Rattle.desk_tables.specs.Seen.{seen}
use Rattle.desk_tables.proofs.Broken.{broken_here, passed_all}
use Rattle.desk_tables.proofs.Looked.{bad_reply_is, replies_more, replies_none}
use Rattle.desk_tables.proofs.rules.broken_reply.Goals as goal

pub loop-index-init : goal.loop-index-init
loop-index-init c = replies_none c.args.rows.now (seen c.new-requests.result) c.new-requests.ensures

pub returns-then-is_bad_reply : goal.returns-then-is_bad_reply
returns-then-is_bad_reply c =
    broken_here reply_breaks c.args.rows.now c.loop-index.index c.index-rows-index.result (omega arith) c.index-rows-index.is c.loop-index.invariant.passed
    (sym (bad_reply_is c.args.rows.now c.loop-index.index (seen c.loop-index.requests) c.index-rows-index.result c.in_ok-key.key c.has-taken.result c.is_bad_reply.result c.loop-index.invariant (omega arith) c.in_ok-key.ensures c.has-taken.ensures c.is_bad_reply.ensures) ∙ c.if-is_bad_reply.true)

pub loop-index-preserved : goal.loop-index-preserved
loop-index-preserved c =
    replies_more c.args.rows.now c.loop-index.index (seen c.loop-index.requests) _ c.index-rows-index.result c.in_ok-key.key c.loop-index.invariant (omega arith) c.index-rows-index.is
    (sym (bad_reply_is c.args.rows.now c.loop-index.index (seen c.loop-index.requests) c.index-rows-index.result c.in_ok-key.key c.has-taken.result c.is_bad_reply.result c.loop-index.invariant (omega arith) c.in_ok-key.ensures c.has-taken.ensures c.is_bad_reply.ensures) ∙ c.if-is_bad_reply.false)
    c.in_ok-key.ensures
    c.in_ok-add.ensures

pub returns : goal.returns
returns c = passed_all reply_breaks c.args.rows.now c.loop-index.index (omega arith) c.loop-index.invariant.passed
