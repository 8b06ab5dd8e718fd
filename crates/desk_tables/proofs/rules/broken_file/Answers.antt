use Rattle.std.proofs.Common.{◌≡◌, ◌∙◌, ◌+◌, ◌≤◌, length, sym, ap, arith}
use Rattle.desk_tables.specs.Rules.{file_breaks}
use Rattle.desk_tables.specs.Seen.{seen}
use Rattle.desk_tables.specs.Limits.{MAX_ALL_BYTES}
use Rattle.desk_tables.proofs.Broken.{broken_here, passed_all}
use Rattle.desk_tables.proofs.Looked.{bad_file_is, files_more, files_none, room_for}
use Rattle.desk_tables.proofs.rules.broken_file.Goals as goal

pub loop-index-init : goal.loop-index-init
loop-index-init c = files_none c.args.rows.now (seen c.new-names.result) c.new-names.ensures

pub returns-then-is_bad_file : goal.returns-then-is_bad_file
returns-then-is_bad_file c =
    broken_here file_breaks c.args.rows.now c.loop-index.index c.index-rows-index.result (omega arith) c.index-rows-index.is c.loop-index.invariant.passed
    (sym (bad_file_is c.args.rows.now c.loop-index.index c.loop-index.bytes (seen c.loop-index.names) c.index-rows-index.result c.has-taken.result c.is_bad_file.result c.loop-index.invariant (omega arith) c.has-taken.ensures c.is_bad_file.ensures) ∙ c.if-is_bad_file.true)

pub overflow_add-bytes : goal.overflow_add-bytes
overflow_add-bytes c =
    let room : c.loop-index.bytes + length c.index-rows-index.result.text ≤ MAX_ALL_BYTES =
    room_for c.loop-index.index c.loop-index.bytes c.index-rows-index.result c.has-taken.result (sym c.is_bad_file.ensures ∙ c.if-is_bad_file.false) in
    let same : length c.as_bytes.result.now ≡ length c.index-rows-index.result.text = ap length c.as_bytes.ensures in
    omega arith

pub loop-index-preserved : goal.loop-index-preserved
loop-index-preserved c =
    files_more c.args.rows.now c.loop-index.index c.loop-index.bytes _ (seen c.loop-index.names) _ c.index-rows-index.result c.loop-index.invariant (omega arith) c.index-rows-index.is
    (sym (bad_file_is c.args.rows.now c.loop-index.index c.loop-index.bytes (seen c.loop-index.names) c.index-rows-index.result c.has-taken.result c.is_bad_file.result c.loop-index.invariant (omega arith) c.has-taken.ensures c.is_bad_file.ensures) ∙ c.if-is_bad_file.false)
    (ap (λ text. c.loop-index.bytes + length text) c.as_bytes.ensures)
    c.in_ok-add.ensures

pub returns : goal.returns
returns c = passed_all file_breaks c.args.rows.now c.loop-index.index (omega arith) c.loop-index.invariant.passed
