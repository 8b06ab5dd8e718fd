use Rattle.std.proofs.Common.{refl}
use Rattle.desk_tables.specs.Tables.{kept_of}
use Rattle.design_db.specs.Stores.{answer_of}
use Rattle.desk_core.specs.Outcomes.{top_of}
use Rattle.desk_core.proofs.Known.{is_there, known_by, on_ok}
use Rattle.desk_core.proofs.Same.{others_by}
use Rattle.desk_core.proofs.Told.{are_files, fresh_of, judged_by}
use Rattle.desk_core.proofs.judge.judge.Goals as goal

pub returns-clause-is : goal.returns-clause-is
returns-clause-is c =
    let db = c.rule.new.db in
    let top = c.in-Some.top.now in
    let answer = c.in-Some-answer.answer.now in
    let kept = c.args.records.now in
    judged_by c.args.request.now c.args.today top kept (kept_of c.tables-tables.result.now) db.files c.files.result.now answer c.with_answer.result
    c.in-Some.ensures
    (are_files kept kept c.args.db.now.files db.files refl c.rule.ensures.files c.requires.files)
    (fresh_of db.files top answer (answer_of db top) c.in-Some-answer.ensures.is c.in-Some-answer.ensures.fresh)
    c.tables-tables.ensures c.files.ensures c.with_answer.ensures

pub returns-in_err-rule-clause-others : goal.returns-in_err-rule-clause-others
returns-in_err-rule-clause-others c =
    others_by (top_of c.args.request.now.ask) c.in-Some.top.now c.args.db.now c.rule.new.db c.in-Some.ensures c.rule.ensures.others

pub returns-clause-others : goal.returns-clause-others
returns-clause-others c =
    others_by (top_of c.args.request.now.ask) c.in-Some.top.now c.args.db.now c.rule.new.db c.in-Some.ensures c.rule.ensures.others

pub returns-clause-known : goal.returns-clause-known
returns-clause-known c =
    on_ok c.with_answer.result
    (known_by c.args.request.now.ask c.in-Some.top.now c.rule.new.db c.in-Some.ensures
    (is_there c.in-Some-answer.answer.now (answer_of c.rule.new.db c.in-Some.top.now) c.in-Some-answer.ensures.is))
