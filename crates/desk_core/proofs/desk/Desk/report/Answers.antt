use Rattle.std.proofs.Common.{◌∙◌, ap}
use Rattle.desk_tables.specs.Tables.{kept_of}
use Rattle.design_db.specs.Stores.{answer_of}
use Rattle.desk_core.specs.Machine.{Machine}
use Rattle.desk_core.proofs.Told.{are_files, fresh_of, told_by}
use Rattle.desk_core.proofs.desk.Desk.report.Goals as goal

pub returns-clause-told : goal.returns-clause-told
returns-clause-told c =
    let db = c.rule.new.db in
    let top = c.args.top.now in
    let answer = c.in-Some.answer.now in
    let inside = c.self.inside in
    let kept = c.args.self.now.kept in
    let same = ap (λ (machine : Machine). machine.kept) c.self.view_is in
    told_by top c.args.today kept (kept_of c.tables-tables.result.now) db.files c.files.result.now answer c.report_of.result
    (are_files kept inside.records inside.db.files db.files same c.rule.ensures.files c.self.invariant.are_files)
    (fresh_of db.files top answer (answer_of db top) c.in-Some.ensures.is c.in-Some.ensures.fresh)
    (c.tables-tables.ensures ∙ same) c.files.ensures c.report_of.ensures
