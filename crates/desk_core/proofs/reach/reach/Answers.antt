use Rattle.desk_tables.specs.Tables.{kept_of}
use Rattle.design_db.specs.Stores.{answer_of}
use Rattle.desk_core.proofs.Reached.{reach_seen, reached_by}
use Rattle.desk_core.proofs.reach.reach.Goals as goal

pub returns-clause-is : goal.returns-clause-is
returns-clause-is c =
    reach_seen c.args.top.now c.args.records.now (kept_of c.tables.result.now) (answer_of c.args.db.now c.args.top.now) _ c.reach_with.result
    c.tables.ensures c.answer.ensures.is c.reach_with.ensures

pub returns-clause-fresh : goal.returns-clause-fresh
returns-clause-fresh c =
    reached_by c.args.top.now c.args.records.now c.args.db.now.files (answer_of c.args.db.now c.args.top.now) c.reach_with.result
    c.requires c.answer.ensures.fresh (returns-clause-is c)
