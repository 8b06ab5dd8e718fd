use Rattle.desk_core.proofs.Same.{others_done}
use Rattle.desk_core.proofs.judge.count_ruling.Goals as goal

pub returns-clause-others : goal.returns-clause-others
returns-clause-others g c =
    others_done c.args.top.now c.args.db.now c.ruling.new.self c.ruling.result c.ruling.ensures.others c.ruling.ensures.same
