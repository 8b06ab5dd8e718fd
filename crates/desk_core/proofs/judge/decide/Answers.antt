use Rattle.std.proofs.Common.{refl}
use Rattle.desk_core.specs.Outcomes.{top_of}
use Rattle.desk_core.specs.Reaches.{reach_asked}
use Rattle.desk_core.proofs.Known.{on_ok}
use Rattle.desk_core.proofs.Reached.{looks_none, looks_same, none_is, reach_is, reach_known, reach_outcomes}
use Rattle.desk_core.proofs.Same.{others_same}
use Rattle.desk_core.proofs.judge.decide.Goals as goal

pub returns-in-Some-clause-is : goal.returns-in-Some-clause-is
returns-in-Some-clause-is c =
    reach_outcomes c.args.request.now c.args.today c.args.records.now c.in-Some.top.now c.reach.result
    c.in-Some.ensures c.reach.ensures.fresh

pub returns-in-Some-clause-known : goal.returns-in-Some-clause-known
returns-in-Some-clause-known c =
    on_ok c.reach.result (reach_known c.args.request.now.ask c.in-Some.top.now c.args.db.now c.in-Some.ensures)

pub returns-in-Some-clause-others : goal.returns-in-Some-clause-others
returns-in-Some-clause-others c =
    others_same (top_of c.args.request.now.ask) c.args.db.now c.args.db.now refl refl

pub returns-in-Some-clause-reach : goal.returns-in-Some-clause-reach
returns-in-Some-clause-reach c =
    reach_is (reach_asked c.args.request.now.ask) c.in-Some.top.now c.args.records.now c.args.db.now c.reach.result
    c.in-Some.ensures c.reach.ensures.is

pub returns-in-Some-clause-looks : goal.returns-in-Some-clause-looks
returns-in-Some-clause-looks c = looks_same (reach_asked c.args.request.now.ask) c.args.db.now

pub returns-in-None-clause-reach : goal.returns-in-None-clause-reach
returns-in-None-clause-reach c =
    none_is (reach_asked c.args.request.now.ask) c.args.records.now c.args.db.now c.settle.result c.in-None.ensures

pub returns-in-None-clause-looks : goal.returns-in-None-clause-looks
returns-in-None-clause-looks c =
    looks_none (reach_asked c.args.request.now.ask) c.args.db.now c.settle.new.db c.in-None.ensures
