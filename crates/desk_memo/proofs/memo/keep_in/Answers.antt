use Rattle.desk_memo.proofs.Kepts.{kept_at, kept_behind}
use Rattle.desk_memo.proofs.memo.keep_in.Goals as goal

pub returns-in-Some-clause-rulings : goal.returns-in-Some-clause-rulings
returns-in-Some-clause-rulings g c =
    kept_at c.args.kept c.args.rulings.now.items c.deref.result.now c.as_bytes.result.now c.in-Some.place c.deref.ensures.value c.as_bytes.ensures c.in-Some.ensures

pub returns-in_ok-push-in-None-clause-rulings : goal.returns-in_ok-push-in-None-clause-rulings
returns-in_ok-push-in-None-clause-rulings g c =
    kept_behind c.args.kept c.args.rulings.now.items c.deref.result.now c.push.new.self.items c.as_bytes.result.now c.deref.ensures.value c.as_bytes.ensures c.in_ok-push-in-None.ensures.items c.in-None.ensures
