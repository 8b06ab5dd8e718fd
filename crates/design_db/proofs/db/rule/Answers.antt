use Rattle.std.proofs.Common.{refl}
use Rattle.std.proofs.lemmas.Result.{on_ok_weaker}
use Rattle.desk_memo.specs.Readings.{first_refusal}
use Rattle.desk_memo.specs.ShownReadings.{read_of, readings_of}
use Rattle.desk_memo.specs.Shown.{all_of, ruling_of}
use Rattle.design_db.specs.Stores.{Stays}
use Rattle.design_db.proofs.Kept.{known_kept}
use Rattle.design_db.proofs.Whole.{kept_rulings, rulings_kept, rulings_same}
use Rattle.design_db.proofs.db.rule.Goals as goal

pub returns-clause-answered : goal.returns-clause-answered
returns-clause-answered g c =
    on_ok_weaker c.keep.result
    (known_kept c.args.files.now (read_of c.args.readings.now) c.args.top.now (first_refusal (readings_of c.args.readings.now)) (ruling_of c.in_ok-kept.kept) (all_of c.keep.new.self)
    c.in_ok-kept.ensures.top c.in_ok-kept.ensures.current)
    c.keep.ensures.there

pub returns-clause-rulings : goal.returns-clause-rulings
returns-clause-rulings g c =
    rulings_kept c.check.new.self c.keep.new.self (ruling_of c.in_ok-kept.kept) c.keep.result c.keep.ensures.from c.keep.ensures.rulings c.keep.ensures.absent
    (rulings_same c.args.memo.now c.check.new.self c.check.ensures.rulings c.check.ensures.absent c.requires.rulings) c.in_ok-kept.ensures.ruling

pub returns-then-is_some-clause-keeps : goal.returns-then-is_some-clause-keeps
returns-then-is_some-clause-keeps g c = Stays refl refl

pub returns-then-check-clause-keeps : goal.returns-then-check-clause-keeps
returns-then-check-clause-keeps g c = Stays c.check.ensures.rulings c.check.ensures.absent

pub returns-clause-keeps : goal.returns-clause-keeps
returns-clause-keeps g c =
    kept_rulings c.args.top.now c.args.memo.now c.check.new.self c.keep.new.self (ruling_of c.in_ok-kept.kept) c.keep.result
    c.in_ok-kept.ensures.top c.check.ensures.rulings c.check.ensures.absent c.keep.ensures.placed c.keep.ensures.alone
