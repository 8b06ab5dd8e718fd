use Rattle.std.proofs.lemmas.Result.{on_ok_weaker}
use Rattle.rtl_scan.proofs.Tables.{comes_not, comes_one}
use Rattle.rtl_scan.proofs.arrows.Feeders.add_one.Goals as goal

pub returns-then-not-comes : goal.returns-then-not-comes
returns-then-not-comes c =
    comes_not c.args.writer c.args.mask c.args.itself c.args.self.now c.comes.result c.comes.ensures c.if-not-comes.true

pub returns : goal.returns
returns c =
    on_ok_weaker c.add.result
    (comes_one c.args.writer c.args.mask c.args.itself c.args.self.now c.add.new.self c.comes.result c.comes.ensures c.if-not-comes.false)
    c.add.ensures
