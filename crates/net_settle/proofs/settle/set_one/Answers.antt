use Rattle.std.proofs.Common.{sym, subst}
use Rattle.rtl_flat.specs.Value.{store}
use Rattle.rtl_flat.specs.Flats.{flat}
use Rattle.net_model.specs.Numbers.{AreNumbers}
use Rattle.net_settle.proofs.Able.{able_after}
use Rattle.net_settle.specs.Settle.{setting_view}
use Rattle.net_settle.proofs.Given.{input_there, one_numbers}
use Rattle.net_settle.proofs.settle.set_one.Goals as goal

pub set-requires-clause-there : goal.set-requires-clause-there
set-requires-clause-there c =
    input_there (flat c.args.maps.now.design.now) c.args.setting.now.signal.0 c.requires.sets.input

pub returns-clause-able : goal.returns-clause-able
returns-clause-able c =
    let m = c.args.maps.now in
    let d = flat m.design.now in
    able_after m c.set.new.self c.requires.able c.set.ensures.ready c.set.ensures.design c.set.ensures.room
    (subst (λ n. AreNumbers d n) (sym c.set.ensures.numbers)
    (one_numbers d (store m.numbers.items) (setting_view c.args.setting.now) c.requires.able.numbers c.requires.sets))
