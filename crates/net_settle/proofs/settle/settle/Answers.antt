use Rattle.std.proofs.Common.{map, sym, subst}
use Rattle.rtl_flat.specs.Value.{store}
use Rattle.rtl_flat.specs.Flats.{flat}
use Rattle.net_model.specs.Cycle.{given_after}
use Rattle.net_solve.specs.Laws.{AreApart, IsOrder}
use Rattle.net_settle.specs.Work.{Solves, numbers_of}
use Rattle.net_settle.proofs.Lawful.{lawful_flat}
use Rattle.net_settle.specs.Settle.{setting_view}
use Rattle.net_settle.proofs.Given.{data_begins, data_cycle}
use Rattle.net_settle.proofs.settle.settle.Goals as goal

pub work-requires-clause-order : goal.work-requires-clause-order
work-requires-clause-order c =
    subst (λ r. IsOrder (flat r.now) (numbers_of c.args.order.now)) (sym c.set_all.ensures.design) c.requires.order

pub work-requires-clause-apart : goal.work-requires-clause-apart
work-requires-clause-apart c =
    subst (λ r. AreApart (flat r.now)) (sym c.set_all.ensures.design) c.requires.apart

pub returns-clause-cycle : goal.returns-clause-cycle
returns-clause-cycle c =
    let m = c.args.maps.now in
    let d = flat m.design.now in
    let all = map setting_view c.args.settings.now in
    let old = store m.numbers.items in
    let new = store c.work.new.maps.numbers.items in
    let solves : Solves d c.args.fill (given_after old all) new
    = subst (λ n. Solves d c.args.fill n new) c.set_all.ensures.numbers
    (subst (λ r. Solves (flat r.now) c.args.fill (store c.set_all.new.maps.numbers.items) new) c.set_all.ensures.design c.work.ensures.solves) in
    λ solved.
    let begins = data_begins d (lawful_flat m.design.now) c.args.fill old solved all c.requires.sets in
    data_cycle d (lawful_flat m.design.now) c.args.fill old solved all c.requires.sets new (solves old (given_after old all) begins)
