use Rattle.std.proofs.Common.{◌≡◌, ◌∙◌, ◌<◌, [], ◌∷◌, Some, length, sym, subst}
use Rattle.std.specs.List.{All}
use Rattle.std.proofs.lemmas.List.Elements.{All-cons, All-nil}
use Rattle.rtl_flat.specs.Value.{store}
use Rattle.rtl_flat.specs.Flats.{flat, widths}
use Rattle.event_model.specs.Writes.{put}
use Rattle.net_model.specs.Numbers.{AreNumbers}
use Rattle.net_settle.specs.Settle.{SetsInput, setting_view}
use Rattle.net_settle.proofs.Given.{input_there}
use Rattle.net_settle.specs.net_solve.Laws.{AreApart, IsOrder}
use Rattle.net_settle.specs.Work.{Solves, numbers_of}
use Rattle.net_settle.proofs.Able.{able_after}
use Rattle.net_settle.proofs.Lawful.{lawful_flat}
use Rattle.net_turn.proofs.Put.{put_numbers}
use Rattle.net_turn.proofs.Turned.{are_runs, begins, turn_cycle}
use Rattle.net_turn.proofs.turn.turn.Goals as goal

pub set-requires-clause-ready : goal.set-requires-clause-ready
set-requires-clause-ready c = c.take.ensures.able.ready

pub set-requires-clause-there : goal.set-requires-clause-there
set-requires-clause-there c =
    let d = flat c.args.maps.now.design.now in
    let i = c.args.setting.now.signal.0 in
    subst (λ r. i < length r.now.signals.items) (sym c.take.ensures.design) (input_there d i c.requires.sets.input)

pub set-requires-clause-width : goal.set-requires-clause-width
set-requires-clause-width c =
    let setting = c.args.setting.now in
    subst (λ r. length setting.value ≡ widths (flat r.now) setting.signal.0) (sym c.take.ensures.design) c.requires.sets.wide

pub work-requires-clause-able : goal.work-requires-clause-able
work-requires-clause-able c =
    let setting = c.args.setting.now in
    let l = c.take.new.maps in
    let dl = flat l.design.now in
    let wide = subst (λ r. length setting.value ≡ widths (flat r.now) setting.signal.0) (sym c.take.ensures.design) c.requires.sets.wide in
    able_after l c.set.new.self c.take.ensures.able c.set.ensures.ready c.set.ensures.design c.set.ensures.room
    (subst (λ n. AreNumbers dl n) (sym c.set.ensures.numbers)
    (put_numbers dl (store l.numbers.items) setting.signal.0 setting.value c.take.ensures.able.numbers wide c.requires.sets.known))

pub work-requires-clause-order : goal.work-requires-clause-order
work-requires-clause-order c =
    subst (λ r. IsOrder (flat r.now) (numbers_of c.args.order.now)) (sym (c.set.ensures.design ∙ c.take.ensures.design)) c.requires.order

pub work-requires-clause-apart : goal.work-requires-clause-apart
work-requires-clause-apart c =
    subst (λ r. AreApart (flat r.now)) (sym (c.set.ensures.design ∙ c.take.ensures.design)) c.requires.apart

pub returns-clause-turns : goal.returns-clause-turns
returns-clause-turns c =
    let m = c.args.maps.now in
    let d = flat m.design.now in
    let f = c.args.fill in
    let all = c.args.clocked.now in
    let setting = c.args.setting.now in
    let old = store m.numbers.items in
    let kept = store c.take.new.maps.numbers.items in
    let given = put kept setting.signal.0 setting.value in
    let new = store c.work.new.maps.numbers.items in
    let lawful = lawful_flat m.design.now in
    let sets : All (SetsInput d) (setting_view setting ∷ []) = All-cons (SetsInput d) (setting_view setting) [] c.requires.sets (All-nil (SetsInput d)) in
    let numbers : AreNumbers d kept = subst (λ r. AreNumbers (flat r.now) kept) c.take.ensures.design c.take.ensures.able.numbers in
    let solves : Solves d f given new
    = subst (λ n. Solves d f n new) c.set.ensures.numbers
    (subst (λ r. Solves (flat r.now) f (store c.set.new.self.numbers.items) new) (c.set.ensures.design ∙ c.take.ensures.design) c.work.ensures.solves) in
    record {
      cycle = λ chains held sources solved.
          let put_all = c.take.ensures.put (are_runs d f old chains all sources (Some setting)) in
          turn_cycle d f held old chains all setting sources lawful c.requires.apart solved sets kept numbers put_all new
          (solves old given (begins d f old chains all sources (Some setting) lawful c.requires.apart solved.numbers sets kept numbers put_all solved.others));
    }
