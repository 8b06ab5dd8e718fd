use Rattle.std.proofs.Common.{◌∙◌, Bool, true, false, cond, List, [], ◌∷◌, ap, arith}
use Rattle.event_model.specs.Queue.{Event, Delayed}
use Rattle.event_write.specs.QueueState.{design_of}
use Rattle.event_take.proofs.Marked.{how_many}
use Rattle.event_take.proofs.places.count.Goals as goal

pub returns-then-has_delayed : goal.returns-then-has_delayed
returns-then-has_delayed c =
    let all = how_many (design_of c.args.fanout.now) c.args.queue.now true c.requires.queue c.requires.lawful (c.has_delayed.ensures.event ∙ ap (λ (b : Bool). cond {A = List Event} b (Delayed ∷ []) []) c.if-has_delayed.true) in
    let inputs = c.count-inputs.ensures in
    let updates = c.count-updates.ensures in
    let woken = c.count-woken.ensures in
    omega (arith, all, inputs, updates, woken)

pub returns : goal.returns
returns c =
    let all = how_many (design_of c.args.fanout.now) c.args.queue.now false c.requires.queue c.requires.lawful (c.has_delayed.ensures.event ∙ ap (λ (b : Bool). cond {A = List Event} b (Delayed ∷ []) []) c.if-has_delayed.false) in
    let inputs = c.count-inputs.ensures in
    let updates = c.count-updates.ensures in
    let woken = c.count-woken.ensures in
    omega (arith, all, inputs, updates, woken)
