use Rattle.std.proofs.Common.{◌∙◌, Bool, cond, List, [], ◌∷◌, Some, ap}
use Rattle.event_model.specs.Queue.{Event, Delayed}
use Rattle.event_write.specs.QueueState.{design_of}
use Rattle.event_take.proofs.Marked.{input_is_last, late_is_last, none_is_last, update_is_last, woken_is_last}
use Rattle.event_take.proofs.ends.last.Goals as goal

pub returns-then-has_delayed-clause-event : goal.returns-then-has_delayed-clause-event
returns-then-has_delayed-clause-event c = late_is_last (design_of c.args.fanout.now) c.args.queue.now (c.has_delayed.ensures.event ∙ ap (λ (b : Bool). cond {A = List Event} b (Delayed ∷ []) []) c.if-has_delayed.true)

pub returns-in-Some-clause-event : goal.returns-in-Some-clause-event
returns-in-Some-clause-event c =
    ap Some c.woken_choice.ensures.event
    ∙ woken_is_last (design_of c.args.fanout.now) c.args.queue.now c.in-Some.process c.requires.queue (c.has_delayed.ensures.event ∙ ap (λ (b : Bool). cond {A = List Event} b (Delayed ∷ []) []) c.if-has_delayed.false) c.in-Some.ensures.greatest

pub returns-in-Some-greatest-clause-event : goal.returns-in-Some-greatest-clause-event
returns-in-Some-greatest-clause-event c =
    update_is_last (design_of c.args.fanout.now) c.args.queue.now c.in-Some-greatest.process c.requires.queue c.requires.lawful (c.has_delayed.ensures.event ∙ ap (λ (b : Bool). cond {A = List Event} b (Delayed ∷ []) []) c.if-has_delayed.false) c.in_default.ensures.greatest c.in-Some-greatest.ensures.greatest

pub returns-in_err-signal-clause-event : goal.returns-in_err-signal-clause-event
returns-in_err-signal-clause-event c =
    rw c.from_residual.ensures (none_is_last (design_of c.args.fanout.now) c.args.queue.now c.requires.queue c.requires.lawful (c.has_delayed.ensures.event ∙ ap (λ (b : Bool). cond {A = List Event} b (Delayed ∷ []) []) c.if-has_delayed.false) c.in_default.ensures.greatest c.in_default-greatest.ensures.greatest c.in_err-signal.ensures.greatest)

pub returns-clause-event : goal.returns-clause-event
returns-clause-event c =
    input_is_last (design_of c.args.fanout.now) c.args.queue.now c.in_ok-signal.signal c.requires.queue c.requires.lawful (c.has_delayed.ensures.event ∙ ap (λ (b : Bool). cond {A = List Event} b (Delayed ∷ []) []) c.if-has_delayed.false) c.in_default.ensures.greatest c.in_default-greatest.ensures.greatest c.in_ok-signal.ensures.greatest
