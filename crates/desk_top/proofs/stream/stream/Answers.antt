use Rattle.std.proofs.Common.{◌∙◌, ◌<◌, ℕ, List, length, refl, subst, arith}
use Rattle.std.specs.Io.KnownBytes.{Appends}
use Rattle.desk_io.specs.Causes.{Rose}
use Rattle.desk_top.specs.Delivery.{Delivers, FrontAppended}
use Rattle.desk_top.proofs.Streaming.{cut, ended, goes_on, on_ended, on_rested, on_unsettled, starts, unsettled, unwritten}
use Rattle.desk_top.proofs.stream.stream.Goals as goal

pub loop-line-init : goal.loop-line-init
loop-line-init g c =
    record {
      going = starts c.args.design.now c.args.steps.now c.in-Ok.run' (g.S.Sink.taken c.args.out.now) c.in-Ok.ensures.at c.in-Ok.ensures.design c.in-Ok.ensures.steps;
      still = refl;
    }

pub next-requires : goal.next-requires
next-requires g c =
    let going = c.loop-line.invariant.going in
    (going.bytes, going.at)

pub loop-line-preserved : goal.loop-line-preserved
loop-line-preserved g c =
    let before = g.S.Sink.taken c.loop-line.out in
    let now = g.S.Sink.taken c.write_whole.new.out in
    record {
      going = goes_on c.args.design.now c.args.steps.now c.loop-line.run c.next.new.self (g.S.Sink.taken c.args.out.now) before now c.next.new.line.items c.loop-line.invariant.going
          (on_rested c.loop-line.run c.next.new.self c.next.new.line.items c.in-Ok-Rested.field-0 c.in-Ok-Rested.ensures.goes c.in-Ok-Rested.field-0-is) c.next.ensures.design c.next.ensures.steps
          (subst (λ (bytes : List ℕ). Appends before now bytes) c.deref.ensures.value c.in-Ok-write_whole.ensures.whole);
      still = c.in-Ok-write_whole.ensures.calm ∙ c.loop-line.invariant.still;
    }

pub returns-in-Err-write_whole-clause-streamed : goal.returns-in-Err-write_whole-clause-streamed
returns-in-Err-write_whole-clause-streamed g c =
    let before = g.S.Sink.taken c.loop-line.out in
    let now = g.S.Sink.taken c.write_whole.new.out in
    unwritten c.args.design.now c.args.steps.now c.loop-line.run c.next.new.self (g.S.Sink.taken c.args.out.now) before now c.next.new.line.items c.loop-line.invariant.going
    (on_rested c.loop-line.run c.next.new.self c.next.new.line.items c.in-Ok-Rested.field-0 c.in-Ok-Rested.ensures.goes c.in-Ok-Rested.field-0-is) c.next.ensures.design c.next.ensures.steps
    (subst (λ (bytes : List ℕ). FrontAppended before now bytes) c.deref.ensures.value c.in-Err-write_whole.ensures.front)
    (subst (λ (bytes : List ℕ). 0 < length bytes) c.deref.ensures.value c.in-Err-write_whole.ensures.some_bytes)

pub returns-in-Err-write_whole-clause-unwritten : goal.returns-in-Err-write_whole-clause-unwritten
returns-in-Err-write_whole-clause-unwritten g c =
    λ _. subst (λ (n : ℕ). Rose n (g.S.Sink.faults c.write_whole.new.out)) c.loop-line.invariant.still c.in-Err-write_whole.ensures.cause.failed

pub returns-in-Err-write_whole-clause-later : goal.returns-in-Err-write_whole-clause-later
returns-in-Err-write_whole-clause-later g c =
    omega (arith, c.loop-line.invariant.still, c.in-Err-write_whole.ensures.cause.later)

pub returns-in-Ok-Unsettled-clause-streamed : goal.returns-in-Ok-Unsettled-clause-streamed
returns-in-Ok-Unsettled-clause-streamed g c =
    let now = g.S.Sink.taken c.loop-line.out in
    let next = g.S.Sink.taken c.deliver.new.out in
    unsettled c.args.design.now c.args.steps.now c.loop-line.run (g.S.Sink.taken c.args.out.now) now c.loop-line.invariant.going
    c.next.new.line.items c.deliver.result next
    (on_unsettled c.loop-line.run c.next.new.self c.next.new.line.items c.in-Ok-Unsettled.field-0 c.in-Ok-Unsettled.ensures.goes c.in-Ok-Unsettled.field-0-is) c.deliver.ensures.done
    (subst (λ (bytes : List ℕ). Delivers (record { status = 11; bytes = bytes }) c.deliver.result now next) c.deref-in-Ok-Unsettled.ensures.value c.deliver.ensures.delivers)

pub returns-in-Ok-Unsettled-clause-unwritten : goal.returns-in-Ok-Unsettled-clause-unwritten
returns-in-Ok-Unsettled-clause-unwritten g c =
    λ same. subst (λ (n : ℕ). Rose n (g.S.Sink.faults c.deliver.new.out)) c.loop-line.invariant.still (c.deliver.ensures.unwritten same)

pub returns-in-Ok-Unsettled-clause-failed : goal.returns-in-Ok-Unsettled-clause-failed
returns-in-Ok-Unsettled-clause-failed g c =
    λ rose. c.deliver.ensures.failed (omega (arith, c.loop-line.invariant.still, rose))

pub returns-in-Ok-Unsettled-clause-later : goal.returns-in-Ok-Unsettled-clause-later
returns-in-Ok-Unsettled-clause-later g c = omega (arith, c.loop-line.invariant.still, c.deliver.ensures.later)

pub returns-in-Ok-Ended-clause-streamed : goal.returns-in-Ok-Ended-clause-streamed
returns-in-Ok-Ended-clause-streamed g c =
    ended c.args.design.now c.args.steps.now c.loop-line.run (g.S.Sink.taken c.args.out.now) (g.S.Sink.taken c.loop-line.out) c.loop-line.invariant.going
    (on_ended c.loop-line.run c.next.new.self c.next.new.line.items c.in-Ok-Ended.field-0 c.in-Ok-Ended.ensures.goes c.in-Ok-Ended.field-0-is)

pub returns-in-Ok-Ended-clause-failed : goal.returns-in-Ok-Ended-clause-failed
returns-in-Ok-Ended-clause-failed g c = λ rose. absurd (omega (arith, c.loop-line.invariant.still, rose))

pub returns-in-Ok-Ended-clause-later : goal.returns-in-Ok-Ended-clause-later
returns-in-Ok-Ended-clause-later g c = omega (arith, c.loop-line.invariant.still)

pub returns-in-Err-next-clause-streamed : goal.returns-in-Err-next-clause-streamed
returns-in-Err-next-clause-streamed g c =
    cut c.args.design.now c.args.steps.now c.loop-line.run (g.S.Sink.taken c.args.out.now) (g.S.Sink.taken c.loop-line.out) c.loop-line.invariant.going

pub returns-in-Err-next-clause-failed : goal.returns-in-Err-next-clause-failed
returns-in-Err-next-clause-failed g c = λ rose. absurd (omega (arith, c.loop-line.invariant.still, rose))

pub returns-in-Err-next-clause-later : goal.returns-in-Err-next-clause-later
returns-in-Err-next-clause-later g c = omega (arith, c.loop-line.invariant.still)
