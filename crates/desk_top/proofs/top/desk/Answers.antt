use Rattle.std.proofs.Common.{◌≡◌, Some, refl, subst}
use Rattle.desk_top.specs.declared.words.Command.{Command}
use Rattle.desk_top.specs.Commands.{order_of}
use Rattle.desk_top.specs.Words.{Sign, Simulate, Replay, Vcd, Generate, order, texts}
use Rattle.desk_top.proofs.Answering.{over_answered, never_unread, over_generated, over_performed, over_signed_clean, over_usage}
use Rattle.desk_top.proofs.Ordered.{within}
use Rattle.desk_top.proofs.top.desk.Goals as goal

pub sign-requires : goal.sign-requires
sign-requires g c =
    within (texts c.args.words.now) (Sign c.in-Some-Sign.top.now (texts c.in-Some-Sign.files.now))
    (subst (λ (command : Command). Some (order_of command) ≡ order (texts c.args.words.now)) c.in-Some-Sign.field-0-is c.in-Some-Sign.ensures)

pub simulate-requires : goal.simulate-requires
simulate-requires g c =
    within (texts c.args.words.now) (Simulate c.in-Some-Simulate.top.now c.in-Some-Simulate.steps.now (texts c.in-Some-Simulate.files.now))
    (subst (λ (command : Command). Some (order_of command) ≡ order (texts c.args.words.now)) c.in-Some-Simulate.field-0-is c.in-Some-Simulate.ensures)

pub returns-in-None-clause-answer : goal.returns-in-None-clause-answer
returns-in-None-clause-answer g c =
    over_usage (g.F.Shelf.files c.args.shelf.now) (texts c.args.words.now) _ c.deliver.result (g.S.Sink.taken c.args.out.now) (g.S.Sink.taken c.deliver.new.out)
    c.in-None.ensures refl c.deliver.ensures.done c.deliver.ensures.delivers

pub returns-in-Some-Sign-clause-answer : goal.returns-in-Some-Sign-clause-answer
returns-in-Some-Sign-clause-answer g c =
    over_answered (g.F.Shelf.files c.args.shelf.now) (texts c.args.words.now) (Sign c.in-Some-Sign.top.now (texts c.in-Some-Sign.files.now)) c.sign.result c.finish.result
    (g.S.Sink.taken c.args.out.now) (g.S.Sink.taken c.finish.new.out)
    (subst (λ (command : Command). Some (order_of command) ≡ order (texts c.args.words.now)) c.in-Some-Sign.field-0-is c.in-Some-Sign.ensures)
    c.sign.ensures.work c.finish.ensures.finishes

pub returns-in-Some-Sign-clause-headline : goal.returns-in-Some-Sign-clause-headline
returns-in-Some-Sign-clause-headline g c =
    over_signed_clean (g.F.Shelf.files c.args.shelf.now) (texts c.args.words.now) c.finish.result (g.S.Sink.taken c.args.out.now) (g.S.Sink.taken c.finish.new.out)
    (over_answered (g.F.Shelf.files c.args.shelf.now) (texts c.args.words.now) (Sign c.in-Some-Sign.top.now (texts c.in-Some-Sign.files.now)) c.sign.result c.finish.result
    (g.S.Sink.taken c.args.out.now) (g.S.Sink.taken c.finish.new.out)
    (subst (λ (command : Command). Some (order_of command) ≡ order (texts c.args.words.now)) c.in-Some-Sign.field-0-is c.in-Some-Sign.ensures)
    c.sign.ensures.work c.finish.ensures.finishes)

pub returns-in-Some-Simulate-clause-answer : goal.returns-in-Some-Simulate-clause-answer
returns-in-Some-Simulate-clause-answer g c =
    over_performed (g.F.Shelf.files c.args.shelf.now) (texts c.args.words.now) (Simulate c.in-Some-Simulate.top.now c.in-Some-Simulate.steps.now (texts c.in-Some-Simulate.files.now)) c.simulate.result c.perform.result
    (g.S.Sink.taken c.args.out.now) (g.S.Sink.taken c.perform.new.out)
    (subst (λ (command : Command). Some (order_of command) ≡ order (texts c.args.words.now)) c.in-Some-Simulate.field-0-is c.in-Some-Simulate.ensures)
    refl c.simulate.ensures.plan c.perform.ensures.performs

pub replay-requires : goal.replay-requires
replay-requires g c =
    within (texts c.args.words.now) (Replay c.in-Some-Replay.top.now c.in-Some-Replay.demo.now (texts c.in-Some-Replay.files.now))
    (subst (λ (command : Command). Some (order_of command) ≡ order (texts c.args.words.now)) c.in-Some-Replay.field-0-is c.in-Some-Replay.ensures)

pub returns-in-Some-Replay-clause-answer : goal.returns-in-Some-Replay-clause-answer
returns-in-Some-Replay-clause-answer g c =
    over_answered (g.F.Shelf.files c.args.shelf.now) (texts c.args.words.now) (Replay c.in-Some-Replay.top.now c.in-Some-Replay.demo.now (texts c.in-Some-Replay.files.now)) c.replay.result c.finish-in-Some-Replay.result
    (g.S.Sink.taken c.args.out.now) (g.S.Sink.taken c.finish-in-Some-Replay.new.out)
    (subst (λ (command : Command). Some (order_of command) ≡ order (texts c.args.words.now)) c.in-Some-Replay.field-0-is c.in-Some-Replay.ensures)
    c.replay.ensures.work c.finish-in-Some-Replay.ensures.finishes

pub vcd-requires : goal.vcd-requires
vcd-requires g c =
    within (texts c.args.words.now) (Vcd c.in-Some-Vcd.top.now c.in-Some-Vcd.scope.now c.in-Some-Vcd.dump.now (texts c.in-Some-Vcd.files.now))
    (subst (λ (command : Command). Some (order_of command) ≡ order (texts c.args.words.now)) c.in-Some-Vcd.field-0-is c.in-Some-Vcd.ensures)

pub returns-in-Some-Vcd-clause-answer : goal.returns-in-Some-Vcd-clause-answer
returns-in-Some-Vcd-clause-answer g c =
    over_answered (g.F.Shelf.files c.args.shelf.now) (texts c.args.words.now) (Vcd c.in-Some-Vcd.top.now c.in-Some-Vcd.scope.now c.in-Some-Vcd.dump.now (texts c.in-Some-Vcd.files.now)) c.vcd.result c.finish-in-Some-Vcd.result
    (g.S.Sink.taken c.args.out.now) (g.S.Sink.taken c.finish-in-Some-Vcd.new.out)
    (subst (λ (command : Command). Some (order_of command) ≡ order (texts c.args.words.now)) c.in-Some-Vcd.field-0-is c.in-Some-Vcd.ensures)
    c.vcd.ensures.work c.finish-in-Some-Vcd.ensures.finishes

pub generate-requires : goal.generate-requires
generate-requires g c =
    within (texts c.args.words.now) (Generate c.in-Some-Generate.stages)
    (subst (λ (command : Command). Some (order_of command) ≡ order (texts c.args.words.now)) c.in-Some-Generate.field-0-is c.in-Some-Generate.ensures)

pub returns-in-Some-Generate-clause-answer : goal.returns-in-Some-Generate-clause-answer
returns-in-Some-Generate-clause-answer g c =
    over_answered (g.F.Shelf.files c.args.shelf.now) (texts c.args.words.now) (Generate c.in-Some-Generate.stages) c.generate.result c.finish-in-Some-Generate.result
    (g.S.Sink.taken c.args.out.now) (g.S.Sink.taken c.finish-in-Some-Generate.new.out)
    (subst (λ (command : Command). Some (order_of command) ≡ order (texts c.args.words.now)) c.in-Some-Generate.field-0-is c.in-Some-Generate.ensures)
    (over_generated (g.F.Shelf.files c.args.shelf.now) c.in-Some-Generate.stages c.generate.result c.generate.ensures.work) c.finish-in-Some-Generate.ensures.finishes

pub returns-in-Some-Generate-clause-unread : goal.returns-in-Some-Generate-clause-unread
returns-in-Some-Generate-clause-unread g c =
    λ unread. absurd (never_unread c.generate.result c.finish-in-Some-Generate.result (g.S.Sink.taken c.args.out.now) (g.S.Sink.taken c.finish-in-Some-Generate.new.out) c.generate.ensures.read c.finish-in-Some-Generate.ensures.finishes unread)
