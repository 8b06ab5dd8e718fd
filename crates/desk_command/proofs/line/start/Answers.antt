use Rattle.std.proofs.Common.{◌≡◌, ◌∙◌, ◌<◌, ℕ, List, None, Some, String, drop, subst, true}
use Rattle.std.specs.Prelude.{IsSome}
use Rattle.std.specs.Vec.Iter.{into_iter_items}
use Rattle.std.specs.declared.alloc.Global.{Global}
use Rattle.desk_server.specs.Exchanges.{around}
use Rattle.desk_command.specs.Statuses.{DONE, NO_DAY, UNKEPT, UNREAD}
use Rattle.desk_top.specs.Answers.{IsSignedClean, OverWorld}
use Rattle.desk_top.specs.Words.{is_sign, order as source_order, texts}
use Rattle.desk_command.specs.Commands.{IsCommanded, taken_between}
use Rattle.desk_command.specs.Words.{Report, order}
use Rattle.desk_command.proofs.Commanded.{commanded, gave_up_unread}
use Rattle.desk_command.proofs.line.start.Goals as goal

pub returns-in-Ok-words_of-clause-headline : goal.returns-in-Ok-words_of-clause-headline
returns-in-Ok-words_of-clause-headline g c =
    let P : List (String Global) → Type 0 = λ words. is_sign (source_order (texts words)) ≡ true → c.desk.result ≡ DONE → OverWorld (g.F.Shelf.files c.args.shelf.now) (IsSignedClean (texts words) (g.S.Sink.taken c.args.out.now) (g.S.Sink.taken c.desk.new.out)) in
    let same : c.deref.result.now ≡ drop 1 (into_iter_items c.in-Ok.all) = c.deref.ensures.value ∙ c.in-Ok-words_of.ensures in
    let told : P (drop 1 (into_iter_items c.in-Ok.all)) = subst P same c.desk.ensures.headline in
    rw c.in-Ok.is told

pub returns-in-Ok-words_of-clause-commands : goal.returns-in-Ok-words_of-clause-commands
returns-in-Ok-words_of-clause-commands g c =
    let P : List (String Global) → Type 0 =
    λ words. IsCommanded (order (texts words)) (g.K.Keeper.tables c.args.keeper.now) (g.K.Keeper.tables c.desk.new.keeper)
    (g.D.Door.visits c.args.door.now) (g.D.Door.visits c.desk.new.door) (g.D.Door.faults c.args.door.now) (g.D.Door.faults c.desk.new.door)
    (around (g.C.Clock.days c.args.clock.now) (g.C.Clock.faults c.args.clock.now) (g.K.Keeper.count c.args.keeper.now))
    (around (g.C.Clock.days c.desk.new.clock) (g.C.Clock.faults c.desk.new.clock) (g.K.Keeper.count c.desk.new.keeper))
    c.desk.result (taken_between (g.S.Sink.taken c.args.out.now) (g.S.Sink.taken c.desk.new.out)) in
    let same : c.deref.result.now ≡ drop 1 (into_iter_items c.in-Ok.all) = c.deref.ensures.value ∙ c.in-Ok-words_of.ensures in
    let done : P c.deref.result.now = commanded (order (texts c.deref.result.now))
    (g.K.Keeper.tables c.args.keeper.now) (g.K.Keeper.tables c.desk.new.keeper)
    (g.D.Door.visits c.args.door.now) (g.D.Door.visits c.desk.new.door) (g.D.Door.faults c.args.door.now) (g.D.Door.faults c.desk.new.door)
    (around (g.C.Clock.days c.args.clock.now) (g.C.Clock.faults c.args.clock.now) (g.K.Keeper.count c.args.keeper.now))
    (around (g.C.Clock.days c.desk.new.clock) (g.C.Clock.faults c.desk.new.clock) (g.K.Keeper.count c.desk.new.keeper))
    c.desk.result (taken_between (g.S.Sink.taken c.args.out.now) (g.S.Sink.taken c.desk.new.out))
    c.desk.ensures.report c.desk.ensures.no_visits c.desk.ensures.no_door c.desk.ensures.served
    (λ none. (c.desk.ensures.still none, c.desk.ensures.unvisited none, c.desk.ensures.unopened none, c.desk.ensures.unasked none)) in
    let told : P (drop 1 (into_iter_items c.in-Ok.all)) = subst P same done in
    rw c.in-Ok.is told

pub returns-in-Ok-words_of-clause-a_command : goal.returns-in-Ok-words_of-clause-a_command
returns-in-Ok-words_of-clause-a_command g c =
    let P : List (String Global) → Type 0 = λ words. order (texts words) ≡ None → c.desk.result ≡ UNREAD → IsSome (source_order (texts words)) in
    let same : c.deref.result.now ≡ drop 1 (into_iter_items c.in-Ok.all) = c.deref.ensures.value ∙ c.in-Ok-words_of.ensures in
    let told : P (drop 1 (into_iter_items c.in-Ok.all)) = subst P same (λ none is. c.desk.ensures.a_command none (gave_up_unread c.desk.result is)) in
    rw c.in-Ok.is told

pub returns-in-Ok-words_of-clause-load_failed : goal.returns-in-Ok-words_of-clause-load_failed
returns-in-Ok-words_of-clause-load_failed g c =
    let P : List (String Global) → Type 0 = λ words. (top : List ℕ) → order (texts words) ≡ Some (Report top) → g.K.Keeper.count c.args.keeper.now < g.K.Keeper.count c.desk.new.keeper → c.desk.result ≡ UNKEPT in
    let same : c.deref.result.now ≡ drop 1 (into_iter_items c.in-Ok.all) = c.deref.ensures.value ∙ c.in-Ok-words_of.ensures in
    let told : P (drop 1 (into_iter_items c.in-Ok.all)) = subst P same c.desk.ensures.load_failed in
    rw c.in-Ok.is told

pub returns-in-Ok-words_of-clause-day_failed : goal.returns-in-Ok-words_of-clause-day_failed
returns-in-Ok-words_of-clause-day_failed g c =
    let P : List (String Global) → Type 0 = λ words. (top : List ℕ) → order (texts words) ≡ Some (Report top) → g.C.Clock.faults c.args.clock.now < g.C.Clock.faults c.desk.new.clock → c.desk.result ≡ NO_DAY in
    let same : c.deref.result.now ≡ drop 1 (into_iter_items c.in-Ok.all) = c.deref.ensures.value ∙ c.in-Ok-words_of.ensures in
    let told : P (drop 1 (into_iter_items c.in-Ok.all)) = subst P same c.desk.ensures.day_failed in
    rw c.in-Ok.is told
