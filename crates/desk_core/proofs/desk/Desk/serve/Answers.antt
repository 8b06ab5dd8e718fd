use Rattle.std.proofs.Common.{◌∙◌, ap, inl, inr, refl, subst}
use Rattle.desk_requests.specs.Replies.{said}
use Rattle.desk_records.specs.Outcomes.{Told, outcome}
use Rattle.desk_records.specs.declared.decision.Decision.{Decision}
use Rattle.desk_core.specs.Machine.{KeepsAnswers, KeepsOthers, Machine}
use Rattle.desk_core.specs.Outcomes.{IsOutcome, top_of}
use Rattle.desk_core.specs.Reaches.{IsReachOf, OnlyLooks, reach_asked}
use Rattle.desk_core.proofs.Headlines.{headline}
use Rattle.desk_core.proofs.Known.{made_known, never_ruled}
use Rattle.desk_core.proofs.Made.{made_status, serves_made, serves_none, serves_told}
use Rattle.desk_core.proofs.Reached.{made_looks, made_says}
use Rattle.desk_core.proofs.Same.{keeps_then, others_then}
use Rattle.desk_core.proofs.Settled.{never_open, sound_change, told_status}
use Rattle.desk_core.proofs.desk.Desk.serve.Goals as goal

pub make-requires-clause-short : goal.make-requires-clause-short
make-requires-clause-short g c =
    let is = subst (λ (made : Decision). IsOutcome c.args.request.now c.args.today c.self.inside.records (outcome made)) c.in-Ok-Makes.field-0-is c.in-Ok-Makes.ensures.is in
    (sound_change c.args.request.now c.args.today c.self.inside.records c.in-Ok-Makes.change c.self.invariant.accepted c.requires.short is).short

pub make-requires-clause-accepted : goal.make-requires-clause-accepted
make-requires-clause-accepted g c =
    let is = subst (λ (made : Decision). IsOutcome c.args.request.now c.args.today c.self.inside.records (outcome made)) c.in-Ok-Makes.field-0-is c.in-Ok-Makes.ensures.is in
    (sound_change c.args.request.now c.args.today c.self.inside.records c.in-Ok-Makes.change c.self.invariant.accepted c.requires.short is).accepted

pub unreachable-requires : goal.unreachable-requires
unreachable-requires g c =
    let is = subst (λ (made : Decision). IsOutcome c.args.request.now c.args.today c.self.inside.records (outcome made)) c.in-Ok-Open.field-0-is c.in-Ok-Open.ensures.is in
    never_open c.args.request.now c.args.today c.self.inside.records c.self.invariant.accepted c.requires.short is

pub returns-in-Ok-Tells-clause-status : goal.returns-in-Ok-Tells-clause-status
returns-in-Ok-Tells-clause-status g c =
    let is = subst (λ (made : Decision). IsOutcome c.args.request.now c.args.today c.self.inside.records (outcome made)) c.in-Ok-Tells.field-0-is c.in-Ok-Tells.ensures.is in
    told_status c.args.request.now c.args.today c.self.inside.records (said c.in-Ok-Tells.reply) c.self.invariant.accepted c.requires.short is

pub returns-in-Ok-Makes-clause-status : goal.returns-in-Ok-Makes-clause-status
returns-in-Ok-Makes-clause-status g c =
    let is = subst (λ (made : Decision). IsOutcome c.args.request.now c.args.today c.self.inside.records (outcome made)) c.in-Ok-Makes.field-0-is c.in-Ok-Makes.ensures.is in
    made_status c.in-Ok-Makes.change (g.K.Keeper.count c.args.keeper.now) (g.K.Keeper.count c.make.new.keeper) c.self.inside.records c.make.new.self.kept (said c.make.result)
    (sound_change c.args.request.now c.args.today c.self.inside.records c.in-Ok-Makes.change c.self.invariant.accepted c.requires.short is).accepted c.make.ensures.made

pub returns-in-Ok-Tells-clause-served : goal.returns-in-Ok-Tells-clause-served
returns-in-Ok-Tells-clause-served g c =
    let count = g.K.Keeper.count c.args.keeper.now in
    let is = subst (λ (made : Decision). IsOutcome c.args.request.now c.args.today c.self.inside.records (outcome made)) c.in-Ok-Tells.field-0-is c.in-Ok-Tells.ensures.is in
    serves_told c.args.request.now c.args.today count count c.args.self.now.kept c.self.inside.records (said c.in-Ok-Tells.reply)
    (ap (λ (machine : Machine). machine.kept) c.self.view_is) is refl

pub returns-in-Ok-Makes-clause-served : goal.returns-in-Ok-Makes-clause-served
returns-in-Ok-Makes-clause-served g c =
    let is = subst (λ (made : Decision). IsOutcome c.args.request.now c.args.today c.self.inside.records (outcome made)) c.in-Ok-Makes.field-0-is c.in-Ok-Makes.ensures.is in
    serves_made c.args.request.now c.args.today c.in-Ok-Makes.change (g.K.Keeper.count c.args.keeper.now) (g.K.Keeper.count c.make.new.keeper) c.args.self.now.kept c.self.inside.records c.make.new.self.kept (said c.make.result)
    (ap (λ (machine : Machine). machine.kept) c.self.view_is) is c.make.ensures.made

pub returns-in-Ok-Makes-clause-headline : goal.returns-in-Ok-Makes-clause-headline
returns-in-Ok-Makes-clause-headline g c =
    λ top new says. headline c.args.request.now c.args.today (g.K.Keeper.count c.args.keeper.now) (g.K.Keeper.count c.make.new.keeper) c.args.self.now.kept top c.make.new.self.kept (said c.make.result)
    (returns-in-Ok-Makes-clause-served g c) new says

pub returns-in-Err-clause-served : goal.returns-in-Err-clause-served
returns-in-Err-clause-served g c =
    let count = g.K.Keeper.count c.args.keeper.now in
    serves_none c.args.request.now c.args.today count count c.args.self.now.kept c.self.inside.records (said c.no_memory.result)
    (ap (λ (machine : Machine). machine.kept) c.self.view_is) c.no_memory.ensures refl

pub returns-in-Ok-Tells-clause-lasting : goal.returns-in-Ok-Tells-clause-lasting
returns-in-Ok-Tells-clause-lasting g c =
    λ leaves. subst (λ (machine : Machine). KeepsAnswers machine.store c.decide.new.db) c.self.view_is c.decide.ensures.lasting

pub returns-in-Ok-Makes-clause-lasting : goal.returns-in-Ok-Makes-clause-lasting
returns-in-Ok-Makes-clause-lasting g c =
    let keeps = subst (λ (machine : Machine). KeepsAnswers machine.store c.decide.new.db) c.self.view_is c.decide.ensures.lasting in
    λ leaves. keeps_then c.args.self.now.store c.decide.new.db c.make.new.self.store keeps (c.make.ensures.left leaves)

pub returns-in-Err-clause-lasting : goal.returns-in-Err-clause-lasting
returns-in-Err-clause-lasting g c =
    λ leaves. subst (λ (machine : Machine). KeepsAnswers machine.store c.decide.new.db) c.self.view_is c.decide.ensures.lasting

pub returns-in-Ok-Makes-clause-left : goal.returns-in-Ok-Makes-clause-left
returns-in-Ok-Makes-clause-left g c =
    λ leaves. (c.make.ensures.left leaves).files ∙ c.decide.ensures.files ∙ ap (λ (machine : Machine). machine.store.files) c.self.view_is

-- ---- what is kept of modules

pub returns-in-Ok-Tells-clause-others : goal.returns-in-Ok-Tells-clause-others
returns-in-Ok-Tells-clause-others g c =
    subst (λ (machine : Machine). KeepsOthers (top_of c.args.request.now.ask) machine.store c.decide.new.db) c.self.view_is c.decide.ensures.others

pub returns-in-Ok-Makes-clause-others : goal.returns-in-Ok-Makes-clause-others
returns-in-Ok-Makes-clause-others g c =
    let first = subst (λ (machine : Machine). KeepsOthers (top_of c.args.request.now.ask) machine.store c.decide.new.db) c.self.view_is c.decide.ensures.others in
    others_then (top_of c.args.request.now.ask) c.args.self.now.store c.decide.new.db c.make.new.self.store first c.make.ensures.rulings c.make.ensures.absent

pub returns-in-Err-clause-others : goal.returns-in-Err-clause-others
returns-in-Err-clause-others g c =
    subst (λ (machine : Machine). KeepsOthers (top_of c.args.request.now.ask) machine.store c.decide.new.db) c.self.view_is c.decide.ensures.others

pub returns-in-Ok-Tells-clause-known : goal.returns-in-Ok-Tells-clause-known
returns-in-Ok-Tells-clause-known g c = λ status. c.in-Ok-Tells.ensures.known

pub returns-in-Ok-Makes-clause-known : goal.returns-in-Ok-Makes-clause-known
returns-in-Ok-Makes-clause-known g c =
    let is = subst (λ (made : Decision). IsOutcome c.args.request.now c.args.today c.self.inside.records (outcome made)) c.in-Ok-Makes.field-0-is c.in-Ok-Makes.ensures.is in
    λ status. made_known c.args.request.now c.args.today c.self.inside.records c.in-Ok-Makes.change c.args.request.now.ask c.make.new.self.store refl is

pub returns-in-Err-clause-known : goal.returns-in-Err-clause-known
returns-in-Err-clause-known g c =
    λ status. absurd (never_ruled (said c.no_memory.result) c.no_memory.ensures status)

-- ---- a module's reach

pub returns-in-Ok-Tells-clause-reach : goal.returns-in-Ok-Tells-clause-reach
returns-in-Ok-Tells-clause-reach g c =
    let asked = reach_asked c.args.request.now.ask in
    let is = subst (λ (made : Decision). IsReachOf asked c.self.inside.records c.self.inside.db (outcome made)) c.in-Ok-Tells.field-0-is c.in-Ok-Tells.ensures.reach in
    inl (subst (λ (machine : Machine). IsReachOf asked machine.kept machine.store (Told (said c.in-Ok-Tells.reply))) c.self.view_is is)

pub returns-in-Ok-Makes-clause-reach : goal.returns-in-Ok-Makes-clause-reach
returns-in-Ok-Makes-clause-reach g c =
    let asked = reach_asked c.args.request.now.ask in
    made_says asked c.self.inside.records c.args.self.now.kept c.self.inside.db c.args.self.now.store c.in-Ok-Makes.change (said c.make.result)
    (subst (λ (made : Decision). IsReachOf asked c.self.inside.records c.self.inside.db (outcome made)) c.in-Ok-Makes.field-0-is c.in-Ok-Makes.ensures.reach)

pub returns-in-Err-clause-reach : goal.returns-in-Err-clause-reach
returns-in-Err-clause-reach g c = inr c.no_memory.ensures

pub returns-in-Ok-Tells-clause-looks : goal.returns-in-Ok-Tells-clause-looks
returns-in-Ok-Tells-clause-looks g c =
    subst (λ (machine : Machine). OnlyLooks (reach_asked c.args.request.now.ask) machine.store c.decide.new.db) c.self.view_is c.decide.ensures.looks

pub returns-in-Ok-Makes-clause-looks : goal.returns-in-Ok-Makes-clause-looks
returns-in-Ok-Makes-clause-looks g c =
    let asked = reach_asked c.args.request.now.ask in
    made_looks asked c.self.inside.records c.self.inside.db c.args.self.now.store c.make.new.self.store c.in-Ok-Makes.change
    (subst (λ (made : Decision). IsReachOf asked c.self.inside.records c.self.inside.db (outcome made)) c.in-Ok-Makes.field-0-is c.in-Ok-Makes.ensures.reach)

pub returns-in-Err-clause-looks : goal.returns-in-Err-clause-looks
returns-in-Err-clause-looks g c =
    subst (λ (machine : Machine). OnlyLooks (reach_asked c.args.request.now.ask) machine.store c.decide.new.db) c.self.view_is c.decide.ensures.looks
