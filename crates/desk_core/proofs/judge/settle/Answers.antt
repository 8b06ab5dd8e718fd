use Rattle.std.proofs.Common.{◌≡◌, refl, subst, sym}
use Rattle.desk_requests.specs.Replies.{said}
use Rattle.desk_records.specs.Machine.{request_outcome}
use Rattle.desk_records.specs.Outcomes.{outcome}
use Rattle.desk_records.specs.declared.decision.Decision.{Decision}
use Rattle.desk_core.specs.Outcomes.{top_of}
use Rattle.desk_core.proofs.Known.{done_known, told_known}
use Rattle.desk_core.proofs.Reached.{judged_outcomes}
use Rattle.desk_core.proofs.Same.{others_same}
use Rattle.desk_core.proofs.judge.settle.Goals as goal

pub returns-in-Ok-Tells-clause-known : goal.returns-in-Ok-Tells-clause-known
returns-in-Ok-Tells-clause-known c =
    told_known c.args.request.now c.args.today c.args.records.now (said c.in-Ok-Tells.reply) c.args.db.now
    (subst (λ (made : Decision). outcome made ≡ request_outcome c.args.request.now c.args.today c.args.records.now) c.in-Ok-Tells.field-0-is c.in-Ok-Tells.ensures)

pub returns-in-Ok-Makes-clause-known : goal.returns-in-Ok-Makes-clause-known
returns-in-Ok-Makes-clause-known c =
    done_known c.args.request.now c.args.today c.args.records.now c.in-Ok-Makes.change c.args.db.now
    (subst (λ (made : Decision). outcome made ≡ request_outcome c.args.request.now c.args.today c.args.records.now) c.in-Ok-Makes.field-0-is c.in-Ok-Makes.ensures)

pub returns-in-Ok-Tells-clause-others : goal.returns-in-Ok-Tells-clause-others
returns-in-Ok-Tells-clause-others c = others_same (top_of c.args.request.now.ask) c.args.db.now c.args.db.now refl refl

pub returns-in-Ok-Makes-clause-others : goal.returns-in-Ok-Makes-clause-others
returns-in-Ok-Makes-clause-others c = others_same (top_of c.args.request.now.ask) c.args.db.now c.args.db.now refl refl

pub returns-in-Err-clause-others : goal.returns-in-Err-clause-others
returns-in-Err-clause-others c = others_same (top_of c.args.request.now.ask) c.args.db.now c.args.db.now refl refl

pub returns-in-Ok-Open-clause-is : goal.returns-in-Ok-Open-clause-is
returns-in-Ok-Open-clause-is c =
    judged_outcomes c.args.request.now c.args.today c.args.records.now c.judge.result
    (sym (subst (λ (made : Decision). outcome made ≡ request_outcome c.args.request.now c.args.today c.args.records.now) c.in-Ok-Open.field-0-is c.in-Ok-Open.ensures))
    c.requires.ruled c.judge.ensures.is
