use Rattle.std.specs.Prelude.{IfSome, Vec, Option}
use Rattle.std.specs.declared.alloc.Global.{Global}
use Rattle.std.proofs.Common.{length, subst}
use Rattle.std.proofs.lemmas.Result.{IfOk-weaker}
use Rattle.check_loops.specs.declared.groups.Group.{Group}
use Rattle.check_loops.specs.Rounds.{AreAgreed}
use Rattle.check_loops.proofs.Showing.{shown_some}
use Rattle.check_loops.proofs.certificate.certified.Goals as goal

pub returns-in-Some : goal.returns-in-Some
returns-in-Some c =
    let forth = c.args.forth.now in
    let back = c.args.back.now in
    let agreed : AreAgreed forth back (length forth) c.in-Some.groups.items
    = subst (λ (o : Option (Vec Group Global)). IfSome o (λ groups. AreAgreed forth back (length forth) groups.items)) c.in-Some.is c.in_ok-groups.ensures in
    IfOk-weaker c.answers.result _ _
    (λ all. shown_some c.args.rows.now c.args.turned.now c.requires.turned forth back c.requires.forth c.requires.back c.in-Some.groups.items c.deref.result.now c.deref.ensures.value agreed all)
    c.answers.ensures
