use Rattle.std.proofs.Common.{sym}
use Rattle.check_chains.proofs.Bodies.{choice_is, several_unheaded}
use Rattle.check_chains.proofs.choice.choice_of.Goals as goal

pub returns-in_err-test : goal.returns-in_err-test
returns-in_err-test c =
    rw (c.from_residual.ensures, ← c.opened.ensures)
    (λ d go events. several_unheaded d go events c.opened.result.now (λ h. c.in_err-test.ensures h))

pub returns-in-Some : goal.returns-in-Some
returns-in-Some c =
    choice_is _ c.opened.result.now (sym c.opened.ensures) c.in_ok-test.field-0.now c.in_ok-test.ensures c.in-If.test c.in-If.yes c.in-If.no c.in-If.spot c.in-If.is c.in-Some.other c.in-Some.is c.deref.result.now c.deref.ensures.value c.deref-in-Some.result.now c.deref-in-Some.ensures.value
