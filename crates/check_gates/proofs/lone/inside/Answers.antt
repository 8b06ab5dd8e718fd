use Rattle.check_chains.proofs.Bodies.{block_opened, several_closed}
use Rattle.check_gates.proofs.lone.inside.Goals as goal

pub returns-in_err-inner : goal.returns-in_err-inner
returns-in_err-inner c =
    rw c.from_residual.ensures (several_closed c.args.body.now (λ h. c.in_err-inner.ensures h))

pub returns-in-Block : goal.returns-in-Block
returns-in-Block c =
    block_opened c.args.body.now c.in_ok-inner.field-0.now c.in_ok-inner.ensures c.in-Block.inner c.deref.result.now c.in-Block.is c.deref.ensures.value
