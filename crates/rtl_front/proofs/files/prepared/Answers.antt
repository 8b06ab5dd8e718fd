use Rattle.rtl_front.proofs.Once.{prepared_once}
use Rattle.rtl_front.proofs.files.prepared.Goals as goal

pub returns-in-Ok-prepare-clause-only : goal.returns-in-Ok-prepare-clause-only
returns-in-Ok-prepare-clause-only c =
    λ other prepares. prepared_once c.args.text.now c.in-Ok.tokens c.in-Ok-prepare.made.prepared other c.in-Ok.ensures.only c.in-Ok-prepare.ensures.prepared prepares
