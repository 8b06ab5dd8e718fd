use Rattle.elab_laws.proofs.Widths.{signals_wide}
use Rattle.elab_laws.proofs.law.signals.Goals as goal

pub returns : goal.returns
returns c = signals_wide
