use Rattle.unknown_starts.proofs.Laws.{choices_alone}
use Rattle.unknown_starts.proofs.law.choices_alone.Goals as goal

pub returns : goal.returns
returns c = choices_alone
