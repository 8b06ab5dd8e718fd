use Rattle.desk_command.proofs.Few.{are_few}
use Rattle.desk_command.proofs.law.few_unavailable.Goals as goal

pub returns : goal.returns
returns c = are_few
