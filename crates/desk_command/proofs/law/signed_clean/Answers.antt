use Rattle.desk_command.proofs.Headlines.{told_clean}
use Rattle.desk_command.proofs.law.signed_clean.Goals as goal

pub returns : goal.returns
returns c = told_clean
