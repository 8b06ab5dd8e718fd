use Rattle.desk_core.proofs.Rules.{serves_keeps}
use Rattle.desk_core.proofs.law.serving_keeps_rules.Goals as goal

pub returns : goal.returns
returns c = serves_keeps
