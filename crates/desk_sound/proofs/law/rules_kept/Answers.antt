use Rattle.desk_sound.proofs.RulesKept.{rules_kept}
use Rattle.desk_sound.proofs.law.rules_kept.Goals as goal

pub returns : goal.returns
returns c = rules_kept
