use Rattle.desk_sound.proofs.Migrated.{ready_current}
use Rattle.desk_sound.proofs.law.migration_keeps_rules.Goals as goal

pub returns : goal.returns
returns c = ready_current
