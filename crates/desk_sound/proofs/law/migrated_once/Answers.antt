use Rattle.desk_sound.proofs.Migrated.{current_stays}
use Rattle.desk_sound.proofs.law.migrated_once.Goals as goal

pub returns : goal.returns
returns c = λ kept ready. current_stays kept ready.version
