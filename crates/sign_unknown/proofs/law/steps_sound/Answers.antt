use Rattle.sign_unknown.proofs.Laws.{steps_sound}
use Rattle.sign_unknown.proofs.law.steps_sound.Goals as goal

pub returns : goal.returns
returns c = steps_sound
