use Rattle.sign_unknown.proofs.Laws.{sound_where_rest}
use Rattle.sign_unknown.proofs.law.sound_where_rest.Goals as goal

pub returns : goal.returns
returns c = sound_where_rest
