use Rattle.desk_rulings.proofs.Keys.{named_key}
use Rattle.desk_rulings.proofs.law.named_key.Goals as goal

pub returns : goal.returns
returns c = named_key
