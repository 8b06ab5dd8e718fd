use Rattle.unknown_laws.proofs.Told.{free_tells_none}
use Rattle.unknown_laws.proofs.law.free_tells_none.Goals as goal

pub returns : goal.returns
returns c = free_tells_none
