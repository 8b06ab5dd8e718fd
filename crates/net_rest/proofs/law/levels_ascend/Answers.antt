use Rattle.net_rest.proofs.Laws.{levels_ascend}
use Rattle.net_rest.proofs.law.levels_ascend.Goals as goal

pub returns : goal.returns
returns c = levels_ascend
