use Rattle.sign_cycles.proofs.RoundLaws.{brings_up}
use Rattle.sign_cycles.proofs.round_law.brings_up.Goals as goal

pub returns : goal.returns
returns c = brings_up
