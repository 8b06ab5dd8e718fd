use Rattle.net_turn.proofs.Sourced.{sources}
use Rattle.net_turn.proofs.law.sources.Goals as goal

pub returns : goal.returns
returns c = λ design all formed clocked. sources design formed all clocked
