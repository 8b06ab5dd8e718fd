use Rattle.net_turn.proofs.Sourced.{can_run}
use Rattle.net_turn.proofs.law.can_run.Goals as goal

pub returns : goal.returns
returns c = λ design all formed clocked. can_run design formed all clocked
