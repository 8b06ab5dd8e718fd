use Rattle.demo_laws.proofs.Replays.{one_replay}
use Rattle.demo_laws.proofs.law.one_replay.Goals as goal

pub returns : goal.returns
returns c = one_replay
