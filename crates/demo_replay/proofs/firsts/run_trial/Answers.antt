use Rattle.std.proofs.lemmas.Bool.{OnFalse_at}
use Rattle.demo_replay.proofs.Showing.{unwanted}
use Rattle.demo_replay.proofs.firsts.run_trial.Goals as goal

pub returns-then-not-is_wanted : goal.returns-then-not-is_wanted
returns-then-not-is_wanted c =
    unwanted c.args.setup.now c.args.clocked.now c.args.findings.now c.args.trial.number c.args.found.now (OnFalse_at c.if-not-is_wanted.true c.is_wanted.ensures) c.requires.below
