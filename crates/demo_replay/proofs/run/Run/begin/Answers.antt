use Rattle.rtl_flat.specs.Flats.{flat}
use Rattle.event_queue.specs.Starts.{start_of}
use Rattle.demo_replay.proofs.Going.{begun}
use Rattle.demo_replay.proofs.run.Run.begin.Goals as goal

pub returns-clause-at : goal.returns-clause-at
returns-clause-at c =
    let kept = c.args.setup.now in
    begun kept c.args.trial.number (start_of (flat kept.design.now) c.in_ok-start.start) c.in_ok-sim.sim c.in_ok-net.net c.requires c.in_ok-net.ensures c.in_ok-start.ensures.first c.in_ok-sim.ensures
