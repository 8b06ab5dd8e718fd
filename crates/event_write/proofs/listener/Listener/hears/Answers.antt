use Rattle.std.proofs.Common.{rules, ◌<◌, ◌^◌}
use Rattle.event_write.proofs.Heard.{heard}
use Rattle.event_write.proofs.listener.Listener.hears.Goals as goal

pub returns : goal.returns
returns c = λ old new same are.
    let fits : c.args.self.now.mask < 2 ^ 128 = search rules in
    heard c.args.self.now c.args.changes c.places.result old new c.places.ensures fits same are
