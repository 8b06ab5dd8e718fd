use Rattle.std.proofs.Common.{set}
use Rattle.net_body.proofs.Ending.{clear_with}
use Rattle.net_body.proofs.Seen.{kept_number}
use Rattle.net_body.proofs.maps.Maps.set.Goals as goal

pub returns-clause-ready : goal.returns-clause-ready
returns-clause-ready c =
    let m = c.args.self.now in
    let ready = c.requires.ready in
    let numbers = set m.numbers.items c.args.signal.0 c.args.number in
    record {
      kept = kept_number m.design.now.signals.items m.numbers.items m.marks.items c.args.signal.0 c.args.number ready.kept c.requires.there c.requires.width;
      clear = clear_with m.numbers.items numbers m.marks.items ready.clear;
      entries = ready.entries;
    }
