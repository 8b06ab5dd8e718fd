use Rattle.check_loops.proofs.Grouping.{leads_pop, sound_pop}
use Rattle.check_loops.proofs.groups.Search.run.Goals as goal

pub follow-requires-clause-sound : goal.follow-requires-clause-sound
follow-requires-clause-sound c =
    sound_pop c.args.rows.now c.args.group.root c.loop.self c.pop.new.self c.in-Some.node c.loop.invariant c.in-Some.ensures.items

pub follow-requires-clause-leads : goal.follow-requires-clause-leads
follow-requires-clause-leads c =
    leads_pop c.args.rows.now c.args.group.root c.loop.self c.pop.new.self c.in-Some.node c.loop.invariant c.in-Some.ensures.items
