use Rattle.check_loops.specs.declared.groups.Search.{Search}
use Rattle.check_loops.proofs.Grouping.{leads_itself, sound_none, sound_take}
use Rattle.check_loops.proofs.groups.Search.begin.Goals as goal

pub run-requires : goal.run-requires
run-requires c =
    let rows = c.args.rows.now in
    let root = c.args.group.root in
    let cleared : Search = record { groups = c.args.self.now.groups; «open» = c.clear.new.self } in
    sound_take rows root c.args.group cleared c.take.new.self c.in_ok-take.ensures
    (sound_none rows root cleared c.requires c.clear.ensures.items) (leads_itself rows root)
