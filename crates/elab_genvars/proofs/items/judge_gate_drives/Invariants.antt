use Rattle.std.proofs.Common.{◌≡◌, map, drop}
use Rattle.std.specs.List.{flat_map}
use Rattle.std.specs.Option.{option_map}
use Rattle.rtl_tree.specs.TreeItem.{gate_drive}
use Rattle.elab_scope.specs.Faults.{after}
use Rattle.elab_genvars.specs.Genvars.{told_of, gate_drive_genvars}
use Rattle.elab_genvars.proofs.items.judge_gate_drives.Given as goal

abbrev pub invariant-loop-drive : goal.invariant-loop-drive
invariant-loop-drive g l =
    let uses = gate_drive_genvars (g.S.Sorts.sorts l.names) in
    after (option_map told_of l.best) (flat_map uses (map gate_drive (drop l.drive-index l.all)))
    ≡ after (option_map told_of l.initial.best) (flat_map uses (map gate_drive l.all))
