use Rattle.std.proofs.Common.{◌≡◌, ◌-◌, ◌^◌, map, max, min, drop}
use Rattle.text_grammar.specs.Depth.{gate_drive_depth, greatest}
use Rattle.rtl_tree.specs.TreeItem.{gate_drive}
use Rattle.text_grammar.proofs.nesting.items.gate_drives_depth.Given as goal

abbrev pub invariant-loop-drive : goal.invariant-loop-drive
invariant-loop-drive l =
    max l.most (min (greatest gate_drive_depth (map gate_drive (drop l.drive-index l.all))) (2 ^ 32 - 1))
    ≡ min (greatest gate_drive_depth (map gate_drive l.all)) (2 ^ 32 - 1)
