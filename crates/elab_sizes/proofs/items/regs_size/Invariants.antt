use Rattle.std.proofs.Common.{◌≡◌, ◌≤◌, ◌+◌, ◌-◌, ◌^◌, map, min, drop}
use Rattle.elab_sizes.specs.Sizes.{variable_size, sizes}
use Rattle.rtl_tree.specs.TreeItem.{variable}
use Rattle.elab_sizes.proofs.items.regs_size.Given as goal

abbrev pub invariant-loop-reg : goal.invariant-loop-reg
invariant-loop-reg l =
    (min (l.sum + sizes variable_size (map variable (drop l.reg-index l.all))) (2 ^ 32 - 1) ≡ min (sizes variable_size (map variable l.all)) (2 ^ 32 - 1))
    × (l.sum ≤ 2 ^ 32 - 1)
