use Rattle.std.proofs.Common.{◌≡◌, ◌++◌, map, drop}
use Rattle.rtl_tree.specs.TreeItem.{variable}
use Rattle.elab_walk.specs.Regions.{variable_initials}
use Rattle.elab_flat.proofs.regions.push_variables.Given as goal

abbrev pub invariant-loop-reg : goal.invariant-loop-reg
invariant-loop-reg l =
    l.made.items ++ variable_initials (map variable (drop l.reg-index l.regs)) ≡ l.initial.made.items ++ variable_initials (map variable l.regs)
