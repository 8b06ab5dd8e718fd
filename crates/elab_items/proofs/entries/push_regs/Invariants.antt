use Rattle.std.proofs.Common.{◌≡◌, ◌++◌, map, drop}
use Rattle.rtl_tree.specs.TreeItem.{variable}
use Rattle.elab_items.specs.Declarations.{declaration, declared_variable}
use Rattle.elab_items.proofs.entries.push_regs.Given as goal

abbrev pub invariant-loop-reg : goal.invariant-loop-reg
invariant-loop-reg l =
    map declaration l.entries.items ++ map (declared_variable l.signed) (map variable (drop l.reg-index l.regs))
    ≡ map declaration l.initial.entries.items ++ map (declared_variable l.signed) (map variable l.regs)
