use Rattle.std.proofs.Common.{◌≡◌, ◌++◌, map, drop}
use Rattle.rtl_tree.specs.TreeItem.{variable}
use Rattle.elab_renames.specs.Renames.{renamed_variable, renaming}
use Rattle.elab_renames.proofs.declarations.renamed_regs.Given as goal

abbrev pub invariant-loop-reg : goal.invariant-loop-reg
invariant-loop-reg l =
    map variable l.made.items ++ map (renamed_variable (renaming l.naming)) (map variable (drop l.reg-index l.regs))
    ≡ map (renamed_variable (renaming l.naming)) (map variable l.regs)
