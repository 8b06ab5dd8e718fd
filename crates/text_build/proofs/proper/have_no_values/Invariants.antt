use Rattle.std.proofs.Common.{◌≡◌, map, drop}
use Rattle.std.specs.List.{list_all}
use Rattle.rtl_tree.specs.TreeItem.{variable}
use Rattle.text_build.specs.Tests.{has_no_value}
use Rattle.text_build.proofs.proper.have_no_values.Given as goal

abbrev pub invariant-loop-reg : goal.invariant-loop-reg
invariant-loop-reg l =
    list_all has_no_value (map variable (drop l.reg-index l.regs)) ≡ list_all has_no_value (map variable l.regs)
