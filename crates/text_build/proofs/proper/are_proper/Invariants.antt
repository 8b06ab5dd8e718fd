use Rattle.std.proofs.Common.{◌≡◌, map, drop}
use Rattle.std.specs.List.{list_all}
use Rattle.rtl_tree.specs.TreeModule.{written_circuit}
use Rattle.text_build.specs.Tests.{is_proper_circuit}
use Rattle.text_build.proofs.proper.are_proper.Given as goal

abbrev pub invariant-loop-module : goal.invariant-loop-module
invariant-loop-module l =
    list_all is_proper_circuit (map written_circuit (drop l.module-index l.modules))
    ≡ list_all is_proper_circuit (map written_circuit l.modules)
