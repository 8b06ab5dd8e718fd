use Rattle.std.proofs.Common.{◌≡◌, ◌++◌, map, drop}
use Rattle.rtl_tree.specs.TreeModule.{header_parameter}
use Rattle.elab_renames.proofs.modules.same_parameters.Given as goal

abbrev pub invariant-loop-parameter : goal.invariant-loop-parameter
invariant-loop-parameter l =
    map header_parameter l.made.items ++ map header_parameter (drop l.parameter-index l.parameters) ≡ map header_parameter l.parameters
