use Rattle.std.proofs.Common.{◌≡◌, ◌++◌, map, drop}
use Rattle.rtl_tree.specs.TreeModule.{header_parameter}
use Rattle.elab_items.specs.Declarations.{declaration, head_parameters}
use Rattle.elab_items.proofs.entries.push_parameters.Given as goal

abbrev pub invariant-loop-parameter : goal.invariant-loop-parameter
invariant-loop-parameter l =
    map declaration l.entries.items ++ head_parameters (map header_parameter (drop l.parameter-index l.parameters))
    ≡ map declaration l.initial.entries.items ++ head_parameters (map header_parameter l.parameters)
