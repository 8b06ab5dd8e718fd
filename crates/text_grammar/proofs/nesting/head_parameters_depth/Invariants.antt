use Rattle.std.proofs.Common.{◌≡◌, ◌-◌, ◌^◌, map, max, min, drop}
use Rattle.text_grammar.specs.Depth.{header_parameter_depth, greatest}
use Rattle.rtl_tree.specs.TreeModule.{header_parameter}
use Rattle.text_grammar.proofs.nesting.head_parameters_depth.Given as goal

abbrev pub invariant-loop-parameter : goal.invariant-loop-parameter
invariant-loop-parameter l =
    max l.most (min (greatest header_parameter_depth (map header_parameter (drop l.parameter-index l.all))) (2 ^ 32 - 1))
    ≡ min (greatest header_parameter_depth (map header_parameter l.all)) (2 ^ 32 - 1)
