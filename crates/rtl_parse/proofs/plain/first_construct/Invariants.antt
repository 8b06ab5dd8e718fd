use Rattle.std.proofs.Common.{◌≡◌, map, drop}
use Rattle.rtl_tree.specs.TreeModule.{circuit}
use Rattle.rtl_parse.specs.Parses.{first_construct}
use Rattle.rtl_parse.proofs.plain.first_construct.Given as goal

abbrev pub invariant-loop-module : goal.invariant-loop-module
invariant-loop-module l =
    first_construct (map circuit (drop l.module-index l.modules)) ≡ first_construct (map circuit l.modules)
