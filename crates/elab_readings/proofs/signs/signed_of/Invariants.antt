use Rattle.std.proofs.Common.{◌≡◌, ◌++◌, map, drop}
use Rattle.std.specs.List.{flat_map}
use Rattle.rtl_tree.specs.TreeExpr.{identifier}
use Rattle.elab_uses.specs.elab_items.Declarations.{declaration}
use Rattle.elab_readings.specs.Signs.{signed_here}
use Rattle.elab_readings.proofs.signs.signed_of.Given as goal

abbrev pub invariant-loop-entry : goal.invariant-loop-entry
invariant-loop-entry l =
    map (λ name. identifier name.now) l.names.items ++ flat_map signed_here (map declaration (drop l.entry-index l.entries))
    ≡ flat_map signed_here (map declaration l.entries)
