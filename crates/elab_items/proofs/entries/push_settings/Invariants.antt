use Rattle.std.proofs.Common.{◌≡◌, ◌++◌, map, drop}
use Rattle.rtl_tree.specs.TreeItem.{valuation}
use Rattle.elab_items.specs.Declarations.{declaration, declared_parameter}
use Rattle.elab_items.proofs.entries.push_settings.Given as goal

abbrev pub invariant-loop-setting : goal.invariant-loop-setting
invariant-loop-setting l =
    map declaration l.entries.items ++ map (declared_parameter l.kind) (map valuation (drop l.setting-index l.settings))
    ≡ map declaration l.initial.entries.items ++ map (declared_parameter l.kind) (map valuation l.settings)
