use Rattle.std.proofs.Common.{◌≡◌, ◌++◌, map, drop}
use Rattle.rtl_tree.specs.TreeItem.{valuation}
use Rattle.elab_renames.specs.Renames.{renamed_valuation, renaming}
use Rattle.elab_renames.proofs.declarations.renamed_settings.Given as goal

abbrev pub invariant-loop-setting : goal.invariant-loop-setting
invariant-loop-setting l =
    map valuation l.made.items ++ map (renamed_valuation (renaming l.naming)) (map valuation (drop l.setting-index l.settings))
    ≡ map (renamed_valuation (renaming l.naming)) (map valuation l.settings)
