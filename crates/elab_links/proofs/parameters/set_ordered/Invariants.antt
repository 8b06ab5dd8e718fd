use Rattle.std.proofs.Common.{◌≡◌, map, drop}
use Rattle.rtl_tree.specs.TreeExpr.{identifier}
use Rattle.rtl_tree.specs.TreeItem.{positional}
use Rattle.elab_items.specs.elab_scope.Names.{meanings, numbers_in}
use Rattle.elab_items.specs.Settings.{settings_of}
use Rattle.elab_links.specs.Parameters.{ordered_settings}
use Rattle.elab_links.proofs.parameters.set_ordered.Given as goal

abbrev pub invariant-loop-place : goal.invariant-loop-place
invariant-loop-place l =
    ordered_settings (numbers_in (meanings l.names)) (map (λ name. identifier name.now) l.settable) (settings_of l.made) l.place (map positional (drop l.place l.arguments))
    ≡ ordered_settings (numbers_in (meanings l.names)) (map (λ name. identifier name.now) l.settable) (settings_of l.initial.made) 0 (map positional l.arguments)
