use Rattle.std.proofs.Common.{◌≡◌, map, drop}
use Rattle.rtl_tree.specs.TreeItem.{associated}
use Rattle.elab_items.specs.elab_scope.Names.{meanings, numbers_in}
use Rattle.elab_items.specs.Settings.{settings_of}
use Rattle.elab_links.specs.Parameters.{named_settings}
use Rattle.elab_links.proofs.parameters.set_named.Given as goal

abbrev pub invariant-loop-argument : goal.invariant-loop-argument
invariant-loop-argument l =
    named_settings (numbers_in (meanings l.names)) (settings_of l.made) (map associated (drop l.argument-index l.arguments))
    ≡ named_settings (numbers_in (meanings l.names)) (settings_of l.initial.made) (map associated l.arguments)
