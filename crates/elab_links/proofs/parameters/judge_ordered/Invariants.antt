use Rattle.std.proofs.Common.{◌≡◌, map, drop}
use Rattle.std.specs.Option.{option_map}
use Rattle.rtl_tree.specs.TreeItem.{positional}
use Rattle.elab_items.specs.elab_scope.Faults.{after, refusal}
use Rattle.elab_items.specs.elab_scope.Names.{meanings}
use Rattle.elab_links.specs.Parameters.{ordered_setting_faults}
use Rattle.elab_links.proofs.parameters.judge_ordered.Given as goal

abbrev pub invariant-loop-place : goal.invariant-loop-place
invariant-loop-place l =
    after (option_map refusal l.best) (ordered_setting_faults l.child l.many (meanings l.names) l.place (map positional (drop l.place l.arguments)))
    ≡ after (option_map refusal l.initial.best) (ordered_setting_faults l.child l.many (meanings l.names) 0 (map positional l.arguments))
