use Rattle.std.proofs.Common.{◌≡◌, map, drop}
use Rattle.std.specs.Option.{option_map}
use Rattle.elab_scope.specs.Faults.{after, refusal}
use Rattle.elab_scope.specs.Names.{meanings}
use Rattle.elab_items.specs.Declarations.{declaration}
use Rattle.elab_items.specs.Scopes.{all_name_faults}
use Rattle.elab_items.specs.Settings.{settings_of}
use Rattle.elab_items.proofs.declare.judge_all_names.Given as goal

abbrev pub invariant-loop-entry : goal.invariant-loop-entry
invariant-loop-entry l =
    after (option_map refusal l.best) (all_name_faults (settings_of l.overrides) (meanings l.names) (map declaration (drop l.entry-index l.entries)))
    ≡ after (option_map refusal l.initial.best) (all_name_faults (settings_of l.overrides) (meanings l.names) (map declaration l.entries))
