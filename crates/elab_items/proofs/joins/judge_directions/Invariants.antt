use Rattle.std.proofs.Common.{◌≡◌, map, drop}
use Rattle.std.specs.Option.{option_map}
use Rattle.elab_scope.specs.Faults.{after, refusal}
use Rattle.elab_items.specs.Claims.{all_direction_faults, claims_in}
use Rattle.elab_items.specs.Declarations.{declaration}
use Rattle.elab_items.proofs.joins.judge_directions.Given as goal

abbrev pub invariant-loop-entry : goal.invariant-loop-entry
invariant-loop-entry l =
    after (option_map refusal l.best) (all_direction_faults (claims_in l.claims) (map declaration (drop l.entry-index l.entries)))
    ≡ after (option_map refusal l.initial.best) (all_direction_faults (claims_in l.claims) (map declaration l.entries))
