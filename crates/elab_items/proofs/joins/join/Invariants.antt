use Rattle.std.proofs.Common.{◌≡◌, List, map, drop}
use Rattle.std.specs.Option.{option_map}
use Rattle.elab_scope.specs.Faults.{after, refusal}
use Rattle.elab_scope.specs.Names.{meanings, numbers_in}
use Rattle.elab_items.specs.Claims.{Course, all_claim_faults, all_claimed, claims_in, no_course}
use Rattle.elab_items.specs.Declarations.{Declaration, declaration}
use Rattle.elab_items.proofs.joins.join.Given as goal

abbrev pub invariant-loop-entry : goal.invariant-loop-entry
invariant-loop-entry l =
    let now : Course = record { claims = claims_in l.claims; reach = l.reach } in
    let rest : List Declaration = map declaration (drop l.entry-index l.entries) in
    (all_claimed (numbers_in (meanings l.names)) now rest ≡ all_claimed (numbers_in (meanings l.names)) no_course (map declaration l.entries))
    × (after (option_map refusal l.best) (all_claim_faults (numbers_in (meanings l.names)) now rest) ≡ after (option_map refusal l.initial.best) (all_claim_faults (numbers_in (meanings l.names)) no_course (map declaration l.entries)))
