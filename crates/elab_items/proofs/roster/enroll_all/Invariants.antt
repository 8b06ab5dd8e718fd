use Rattle.std.proofs.Common.{◌≡◌, map, drop}
use Rattle.elab_scope.specs.Names.{meanings}
use Rattle.elab_items.specs.Claims.{claims_in}
use Rattle.elab_items.specs.Declarations.{declaration}
use Rattle.elab_items.specs.Rosters.{all_enrolled, no_roster, roster}
use Rattle.elab_items.proofs.roster.enroll_all.Given as goal

abbrev pub invariant-loop-entry : goal.invariant-loop-entry
invariant-loop-entry l =
    all_enrolled (meanings l.draft) (claims_in l.claims) (roster l.made) (map declaration (drop l.entry-index l.entries))
    ≡ all_enrolled (meanings l.draft) (claims_in l.claims) no_roster (map declaration l.entries)
