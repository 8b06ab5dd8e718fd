use Rattle.std.proofs.Common.{◌≡◌, List, map, drop}
use Rattle.std.specs.Option.{option_map}
use Rattle.elab_scope.specs.Faults.{after, refusal}
use Rattle.elab_scope.specs.Names.{meanings}
use Rattle.elab_items.specs.Declarations.{Declaration, declaration}
use Rattle.elab_items.specs.Drafts.{Draft, all_draft_faults, all_drafted, no_draft}
use Rattle.elab_items.specs.Settings.{settings_of}
use Rattle.elab_items.proofs.drafts.draft.Given as goal

abbrev pub invariant-loop-entry : goal.invariant-loop-entry
invariant-loop-entry l =
    let now : Draft = record { scope = meanings l.names; reach = l.reach } in
    let rest : List Declaration = map declaration (drop l.entry-index l.entries) in
    (all_drafted (settings_of l.overrides) now rest ≡ all_drafted (settings_of l.overrides) no_draft (map declaration l.entries))
    × (after (option_map refusal l.best) (all_draft_faults (settings_of l.overrides) now rest) ≡ after (option_map refusal l.initial.best) (all_draft_faults (settings_of l.overrides) no_draft (map declaration l.entries)))
