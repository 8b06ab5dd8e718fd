use Rattle.std.proofs.Common.{◌≡◌, ◌++◌, map, drop}
use Rattle.std.specs.Prelude.{false}
use Rattle.name_map.specs.Values.{values_of}
use Rattle.elab_walk.specs.elab_items.Declarations.{declaration}
use Rattle.elab_standard.specs.Declarations.{all_declaration_notes}
use Rattle.elab_standard.specs.Scopes.{scopes}
use Rattle.elab_standard.proofs.declarations.push_entries.Given as goal

abbrev pub invariant-loop-entry : goal.invariant-loop-entry
invariant-loop-entry l =
    l.made.items ++ all_declaration_notes l.home (scopes l.kept) (values_of l.given) l.ranged (map declaration (drop l.entry-index l.entries))
    ≡ l.initial.made.items ++ all_declaration_notes l.home (scopes l.kept) (values_of l.given) false (map declaration l.entries)
