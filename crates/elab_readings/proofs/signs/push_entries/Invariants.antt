use Rattle.std.proofs.Common.{◌≡◌, ◌++◌, map, drop}
use Rattle.std.specs.List.{flat_map}
use Rattle.elab_uses.specs.elab_items.Declarations.{declaration}
use Rattle.elab_uses.specs.elab_items.Rosters.{listing}
use Rattle.elab_uses.specs.elab_links.Marks.{marks_of}
use Rattle.elab_uses.specs.elab_scope.Names.{meanings}
use Rattle.elab_readings.specs.Signs.{name_note, unsigned_here}
use Rattle.elab_readings.proofs.signs.push_entries.Given as goal

abbrev pub invariant-loop-entry : goal.invariant-loop-entry
invariant-loop-entry l =
    l.made.items ++ flat_map (name_note l.home l.base (meanings l.names) (map listing l.listings)) (flat_map (unsigned_here (marks_of l.ports)) (map declaration (drop l.entry-index l.entries)))
    ≡ l.initial.made.items ++ flat_map (name_note l.home l.base (meanings l.names) (map listing l.listings)) (flat_map (unsigned_here (marks_of l.ports)) (map declaration l.entries))
