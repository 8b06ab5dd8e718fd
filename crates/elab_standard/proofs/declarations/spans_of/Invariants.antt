use Rattle.std.proofs.Common.{◌≡◌, map, drop}
use Rattle.name_map.specs.Values.{values_of}
use Rattle.elab_walk.specs.elab_items.Declarations.{declaration}
use Rattle.elab_walk.specs.elab_scope.Names.{meanings}
use Rattle.elab_standard.specs.Declarations.{all_spans, spans_of}
use Rattle.elab_standard.proofs.declarations.spans_of.Given as goal

abbrev pub invariant-loop-entry : goal.invariant-loop-entry
invariant-loop-entry l =
    all_spans (meanings l.names) l.ranged (values_of l.spans) (map declaration (drop l.entry-index l.entries))
    ≡ spans_of (meanings l.names) (map declaration l.entries)
