use Rattle.std.proofs.Common.{◌≡◌, List, map, drop}
use Rattle.std.specs.Prelude.{false}
use Rattle.name_map.specs.Values.{values_of}
use Rattle.elab_walk.specs.elab_items.Declarations.{Declaration, declaration}
use Rattle.elab_walk.specs.elab_scope.Names.{meanings}
use Rattle.elab_standard.specs.Standards.{all_standards}
use Rattle.elab_standard.proofs.scopes.Scopes.enter_all.Given as goal

abbrev pub invariant-loop-entry : goal.invariant-loop-entry
invariant-loop-entry l =
    let rest : List Declaration = map declaration (drop l.entry-index l.entries) in
    (meanings l.self.names ≡ meanings l.initial.self.names)
    × (all_standards (meanings l.initial.self.names) (values_of l.given) l.ranged (values_of l.self.standards) rest
    ≡ all_standards (meanings l.initial.self.names) (values_of l.given) false (values_of l.initial.self.standards) (map declaration l.entries))
