use Rattle.std.proofs.Common.{◌≡◌, map, drop}
use Rattle.rtl_tree.specs.TreeItem.{module_item}
use Rattle.elab_links.specs.elab_scope.Names.{meanings}
use Rattle.elab_parts.specs.elab_body.Courses.{course}
use Rattle.elab_parts.specs.elab_body.Steps.{passed}
use Rattle.elab_walk.specs.Rooms.{parts_steps}
use Rattle.elab_walk.specs.Visits.{library}
use Rattle.elab_walk.proofs.judge.judge_parts.Given as goal

abbrev pub invariant-loop-item : goal.invariant-loop-item
invariant-loop-item l =
    (passed (course l.so_far) (parts_steps (library l.all) (map (λ text. text.now) l.way) (meanings l.initial.names) (map module_item (drop l.item-index l.items)))
    ≡ passed (course l.initial.so_far) (parts_steps (library l.all) (map (λ text. text.now) l.way) (meanings l.initial.names) (map module_item l.items)))
    × (meanings l.names ≡ meanings l.initial.names)
