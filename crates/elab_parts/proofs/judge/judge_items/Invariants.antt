use Rattle.std.proofs.Common.{◌≡◌, map, drop}
use Rattle.rtl_tree.specs.TreeItem.{module_item}
use Rattle.elab_body.specs.elab_scope.Names.{meanings}
use Rattle.elab_body.specs.Courses.{course}
use Rattle.elab_body.specs.Steps.{passed}
use Rattle.elab_parts.specs.Items.{items_steps}
use Rattle.elab_parts.proofs.judge.judge_items.Given as goal

abbrev pub invariant-loop-item : goal.invariant-loop-item
invariant-loop-item l =
    (passed (course l.so_far) (items_steps (meanings l.initial.names) (map module_item (drop l.item-index l.items))) ≡ passed (course l.initial.so_far) (items_steps (meanings l.initial.names) (map module_item l.items)))
    × (meanings l.names ≡ meanings l.initial.names)
