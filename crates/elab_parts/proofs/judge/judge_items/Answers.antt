use Rattle.std.proofs.Common.{◌∙◌, List, ap, map, refl}
use Rattle.rtl_tree.specs.declared.tree.item.Item.{Item}
use Rattle.rtl_tree.specs.TreeItem.{module_item}
use Rattle.elab_body.specs.elab_scope.Names.{meanings}
use Rattle.elab_body.specs.Courses.{course}
use Rattle.elab_body.specs.Steps.{Step, passed}
use Rattle.elab_parts.specs.Items.{item_steps, items_steps}
use Rattle.elab_parts.proofs.Rows.{passed_more}
use Rattle.elab_parts.proofs.judge.judge_items.Goals as goal

pub loop-item-preserved : goal.loop-item-preserved
loop-item-preserved c =
    let scope = meanings c.args.names.now in
    let row : List Item → List Step = λ items. items_steps scope (map module_item items) in
    let own : Item → List Step = λ item. item_steps scope (module_item item) in (
      passed_more row own (λ item items. refl) (course c.loop-item.so_far) (course c.in_ok-so_far.so_far) c.args.items.now c.loop-item.item-index c.item-item.result _ c.loop-item-test.true c.item-item.is
          (c.in_ok-so_far.ensures.told ∙ ap (λ s. passed (course c.loop-item.so_far) (item_steps s (module_item c.item-item.result))) c.loop-item.invariant.1)
          c.loop-item.invariant.0,
      c.judge_item.ensures.same ∙ c.loop-item.invariant.1,
    )
