use Rattle.std.proofs.Common.{◌∙◌, List, ap, map, refl}
use Rattle.rtl_tree.specs.declared.tree.item.Item.{Item}
use Rattle.rtl_tree.specs.TreeItem.{module_item}
use Rattle.elab_links.specs.elab_scope.Names.{meanings}
use Rattle.elab_parts.specs.elab_body.Courses.{course}
use Rattle.elab_parts.specs.elab_body.Steps.{Step, passed}
use Rattle.elab_parts.proofs.Rows.{passed_more}
use Rattle.elab_walk.specs.Rooms.{part_steps, parts_steps}
use Rattle.elab_walk.specs.Visits.{library}
use Rattle.elab_walk.proofs.judge.judge_parts.Goals as goal

pub loop-item-preserved : goal.loop-item-preserved
loop-item-preserved c =
    let scope = meanings c.args.names.now in
    let all = library c.args.all in
    let way = map (λ text. text.now) c.args.way.now in
    let row : List Item → List Step = λ items. parts_steps all way scope (map module_item items) in
    let own : Item → List Step = λ item. part_steps all way scope (module_item item) in (
      passed_more row own (λ item items. refl) (course c.loop-item.so_far) (course c.in_ok-so_far.so_far) c.args.items.now c.loop-item.item-index c.item-item.result _ c.loop-item-test.true c.item-item.is
          (c.in_ok-so_far.ensures.told ∙ ap (λ s. passed (course c.loop-item.so_far) (part_steps all way s (module_item c.item-item.result))) c.loop-item.invariant.1)
          c.loop-item.invariant.0,
      c.judge_part.ensures.same ∙ c.loop-item.invariant.1,
    )
