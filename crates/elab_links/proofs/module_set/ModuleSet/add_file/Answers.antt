use Rattle.std.proofs.Common.{◌∙◌, ap, sym, map, drop, ◌+◌}
use Rattle.rtl_tree.specs.TreeModule.{circuit}
use Rattle.elab_links.specs.Modules.{lookups_of, placed_in, with_all}
use Rattle.elab_links.proofs.Steps.{left_at}
use Rattle.elab_links.proofs.module_set.ModuleSet.add_file.Goals as goal

pub loop-index-preserved : goal.loop-index-preserved
loop-index-preserved c =
    ap
    (λ lookups. with_all lookups (placed_in c.args.file (c.loop-index.index + 1) (map circuit (drop (c.loop-index.index + 1) c.args.modules.now))))
    c.in_ok-add.ensures
    ∙ (ap
    (λ modules. with_all (lookups_of c.loop-index.self) (placed_in c.args.file c.loop-index.index (map circuit modules)))
    (sym (left_at c.args.modules.now c.loop-index.index c.index-modules-index.result c.loop-index-test.true c.index-modules-index.is))
    ∙ c.loop-index.invariant)
