use Rattle.std.proofs.Common.{◌∙◌, ap, sym, map, drop, length, ◌+◌, ◌≤◌, arith}
use Rattle.std.proofs.lemmas.List.{drop_all}
use Rattle.rtl_tree.specs.TreeModule.{circuit}
use Rattle.elab_links.specs.Modules.{circuits_of, lookups_of, placed_from, placed_in, with_all}
use Rattle.elab_links.proofs.Founds.{found_is, with_all_append}
use Rattle.elab_links.proofs.Steps.{left_at}
use Rattle.elab_links.proofs.module_set.ModuleSet.new.Goals as goal

pub loop-file-preserved : goal.loop-file-preserved
loop-file-preserved c =
    ap
    (λ lookups. with_all lookups (placed_from (c.loop-file.file + 1) (circuits_of (drop (c.loop-file.file + 1) c.args.files.now))))
    (c.in_ok-add_file.ensures
    ∙ ap (λ modules. with_all (lookups_of c.loop-file.set) (placed_in c.loop-file.file 0 (map circuit modules))) c.deref.ensures.value)
    ∙ (sym (with_all_append (lookups_of c.loop-file.set) (placed_in c.loop-file.file 0 (map circuit c.index-files-file.result.items)) (placed_from (c.loop-file.file + 1) (circuits_of (drop (c.loop-file.file + 1) c.args.files.now))))
    ∙ (ap
    (λ files. with_all (lookups_of c.loop-file.set) (placed_from c.loop-file.file (circuits_of files)))
    (sym (left_at c.args.files.now c.loop-file.file c.index-files-file.result c.loop-file-test.true c.index-files-file.is))
    ∙ c.loop-file.invariant))

pub returns : goal.returns
returns c =
    let end : length c.args.files.now ≤ c.loop-file.file = omega arith in
    ap (λ files. with_all (lookups_of c.loop-file.set) (placed_from c.loop-file.file (circuits_of files))) (sym (drop_all c.loop-file.file c.args.files.now end))
    ∙ (c.loop-file.invariant ∙ found_is (placed_from 0 (circuits_of c.args.files.now)))
