use Rattle.std.proofs.Common.{◌≡◌, ◌∙◌, ℕ, ◌+◌, ◌-◌, ◌<◌, ◌≤◌, List, ◌++◌, length, map, drop, ap, arith, subst, sym}
use Rattle.std.proofs.lemmas.List.{drop_all}
use Rattle.std.specs.Prelude.{Vec}
use Rattle.std.specs.declared.alloc.Global.{Global}
use Rattle.rtl_tree.specs.TreeModule.{circuit}
use Rattle.rtl_tree.specs.declared.tree.modules.Module.{Module}
use Rattle.elab_links.specs.Modules.{circuits_of, found, placed_from, placed_in}
use Rattle.elab_lookups.proofs.Resolving.{file_earlier}
use Rattle.elab_lookups.proofs.meaning.resolve.Goals as goal

pub loop-file-init : goal.loop-file-init
loop-file-init c =
    let files = c.args.files.now in
    let past : length files ≤ length files = omega arith in
    record {
      inside = omega arith;
      meant =
          ap (λ (all : List (Vec Module Global)). found (placed_from (length files) (circuits_of all)) c.args.name.now) (sym (drop_all (length files) files past));
    }

pub loop-file-preserved : goal.loop-file-preserved
loop-file-preserved c =
    let files = c.args.files.now in
    let name = c.args.name.now in
    let i : ℕ = c.loop-file.file - 1 in
    let below : i < length files = omega arith in
    let next : c.loop-file.file ≡ i + 1 = omega arith in
    record {
      inside = omega arith;
      meant =
          file_earlier files i c.index-files-file.result name c.with_file-meant.result below c.index-files-file.is
          (c.with_file-meant.ensures (placed_from (i + 1) (circuits_of (drop (i + 1) files)))
          (subst (λ (k : ℕ). c.loop-file.meant ≡ found (placed_from k (circuits_of (drop k files))) name) next c.loop-file.invariant.meant)
          ∙ ap (λ (all : List Module). found (placed_in i 0 (map circuit all) ++ placed_from (i + 1) (circuits_of (drop (i + 1) files))) name) c.deref.ensures.value);
    }

pub returns : goal.returns
returns c =
    let none : c.loop-file.file ≡ 0 = omega arith in
    subst (λ (k : ℕ). c.loop-file.meant ≡ found (placed_from k (circuits_of (drop k c.args.files.now))) c.args.name.now) none c.loop-file.invariant.meant
