use Rattle.std.proofs.Common.{◌≡◌, ◌∙◌, ℕ, ◌+◌, ◌-◌, ◌<◌, ◌≤◌, List, ◌++◌, length, map, drop, ap, arith, subst, sym}
use Rattle.std.proofs.lemmas.List.{drop_all}
use Rattle.rtl_tree.specs.TreeModule.{circuit}
use Rattle.rtl_tree.specs.declared.tree.modules.Module.{Module}
use Rattle.elab_links.specs.Modules.{found, placed_in}
use Rattle.elab_lookups.proofs.Resolving.{one_earlier}
use Rattle.elab_lookups.proofs.meaning.with_file.Goals as goal

pub loop-index-init : goal.loop-index-init
loop-index-init c =
    let modules = c.args.modules.now in
    let file = c.args.file in
    let name = c.args.name.now in
    let past : length modules ≤ length modules = omega arith in
    record {
      inside = omega arith;
      meant = λ others is.
          is ∙ ap (λ (all : List Module). found (placed_in file (length modules) (map circuit all) ++ others) name) (sym (drop_all (length modules) modules past));
    }

pub loop-index-preserved : goal.loop-index-preserved
loop-index-preserved c =
    let modules = c.args.modules.now in
    let file = c.args.file in
    let name = c.args.name.now in
    let i : ℕ = c.loop-index.index - 1 in
    let below : i < length modules = omega arith in
    let next : c.loop-index.index ≡ i + 1 = omega arith in
    record {
      inside = omega arith;
      meant = λ others is.
          one_earlier modules file i c.index-modules-index.result name c.loop-index.meant c.with_module-meant.result others below
          (subst (λ (k : ℕ). c.loop-index.meant ≡ found (placed_in file k (map circuit (drop k modules)) ++ others) name) next (c.loop-index.invariant.meant others is))
          c.with_module-meant.ensures;
    }

pub returns : goal.returns
returns c =
    let none : c.loop-index.index ≡ 0 = omega arith in
    λ others is.
    subst (λ (k : ℕ). c.loop-index.meant ≡ found (placed_in c.args.file k (map circuit (drop k c.args.modules.now)) ++ others) c.args.name.now) none (c.loop-index.invariant.meant others is)
