use Rattle.std.proofs.Common.{ℕ, sym, subst}
use Rattle.std.specs.Prelude.{◌↔◌}
use Rattle.std.proofs.lemmas.Result.{on_ok_weaker}
use Rattle.check_chains.specs.rtl_scan.Arrows.{Among}
use Rattle.check_gates.specs.Reach.{Reaches}
use Rattle.check_gates.proofs.Topped.{found_inside, noted_all}
use Rattle.check_gates.proofs.tops.note_top.Goals as goal

pub push_all_at-requires : goal.push_all_at-requires
push_all_at-requires c =
    let rows = c.args.rows.now in
    let found : (k : ℕ) → Among c.deref.result.now k ↔ Reaches rows c.args.top k =
    λ k. subst (λ l. Among l k ↔ Reaches rows c.args.top k) (sym c.deref.ensures.value) (c.in_ok-found.ensures k) in
    found_inside rows c.args.top _ c.deref.result.now found c.requires.inside c.requires.size

pub returns : goal.returns
returns c =
    let rows = c.args.rows.now in
    let found : (k : ℕ) → Among c.deref.result.now k ↔ Reaches rows c.args.top k =
    λ k. subst (λ l. Among l k ↔ Reaches rows c.args.top k) (sym c.deref.ensures.value) (c.in_ok-found.ensures k) in
    on_ok_weaker c.push_all_at.result
    (λ noted. noted_all rows c.deref.result.now c.args.top c.args.tops.now.items c.push_all_at.new.rows.items found noted) c.push_all_at.ensures
