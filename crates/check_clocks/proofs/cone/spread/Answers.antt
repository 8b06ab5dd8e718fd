use Rattle.std.proofs.Common.{◌∙◌, ℕ, sym, subst}
use Rattle.std.specs.Prelude.{◌↔◌}
use Rattle.check_gates.specs.check_chains.rtl_scan.Arrows.{Among}
use Rattle.check_clocks.specs.Cone.{IsSpread}
use Rattle.check_gates.specs.Reach.{Reaches}
use Rattle.check_gates.specs.Tops.{AreMarkedAlso}
use Rattle.check_clocks.proofs.Coned.{spread_all, spread_none}
use Rattle.check_clocks.proofs.cone.spread.Goals as goal
use Rattle.check_clocks.proofs.cone.spread.Goals.{then-is_control, else-is_control}

pub returns : goal.returns
returns c =
    let rows = c.args.rows.now in
    let edges = c.args.edges.now in
    let all = c.deref.result.now in
    let found : (k : ℕ) → Among all k ↔ Reaches rows c.args.top k =
    λ k. subst (λ l. Among l k ↔ Reaches rows c.args.top k) (sym c.deref.ensures.value) (c.in_ok-found.ensures k) in
    elim c.if-is_control.branch [
      | then-is_control w ↦
          subst (IsSpread rows edges c.args.gate c.args.top c.args.cone.now) (sym w.cone-is)
          (spread_all rows edges c.args.gate c.args.top all found c.args.cone.now w.mark_all.new.marks (sym c.is_control.ensures ∙ w.if-is_control.true)
          (subst (λ l. AreMarkedAlso l c.args.cone.now w.mark_all.new.marks) (w.deref-then-is_control.ensures.value ∙ sym c.deref.ensures.value) w.mark_all.ensures))
      | else-is_control w ↦
          subst (IsSpread rows edges c.args.gate c.args.top c.args.cone.now) (sym w.cone-is)
          (spread_none rows edges c.args.gate c.args.top all found c.args.cone.now (sym c.is_control.ensures ∙ w.if-is_control.false))
    ]
