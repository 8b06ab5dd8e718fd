use Rattle.std.proofs.Common.{◌∙◌, Vec, Global, sym, ap, map, arith}
use Rattle.std.proofs.lemmas.List.{map-append, length-map}
use Rattle.std.proofs.lemmas.Result.{err_from_is_err_and}
use Rattle.rtl_tree.specs.declared.tree.stmt.Lvalue.{Lvalue}
use Rattle.rtl_tree.specs.Symbols.{terminal}
use Rattle.rtl_tree.specs.TreeStmt.{target}
use Rattle.text_build.proofs.Steps.{reads_same, reads_err, lists_fail, lists_stop, lists_turn, links_out, listed_start}
use Rattle.text_build.proofs.StmtSteps.{target_none, target_deeper}
use Rattle.text_build.proofs.cursor.Cursor.+target.Goals as goal

pub target-returns-then-depth-eq0 : goal.target-returns-then-depth-eq0
target-returns-then-depth-eq0 t c = target_none c.args.depth _ (omega arith)

pub target-returns : goal.target-returns
target-returns t c = reads_same target _ _ _ _ (sym (target_deeper c.args.depth _ _ (omega arith))) c.target_within.ensures

pub listed_targets-loop-turn-init : goal.listed_targets-loop-turn-init
listed_targets-loop-turn-init t c = listed_start _ _ _ _ (omega (arith, length-map c.args.self.now.rest.now terminal)) (ap (λ ts. map target ts) c.new-all.ensures.items)

pub listed_targets-returns-in_err-target : goal.listed_targets-returns-in_err-target
listed_targets-returns-in_err-target t c =
    let p = err_from_is_err_and c.from_residual.result c.from_residual.ensures.1 in
    rw (p.1, p.2)
    (reads_err target (λ (v : Vec Lvalue Global). map target v.items) _ _ c.in_err-target.field-0.0 _ _
    (λ none. sym c.loop-turn.invariant ∙ lists_fail _ _ _ _ _ _ (omega arith) none) c.in_err-target.ensures)

pub listed_targets-returns-then-not-take_if : goal.listed_targets-returns-then-not-take_if
listed_targets-returns-then-not-take_if t c =
    sym c.loop-turn.invariant
    ∙ lists_stop _ _ _ _ _ _ _ _ _ _ (omega arith) c.in_ok-target.ensures (ap (λ ts. map target ts) c.in_ok-push.ensures.items ∙ map-append target _ _)
    (sym c.take_if.ensures.answer ∙ c.if-not-take_if.true) c.take_if.ensures.left

pub listed_targets-loop-turn-preserved : goal.listed_targets-loop-turn-preserved
listed_targets-loop-turn-preserved t c =
    sym (lists_turn _ _ _ _ _ _ _ _ _ _ _ (omega arith) c.in_ok-target.ensures (ap (λ ts. map target ts) c.in_ok-push.ensures.items ∙ map-append target _ _)
    (sym c.take_if.ensures.answer ∙ c.if-not-take_if.false) c.take_if.ensures.left)
    ∙ c.loop-turn.invariant

pub listed_targets-returns : goal.listed_targets-returns
listed_targets-returns t c = sym c.loop-turn.invariant ∙ links_out _ _ _ _ _ _ (omega arith)
