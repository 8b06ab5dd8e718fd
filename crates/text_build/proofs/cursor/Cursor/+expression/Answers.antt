use Rattle.std.proofs.Common.{◌∙◌, Vec, Global, sym, ap, map, refl, arith}
use Rattle.std.proofs.lemmas.List.{map-append, length-map}
use Rattle.std.proofs.lemmas.Result.{err_from_is_err_and}
use Rattle.rtl_tree.specs.declared.tree.expr.Expr.{Expr}
use Rattle.rtl_tree.specs.Symbols.{terminal}
use Rattle.rtl_tree.specs.TreeExpr.{formula}
use Rattle.text_build.proofs.Steps.{reads_same, reads_err, lists_fail, lists_stop, lists_turn, links_out, commas_start}
use Rattle.text_build.proofs.ExprSteps.{chain_start, chain_stop, chain_out, chain_go, chain_fail, climb_none, climb_deeper}
use Rattle.text_build.proofs.cursor.Cursor.+expression.Goals as goal

pub chain-loop-turn-init : goal.chain-loop-turn-init
chain-loop-turn-init t c = chain_start _ _ _ _ _ _ _ (omega arith) refl

pub chain-returns-then-not-goes : goal.chain-returns-then-not-goes
chain-returns-then-not-goes t c = sym c.loop-turn.invariant ∙ chain_stop _ _ _ _ _ (sym c.goes.ensures ∙ c.if-not-goes.true)

pub chain-returns-in_err-left : goal.chain-returns-in_err-left
chain-returns-in_err-left t c =
    let p = err_from_is_err_and c.from_residual.result c.from_residual.ensures.1 in
    rw (p.1, p.2)
    (reads_err formula formula _ _ c.in_err-left.field-0.0 _ _
    (λ none. sym c.loop-turn.invariant ∙ chain_fail _ _ _ _ _ (omega arith) (sym c.goes.ensures ∙ c.if-not-goes.false) none) c.in_err-left.ensures)

pub chain-loop-turn-preserved : goal.chain-loop-turn-preserved
chain-loop-turn-preserved t c =
    sym (chain_go _ _ _ _ _ _ _ (omega arith) (sym c.goes.ensures ∙ c.if-not-goes.false) c.in_ok-left.ensures) ∙ c.loop-turn.invariant

pub chain-returns : goal.chain-returns
chain-returns t c = sym c.loop-turn.invariant ∙ chain_stop _ _ _ _ _ (sym c.goes-2.ensures ∙ c.if-goes.false)

pub chain-returns-then-goes : goal.chain-returns-then-goes
chain-returns-then-goes t c = sym c.loop-turn.invariant ∙ chain_out _ _ _ _ _ (omega arith) (sym c.goes-2.ensures ∙ c.if-goes.true)

pub climb-returns-then-depth-eq0 : goal.climb-returns-then-depth-eq0
climb-returns-then-depth-eq0 t c = climb_none c.args.depth _ _ (omega arith)

pub climb-returns : goal.climb-returns
climb-returns t c = reads_same formula _ _ _ _ (sym (climb_deeper c.args.depth _ _ _ (omega arith))) c.sequence.ensures

pub expressions_after-loop-turn-init : goal.expressions_after-loop-turn-init
expressions_after-loop-turn-init t c = commas_start _ _ _ _ _ (omega (arith, length-map c.args.self.now.rest.now terminal)) refl

pub expressions_after-returns-in_err-climb : goal.expressions_after-returns-in_err-climb
expressions_after-returns-in_err-climb t c =
    let p = err_from_is_err_and c.from_residual.result c.from_residual.ensures.1 in
    rw (p.1, p.2)
    (reads_err formula (λ (v : Vec Expr Global). map formula v.items) _ _ c.in_err-climb.field-0.0 _ _
    (λ none. sym c.loop-turn.invariant ∙ lists_fail _ _ _ _ _ _ (omega arith) none) c.in_err-climb.ensures)

pub expressions_after-returns-then-not-take_if : goal.expressions_after-returns-then-not-take_if
expressions_after-returns-then-not-take_if t c =
    sym c.loop-turn.invariant
    ∙ lists_stop _ _ _ _ _ _ _ _ _ _ (omega arith) c.in_ok-climb.ensures (ap (λ ts. map formula ts) c.in_ok-push.ensures.items ∙ map-append formula _ _)
    (sym c.take_if.ensures.answer ∙ c.if-not-take_if.true) c.take_if.ensures.left

pub expressions_after-loop-turn-preserved : goal.expressions_after-loop-turn-preserved
expressions_after-loop-turn-preserved t c =
    sym (lists_turn _ _ _ _ _ _ _ _ _ _ _ (omega arith) c.in_ok-climb.ensures (ap (λ ts. map formula ts) c.in_ok-push.ensures.items ∙ map-append formula _ _)
    (sym c.take_if.ensures.answer ∙ c.if-not-take_if.false) c.take_if.ensures.left)
    ∙ c.loop-turn.invariant

pub expressions_after-returns : goal.expressions_after-returns
expressions_after-returns t c = sym c.loop-turn.invariant ∙ links_out _ _ _ _ _ _ (omega arith)
