use Rattle.std.proofs.Common.{◌∙◌, Vec, Global, sym, ap, map, arith}
use Rattle.std.proofs.lemmas.List.{map-append, length-map}
use Rattle.std.proofs.lemmas.Result.{err_from_is_err_and}
use Rattle.rtl_tree.specs.declared.tree.stmt.Stmt.{Stmt}
use Rattle.rtl_tree.specs.declared.tree.stmt.CaseItem.{CaseItem}
use Rattle.rtl_tree.specs.Symbols.{terminal}
use Rattle.rtl_tree.specs.TreeStmt.{action, branch}
use Rattle.text_build.proofs.Steps.{reads_same, reads_err, until_start, until_stop, until_turn, until_fail, until_out}
use Rattle.text_build.proofs.StmtSteps.{statement_none, statement_deeper}
use Rattle.text_build.proofs.cursor.Cursor.+statement.Goals as goal

pub statement-returns-then-depth-eq0 : goal.statement-returns-then-depth-eq0
statement-returns-then-depth-eq0 t c = statement_none c.args.depth _ (omega arith)

pub statement-returns : goal.statement-returns
statement-returns t c = reads_same action _ _ _ _ (sym (statement_deeper c.args.depth _ _ (omega arith))) c.statement_within.ensures

pub case_items-loop-turn-init : goal.case_items-loop-turn-init
case_items-loop-turn-init t c = until_start _ _ _ _ _ (omega (arith, length-map c.args.self.now.rest.now terminal)) (ap (λ ts. map branch ts) c.new-all.ensures.items)

pub case_items-returns-then-is_next : goal.case_items-returns-then-is_next
case_items-returns-then-is_next t c = sym c.loop-turn.invariant ∙ until_stop _ _ _ _ _ (sym c.is_next.ensures ∙ c.if-is_next.true)

pub case_items-returns-in_err-case_item : goal.case_items-returns-in_err-case_item
case_items-returns-in_err-case_item t c =
    let p = err_from_is_err_and c.from_residual.result c.from_residual.ensures.1 in
    rw (p.1, p.2)
    (reads_err branch (λ (v : Vec CaseItem Global). map branch v.items) _ _ c.in_err-case_item.field-0.0 _ _
    (λ none. sym c.loop-turn.invariant ∙ until_fail _ _ _ _ _ (omega arith) (sym c.is_next.ensures ∙ c.if-is_next.false) none) c.in_err-case_item.ensures)

pub case_items-loop-turn-preserved : goal.case_items-loop-turn-preserved
case_items-loop-turn-preserved t c =
    sym (until_turn _ _ _ _ _ _ _ _ _ (omega arith) (sym c.is_next.ensures ∙ c.if-is_next.false) c.in_ok-case_item.ensures
    (ap (λ ts. map branch ts) c.in_ok-push.ensures.items ∙ map-append branch _ _))
    ∙ c.loop-turn.invariant

pub case_items-returns : goal.case_items-returns
case_items-returns t c = sym c.loop-turn.invariant ∙ until_out _ _ _ _ _ (omega arith)

pub statements-loop-turn-init : goal.statements-loop-turn-init
statements-loop-turn-init t c = until_start _ _ _ _ _ (omega (arith, length-map c.args.self.now.rest.now terminal)) (ap (λ ts. map action ts) c.new-all.ensures.items)

pub statements-returns-then-is_next : goal.statements-returns-then-is_next
statements-returns-then-is_next t c = sym c.loop-turn.invariant ∙ until_stop _ _ _ _ _ (sym c.is_next.ensures ∙ c.if-is_next.true)

pub statements-returns-in_err-statement : goal.statements-returns-in_err-statement
statements-returns-in_err-statement t c =
    let p = err_from_is_err_and c.from_residual.result c.from_residual.ensures.1 in
    rw (p.1, p.2)
    (reads_err action (λ (v : Vec Stmt Global). map action v.items) _ _ c.in_err-statement.field-0.0 _ _
    (λ none. sym c.loop-turn.invariant ∙ until_fail _ _ _ _ _ (omega arith) (sym c.is_next.ensures ∙ c.if-is_next.false) none) c.in_err-statement.ensures)

pub statements-loop-turn-preserved : goal.statements-loop-turn-preserved
statements-loop-turn-preserved t c =
    sym (until_turn _ _ _ _ _ _ _ _ _ (omega arith) (sym c.is_next.ensures ∙ c.if-is_next.false) c.in_ok-statement.ensures
    (ap (λ ts. map action ts) c.in_ok-push.ensures.items ∙ map-append action _ _))
    ∙ c.loop-turn.invariant

pub statements-returns : goal.statements-returns
statements-returns t c = sym c.loop-turn.invariant ∙ until_out _ _ _ _ _ (omega arith)
