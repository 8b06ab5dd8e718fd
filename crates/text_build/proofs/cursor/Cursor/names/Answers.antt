use Rattle.std.proofs.Common.{◌∙◌, Vec, Global, sym, ap, map, arith}
use Rattle.std.proofs.lemmas.List.{map-append, length-map}
use Rattle.std.proofs.lemmas.Result.{err_from_is_err_and}
use Rattle.rtl_tree.specs.declared.tree.names.Name.{Name}
use Rattle.rtl_tree.specs.Symbols.{terminal}
use Rattle.rtl_tree.specs.TreeExpr.{identifier}
use Rattle.text_build.proofs.Steps.{reads_err, lists_fail, lists_stop, lists_turn, links_out, listed_start}
use Rattle.text_build.proofs.cursor.Cursor.names.Goals as goal

pub loop-turn-init : goal.loop-turn-init
loop-turn-init c = listed_start _ _ _ _ (omega (arith, length-map c.args.self.now.rest.now terminal)) (ap (λ ts. map identifier ts) c.in_ok-all.ensures.items)

pub returns-in_err-name : goal.returns-in_err-name
returns-in_err-name c =
    let p = err_from_is_err_and c.from_residual-in_err-name.result c.from_residual-in_err-name.ensures.1 in
    rw (p.1, p.2)
    (reads_err identifier (λ (v : Vec Name Global). map identifier v.items) _ _ c.in_err-name.field-0.0 _ _
    (λ none. sym c.loop-turn.invariant ∙ lists_fail _ _ _ _ _ _ (omega arith) none) c.in_err-name.ensures)

pub returns-then-not-take_if : goal.returns-then-not-take_if
returns-then-not-take_if c =
    sym c.loop-turn.invariant
    ∙ lists_stop _ _ _ _ _ _ _ _ _ _ (omega arith) c.in_ok-name.ensures (ap (λ ts. map identifier ts) c.in_ok-push.ensures.items ∙ map-append identifier _ _)
    (sym c.take_if.ensures.answer ∙ c.if-not-take_if.true) c.take_if.ensures.left

pub loop-turn-preserved : goal.loop-turn-preserved
loop-turn-preserved c =
    sym (lists_turn _ _ _ _ _ _ _ _ _ _ _ (omega arith) c.in_ok-name.ensures (ap (λ ts. map identifier ts) c.in_ok-push.ensures.items ∙ map-append identifier _ _)
    (sym c.take_if.ensures.answer ∙ c.if-not-take_if.false) c.take_if.ensures.left)
    ∙ c.loop-turn.invariant

pub returns : goal.returns
returns c = sym c.loop-turn.invariant ∙ links_out _ _ _ _ _ _ (omega arith)
