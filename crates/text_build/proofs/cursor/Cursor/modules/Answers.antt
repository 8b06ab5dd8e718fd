use Rattle.std.proofs.Common.{◌∙◌, Vec, Global, sym, ap, map, arith}
use Rattle.std.proofs.lemmas.List.{map-append, length-map}
use Rattle.std.proofs.lemmas.Result.{err_from_is_err_and}
use Rattle.rtl_tree.specs.declared.tree.modules.WrittenModule.{WrittenModule}
use Rattle.rtl_tree.specs.Symbols.{terminal}
use Rattle.rtl_tree.specs.TreeModule.{written_circuit}
use Rattle.text_build.proofs.Steps.{reads_err, turns_stop, turns_out}
use Rattle.text_build.proofs.ItemSteps.{circuits_start, circuits_turn, circuits_fail}
use Rattle.text_build.proofs.cursor.Cursor.modules.Goals as goal

pub loop-turn-init : goal.loop-turn-init
loop-turn-init c = circuits_start _ _ _ _ _ (omega (arith, length-map c.args.self.now.rest.now terminal)) (ap (λ ts. map written_circuit ts) c.new-all.ensures.items)

pub returns-then-not-is_more : goal.returns-then-not-is_more
returns-then-not-is_more c = sym c.loop-turn.invariant ∙ turns_stop _ _ _ _ _ (sym c.is_more.ensures ∙ c.if-not-is_more.true)

pub returns-in_err-module : goal.returns-in_err-module
returns-in_err-module c =
    let p = err_from_is_err_and c.from_residual.result c.from_residual.ensures.1 in
    rw (p.1, p.2)
    (reads_err written_circuit (λ (v : Vec WrittenModule Global). map written_circuit v.items) _ _ c.in_err-module.field-0.0 _ _
    (λ none. sym c.loop-turn.invariant ∙ circuits_fail _ _ _ _ _ (omega arith) (sym c.is_more.ensures ∙ c.if-not-is_more.false) none) c.in_err-module.ensures)

pub loop-turn-preserved : goal.loop-turn-preserved
loop-turn-preserved c =
    sym (circuits_turn _ _ _ _ _ _ _ _ _ (omega arith) (sym c.is_more.ensures ∙ c.if-not-is_more.false) c.in_ok-module.ensures
    (ap (λ ts. map written_circuit ts) c.in_ok-push.ensures.items ∙ map-append written_circuit _ _))
    ∙ c.loop-turn.invariant

pub returns : goal.returns
returns c = sym c.loop-turn.invariant ∙ turns_out _ _ _ _ _ (omega arith)
