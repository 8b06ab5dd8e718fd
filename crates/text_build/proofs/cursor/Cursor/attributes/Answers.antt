use Rattle.std.proofs.Common.{◌∙◌, sym, refl, arith}
use Rattle.std.proofs.lemmas.List.{length-map}
use Rattle.std.proofs.lemmas.Result.{err_from_is_err_and}
use Rattle.rtl_tree.specs.Symbols.{terminal}
use Rattle.text_build.specs.declared.attributes.Marks.{Marks}
use Rattle.text_build.proofs.Steps.{reads_err, turns_stop, turns_go, turns_fail, turns_out}
use Rattle.text_build.proofs.StmtSteps.{attributes_start}
use Rattle.text_build.proofs.cursor.Cursor.attributes.Goals as goal

pub loop-turn-init : goal.loop-turn-init
loop-turn-init c = attributes_start _ _ _ (omega (arith, length-map c.args.self.now.rest.now terminal)) refl

pub returns-then-not-is_next : goal.returns-then-not-is_next
returns-then-not-is_next c = sym c.loop-turn.invariant ∙ turns_stop _ _ _ _ _ (sym c.is_next.ensures ∙ c.if-not-is_next.true)

pub returns-in_err-marks : goal.returns-in_err-marks
returns-in_err-marks c =
    let p = err_from_is_err_and c.from_residual.result c.from_residual.ensures.1 in
    rw (p.1, p.2)
    (reads_err (λ (m : Marks). m) (λ (m : Marks). m) _ _ c.in_err-marks.field-0.0 _ _
    (λ none. sym c.loop-turn.invariant ∙ turns_fail _ _ _ _ _ (omega arith) (sym c.is_next.ensures ∙ c.if-not-is_next.false) none) c.in_err-marks.ensures)

pub loop-turn-preserved : goal.loop-turn-preserved
loop-turn-preserved c =
    sym (turns_go _ _ _ _ _ _ _ (omega arith) (sym c.is_next.ensures ∙ c.if-not-is_next.false) c.in_ok-marks.ensures) ∙ c.loop-turn.invariant

pub returns : goal.returns
returns c = sym c.loop-turn.invariant ∙ turns_out _ _ _ _ _ (omega arith)
