use Rattle.std.proofs.Common.{◌∙◌, sym, refl, arith}
use Rattle.std.proofs.lemmas.List.{length-map}
use Rattle.std.proofs.lemmas.Result.{err_from_is_err_and}
use Rattle.rtl_tree.specs.Symbols.{terminal}
use Rattle.text_build.specs.declared.attributes.Marks.{Marks}
use Rattle.text_build.proofs.Steps.{reads_err, links_fail, links_stop, links_turn, links_out, commas_start}
use Rattle.text_build.proofs.cursor.Cursor.attributes_in.Goals as goal

pub loop-turn-init : goal.loop-turn-init
loop-turn-init c = commas_start _ _ _ _ _ (omega (arith, length-map c.args.self.now.rest.now terminal)) refl

pub returns-in_err-marks : goal.returns-in_err-marks
returns-in_err-marks c =
    let p = err_from_is_err_and c.from_residual.result c.from_residual.ensures.1 in
    rw (p.1, p.2)
    (reads_err (λ (m : Marks). m) (λ (m : Marks). m) _ _ c.in_err-marks.field-0.0 _ _
    (λ none. sym c.loop-turn.invariant ∙ links_fail _ _ _ _ _ _ (omega arith) none) c.in_err-marks.ensures)

pub returns-then-not-take_if : goal.returns-then-not-take_if
returns-then-not-take_if c =
    sym c.loop-turn.invariant
    ∙ links_stop _ _ _ _ _ _ _ _ _ (omega arith) c.in_ok-marks.ensures (sym c.take_if.ensures.answer ∙ c.if-not-take_if.true) c.take_if.ensures.left

pub loop-turn-preserved : goal.loop-turn-preserved
loop-turn-preserved c =
    sym (links_turn _ _ _ _ _ _ _ _ _ _ (omega arith) c.in_ok-marks.ensures (sym c.take_if.ensures.answer ∙ c.if-not-take_if.false) c.take_if.ensures.left)
    ∙ c.loop-turn.invariant

pub returns : goal.returns
returns c = sym c.loop-turn.invariant ∙ links_out _ _ _ _ _ _ (omega arith)
