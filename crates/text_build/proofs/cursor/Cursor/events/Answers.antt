use Rattle.std.proofs.Common.{◌∙◌, Vec, Global, sym, ap, map, arith}
use Rattle.std.proofs.lemmas.List.{map-append, length-map}
use Rattle.std.proofs.lemmas.Result.{err_from_is_err_and}
use Rattle.rtl_tree.specs.declared.tree.item.Event.{Event}
use Rattle.rtl_tree.specs.Symbols.{terminal}
use Rattle.rtl_tree.specs.TreeItem.{happening}
use Rattle.text_build.proofs.Steps.{reads_err, lists_fail, lists_stop, lists_turn, links_out}
use Rattle.text_build.proofs.ItemSteps.{events_start}
use Rattle.text_build.proofs.cursor.Cursor.events.Goals as goal

pub loop-turn-init : goal.loop-turn-init
loop-turn-init c = events_start _ _ _ _ (omega (arith, length-map c.args.self.now.rest.now terminal)) (ap (λ ts. map happening ts) c.in_ok-all.ensures.items)

pub returns-in_err-event : goal.returns-in_err-event
returns-in_err-event c =
    let p = err_from_is_err_and c.from_residual-in_err-event.result c.from_residual-in_err-event.ensures.1 in
    rw (p.1, p.2)
    (reads_err happening (λ (v : Vec Event Global). map happening v.items) _ _ c.in_err-event.field-0.0 _ _
    (λ none. sym c.loop-turn.invariant ∙ lists_fail _ _ _ _ _ _ (omega arith) none) c.in_err-event.ensures)

pub returns-then-not-take_joint : goal.returns-then-not-take_joint
returns-then-not-take_joint c =
    sym c.loop-turn.invariant
    ∙ lists_stop _ _ _ _ _ _ _ _ _ _ (omega arith) c.in_ok-event.ensures (ap (λ ts. map happening ts) c.in_ok-push.ensures.items ∙ map-append happening _ _)
    (sym c.take_joint.ensures.answer ∙ c.if-not-take_joint.true) c.take_joint.ensures.left

pub loop-turn-preserved : goal.loop-turn-preserved
loop-turn-preserved c =
    sym (lists_turn _ _ _ _ _ _ _ _ _ _ _ (omega arith) c.in_ok-event.ensures (ap (λ ts. map happening ts) c.in_ok-push.ensures.items ∙ map-append happening _ _)
    (sym c.take_joint.ensures.answer ∙ c.if-not-take_joint.false) c.take_joint.ensures.left)
    ∙ c.loop-turn.invariant

pub returns : goal.returns
returns c = sym c.loop-turn.invariant ∙ links_out _ _ _ _ _ _ (omega arith)
