use Rattle.std.proofs.Common.{◌∙◌, Vec, Global, sym, ap, map, arith}
use Rattle.std.proofs.lemmas.List.{map-append, length-map}
use Rattle.std.proofs.lemmas.Result.{err_from_is_err_and}
use Rattle.rtl_tree.specs.declared.tree.gate.Gate.{Gate}
use Rattle.rtl_tree.specs.Symbols.{terminal}
use Rattle.rtl_tree.specs.TreeGate.{gate}
use Rattle.text_build.proofs.Steps.{reads_err, lists_fail, lists_stop, lists_turn, links_out, listed_start}
use Rattle.text_build.proofs.cursor.Cursor.listed_gates.Goals as goal

pub loop-turn-init : goal.loop-turn-init
loop-turn-init c = listed_start _ _ _ _ (omega (arith, length-map c.args.self.now.rest.now terminal)) (ap (λ ts. map gate ts) c.in_ok-all.ensures.items)

pub returns-in_err-gate : goal.returns-in_err-gate
returns-in_err-gate c =
    let p = err_from_is_err_and c.from_residual-in_err-gate.result c.from_residual-in_err-gate.ensures.1 in
    rw (p.1, p.2)
    (reads_err gate (λ (v : Vec Gate Global). map gate v.items) _ _ c.in_err-gate.field-0.0 _ _
    (λ none. sym c.loop-turn.invariant ∙ lists_fail _ _ _ _ _ _ (omega arith) none) c.in_err-gate.ensures)

pub returns-then-not-take_if : goal.returns-then-not-take_if
returns-then-not-take_if c =
    sym c.loop-turn.invariant
    ∙ lists_stop _ _ _ _ _ _ _ _ _ _ (omega arith) c.in_ok-gate.ensures (ap (λ ts. map gate ts) c.in_ok-push.ensures.items ∙ map-append gate _ _)
    (sym c.take_if.ensures.answer ∙ c.if-not-take_if.true) c.take_if.ensures.left

pub loop-turn-preserved : goal.loop-turn-preserved
loop-turn-preserved c =
    sym (lists_turn _ _ _ _ _ _ _ _ _ _ _ (omega arith) c.in_ok-gate.ensures (ap (λ ts. map gate ts) c.in_ok-push.ensures.items ∙ map-append gate _ _)
    (sym c.take_if.ensures.answer ∙ c.if-not-take_if.false) c.take_if.ensures.left)
    ∙ c.loop-turn.invariant

pub returns : goal.returns
returns c = sym c.loop-turn.invariant ∙ links_out _ _ _ _ _ _ (omega arith)
