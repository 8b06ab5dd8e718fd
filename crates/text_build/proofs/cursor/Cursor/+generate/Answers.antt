use Rattle.std.proofs.Common.{◌∙◌, Vec, Global, sym, ap, map, arith}
use Rattle.std.proofs.lemmas.List.{map-append, length-map}
use Rattle.std.proofs.lemmas.Result.{err_from_is_err_and}
use Rattle.rtl_tree.specs.declared.tree.written.GenerateChoice.{GenerateChoice}
use Rattle.rtl_tree.specs.declared.tree.written.WrittenItem.{WrittenItem}
use Rattle.rtl_tree.specs.Symbols.{terminal}
use Rattle.rtl_tree.specs.TreeWritten.{choice, written_item}
use Rattle.text_grammar.specs.declared.nesting.TheConstants.{MAX_NESTING}
use Rattle.text_build.proofs.Steps.{reads_same, reads_err, until_start, until_stop, until_turn, until_fail, until_out}
use Rattle.text_build.proofs.GenerateSteps.{item_simple, item_deeper}
use Rattle.text_build.proofs.cursor.Cursor.+generate.Goals as goal

pub item-returns-then-depth-eq0 : goal.item-returns-then-depth-eq0
item-returns-then-depth-eq0 t c = reads_same written_item _ _ _ _ (sym (item_simple MAX_NESTING c.args.depth _ (omega arith))) c.simple_item.ensures

pub item-returns : goal.item-returns
item-returns t c = reads_same written_item _ _ _ _ (sym (item_deeper MAX_NESTING c.args.depth _ _ (omega arith))) c.item_within.ensures

pub items_before-loop-turn-init : goal.items_before-loop-turn-init
items_before-loop-turn-init t c =
    until_start _ _ _ _ _ (omega (arith, length-map c.args.self.now.rest.now terminal)) (ap (λ ts. map written_item ts) c.new-all.ensures.items)

pub items_before-returns-then-is_next : goal.items_before-returns-then-is_next
items_before-returns-then-is_next t c = sym c.loop-turn.invariant ∙ until_stop _ _ _ _ _ (sym c.is_next.ensures ∙ c.if-is_next.true)

pub items_before-returns-in_err-item : goal.items_before-returns-in_err-item
items_before-returns-in_err-item t c =
    let p = err_from_is_err_and c.from_residual.result c.from_residual.ensures.1 in
    rw (p.1, p.2)
    (reads_err written_item (λ (v : Vec WrittenItem Global). map written_item v.items) _ _ c.in_err-item.field-0.0 _ _
    (λ none. sym c.loop-turn.invariant ∙ until_fail _ _ _ _ _ (omega arith) (sym c.is_next.ensures ∙ c.if-is_next.false) none) c.in_err-item.ensures)

pub items_before-loop-turn-preserved : goal.items_before-loop-turn-preserved
items_before-loop-turn-preserved t c =
    sym (until_turn _ _ _ _ _ _ _ _ _ (omega arith) (sym c.is_next.ensures ∙ c.if-is_next.false) c.in_ok-item.ensures
    (ap (λ ts. map written_item ts) c.in_ok-push.ensures.items ∙ map-append written_item _ _))
    ∙ c.loop-turn.invariant

pub items_before-returns : goal.items_before-returns
items_before-returns t c = sym c.loop-turn.invariant ∙ until_out _ _ _ _ _ (omega arith)

pub choices-loop-turn-init : goal.choices-loop-turn-init
choices-loop-turn-init t c = until_start _ _ _ _ _ (omega (arith, length-map c.args.self.now.rest.now terminal)) (ap (λ ts. map choice ts) c.new-all.ensures.items)

pub choices-returns-then-is_next : goal.choices-returns-then-is_next
choices-returns-then-is_next t c = sym c.loop-turn.invariant ∙ until_stop _ _ _ _ _ (sym c.is_next.ensures ∙ c.if-is_next.true)

pub choices-returns-in_err-generate_choice : goal.choices-returns-in_err-generate_choice
choices-returns-in_err-generate_choice t c =
    let p = err_from_is_err_and c.from_residual.result c.from_residual.ensures.1 in
    rw (p.1, p.2)
    (reads_err choice (λ (v : Vec GenerateChoice Global). map choice v.items) _ _ c.in_err-generate_choice.field-0.0 _ _
    (λ none. sym c.loop-turn.invariant ∙ until_fail _ _ _ _ _ (omega arith) (sym c.is_next.ensures ∙ c.if-is_next.false) none) c.in_err-generate_choice.ensures)

pub choices-loop-turn-preserved : goal.choices-loop-turn-preserved
choices-loop-turn-preserved t c =
    sym (until_turn _ _ _ _ _ _ _ _ _ (omega arith) (sym c.is_next.ensures ∙ c.if-is_next.false) c.in_ok-generate_choice.ensures
    (ap (λ ts. map choice ts) c.in_ok-push.ensures.items ∙ map-append choice _ _))
    ∙ c.loop-turn.invariant

pub choices-returns : goal.choices-returns
choices-returns t c = sym c.loop-turn.invariant ∙ until_out _ _ _ _ _ (omega arith)
