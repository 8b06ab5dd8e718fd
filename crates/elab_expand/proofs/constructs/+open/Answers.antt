use Rattle.std.proofs.Common.{◌≡◌, ◌∙◌, ◌+◌, ◌-◌, ◌∷◌, [], zero, suc, SFits, ap, arith, rules, sym, to_z, w64}
use Rattle.std.proofs.lemmas.Int.{to_z-of_z}
use Rattle.std.proofs.lemmas.Grind.{common_steps}
use Rattle.rtl_tree.specs.TreeWritten.{made}
use Rattle.elab_scope.specs.Faults.{TooManyTurns}
use Rattle.elab_scope.specs.Rules.{fault}
use Rattle.elab_items.specs.Settings.{settings_of}
use Rattle.elab_expand.specs.Expansions.{Opening, Turn, followed, one_turn, opened_body, turn_judged, turn_number, turns, with_tally}
use Rattle.elab_expand.specs.Openings.{loop_of, opening, outers}
use Rattle.elab_expand.specs.Tallies.{Tally, telling}
use Rattle.elab_expand.proofs.Turning.{turns_go, turns_last, turns_stop}
use Rattle.elab_expand.proofs.Views.{block_body_opened, case_is_opened, choice_opened, for_opened, labelled_block_opened, plain_block_opened, region_opened}
use Rattle.elab_expand.proofs.constructs.+open.Goals as goal

pub open_item-returns-in-Region : goal.open_item-returns-in-Region
open_item-returns-in-Region t c =
    let k = c.in-Region in
    let told = region_opened (settings_of c.args.site.given.now) (opening (outers c.args.site.outer.now) c.args.block.now c.args.so_far.now) k.field-0 k.items c.args.item.now k.is in
    grind (arith, common_steps, told)

pub open_item-returns-in-Ok-3 : goal.open_item-returns-in-Ok-3
open_item-returns-in-Ok-3 t c =
    let k = c.in-Case in
    let told = case_is_opened (settings_of c.args.site.given.now) (opening (outers c.args.site.outer.now) c.args.block.now c.args.so_far.now) k.at k.selector k.choices c.args.item.now k.is in
    grind (arith, common_steps, told)

pub open_item-returns-in-For : goal.open_item-returns-in-For
open_item-returns-in-For t c =
    let k = c.in-For in
    let told = for_opened (settings_of c.args.site.given.now) (opening (outers c.args.site.outer.now) c.args.block.now c.args.so_far.now) k.at k.index k.start k.condition k.stepped k.step k.body c.args.item.now k.is in
    grind (arith, common_steps, told)

pub open_turns-returns-then-not-branch : goal.open_turns-returns-then-not-branch
open_turns-returns-then-not-branch t c =
    let body = opened_body (made c.args.body.now) in
    let loop = loop_of c.args.head c.args.name.now in
    let outer = outers c.args.site.outer.now in
    let o : Opening = opening outer c.loop-turn.block c.loop-turn.so_far in
    let n = to_z w64 c.loop-turn.number-bits in
    ap (λ (t : Tally). with_tally o t) c.in_ok-goes_on.ensures.judged
    ∙ sym (turns_stop body loop (4096 - c.loop-turn._turn) n o (sym c.in_ok-goes_on.ensures.goes ∙ c.if-not-branch.true))
    ∙ c.loop-turn.invariant
    ∙ ap (λ z. turns body loop 4096 z (opening outer c.args.block.now c.args.so_far.now)) (to_z-of_z w64 c.args.first c.ranges.first)

pub open_turns-returns-in-None : goal.open_turns-returns-in-None
open_turns-returns-in-None t c =
    let body = opened_body (made c.args.body.now) in
    let loop = loop_of c.args.head c.args.name.now in
    let outer = outers c.args.site.outer.now in
    let o : Opening = opening outer c.loop-turn.block c.loop-turn.so_far in
    let n = to_z w64 c.loop-turn.number-bits in
    let more = 4096 - (c.loop-turn._turn + 1) in
    let one : 4096 - c.loop-turn._turn ≡ suc (4096 - (c.loop-turn._turn + 1)) = omega arith in
    let after : Opening = opening outer c.open_turn.new.block c.open_turn.new.so_far in
    let turn : Turn = record { next = c.in_ok-open_turn.field-0; opening = after } in
    let is : turn ≡ one_turn body loop n (turn_number n) (turn_judged loop loop.condition n o) =
    c.in_ok-open_turn.ensures ∙ ap (λ (t : Tally). one_turn body loop n (turn_number n) (with_tally o t)) c.in_ok-goes_on.ensures.judged in
    sym
    (turns_go body loop (4096 - c.loop-turn._turn) more n o turn one (sym c.in_ok-goes_on.ensures.goes ∙ c.if-not-branch.false) is
    ∙ ap (λ next. followed (turns body loop more) next after) c.in-None.is)
    ∙ c.loop-turn.invariant
    ∙ ap (λ z. turns body loop 4096 z (opening outer c.args.block.now c.args.so_far.now)) (to_z-of_z w64 c.args.first c.ranges.first)

pub open_turns-loop-turn-preserved : goal.open_turns-loop-turn-preserved
open_turns-loop-turn-preserved t c =
    let body = opened_body (made c.args.body.now) in
    let loop = loop_of c.args.head c.args.name.now in
    let outer = outers c.args.site.outer.now in
    let o : Opening = opening outer c.loop-turn.block c.loop-turn.so_far in
    let n = to_z w64 c.loop-turn.number-bits in
    let more = 4096 - (c.loop-turn._turn + 1) in
    let one : 4096 - c.loop-turn._turn ≡ suc (4096 - (c.loop-turn._turn + 1)) = omega arith in
    let fits : SFits w64 c.in-Some.next = search rules in
    let after : Opening = opening outer c.open_turn.new.block c.open_turn.new.so_far in
    let turn : Turn = record { next = c.in_ok-open_turn.field-0; opening = after } in
    let is : turn ≡ one_turn body loop n (turn_number n) (turn_judged loop loop.condition n o) =
    c.in_ok-open_turn.ensures ∙ ap (λ (t : Tally). one_turn body loop n (turn_number n) (with_tally o t)) c.in_ok-goes_on.ensures.judged in
    ap (λ z. turns body loop more z after) (to_z-of_z w64 c.in-Some.next fits)
    ∙ sym
    (turns_go body loop (4096 - c.loop-turn._turn) more n o turn one (sym c.in_ok-goes_on.ensures.goes ∙ c.if-not-branch.false) is
    ∙ ap (λ next. followed (turns body loop more) next after) c.in-Some.is)
    ∙ c.loop-turn.invariant

pub open_turns-returns-then-branch : goal.open_turns-returns-then-branch
open_turns-returns-then-branch t c =
    let body = opened_body (made c.args.body.now) in
    let loop = loop_of c.args.head c.args.name.now in
    let outer = outers c.args.site.outer.now in
    let o : Opening = opening outer c.loop-turn.block c.loop-turn.so_far in
    let n = to_z w64 c.loop-turn.number-bits in
    let none : 4096 - c.loop-turn._turn ≡ zero = omega arith in
    ap (λ (t : Tally). with_tally o t) (c.tell.ensures ∙ ap (λ (t : Tally). telling (fault c.args.head.at TooManyTurns ∷ []) t) c.in_ok-goes_on-2.ensures.judged)
    ∙ sym (turns_last body loop (4096 - c.loop-turn._turn) n o none (sym c.in_ok-goes_on-2.ensures.goes ∙ c.if-branch.true))
    ∙ c.loop-turn.invariant
    ∙ ap (λ z. turns body loop 4096 z (opening outer c.args.block.now c.args.so_far.now)) (to_z-of_z w64 c.args.first c.ranges.first)

pub open_turns-returns-else-branch : goal.open_turns-returns-else-branch
open_turns-returns-else-branch t c =
    let body = opened_body (made c.args.body.now) in
    let loop = loop_of c.args.head c.args.name.now in
    let outer = outers c.args.site.outer.now in
    let o : Opening = opening outer c.loop-turn.block c.loop-turn.so_far in
    let n = to_z w64 c.loop-turn.number-bits in
    ap (λ (t : Tally). with_tally o t) c.in_ok-goes_on-2.ensures.judged
    ∙ sym (turns_stop body loop (4096 - c.loop-turn._turn) n o (sym c.in_ok-goes_on-2.ensures.goes ∙ c.if-branch.false))
    ∙ c.loop-turn.invariant
    ∙ ap (λ z. turns body loop 4096 z (opening outer c.args.block.now c.args.so_far.now)) (to_z-of_z w64 c.args.first c.ranges.first)

pub open_block-returns-in-None : goal.open_block-returns-in-None
open_block-returns-in-None t c =
    let k = c.in-Block in
    let told = plain_block_opened (settings_of c.args.site.given.now) (opening (outers c.args.site.outer.now) c.args.block.now c.args.so_far.now) k.field-0 k.label k.items c.args.taken.now k.is c.in-None.is in
    grind (arith, common_steps, told)

pub open_block-returns-in-Some : goal.open_block-returns-in-Some
open_block-returns-in-Some t c =
    let k = c.in-Block in
    let told = labelled_block_opened (settings_of c.args.site.given.now) (opening (outers c.args.site.outer.now) c.args.block.now c.args.so_far.now) k.field-0 k.label c.in-Some.name k.items c.args.taken.now k.is c.in-Some.is in
    grind (arith, common_steps, told)

pub open_case-returns-in-Some : goal.open_case-returns-in-Some
open_case-returns-in-Some t c =
    let told = choice_opened (settings_of c.args.site.given.now) (opening (outers c.args.site.outer.now) c.args.block.now c.pick.new.so_far) c.args.choices.now c.in-Some.place in
    grind (arith, common_steps, told)

pub open_made-returns-in-Block : goal.open_made-returns-in-Block
open_made-returns-in-Block t c =
    let k = c.in-Block in
    let told = block_body_opened (opening (outers c.args.site.outer.now) c.args.block.now c.args.so_far.now) k.field-0 k.field-1 k.items c.args.body.now k.is in
    grind (arith, common_steps, told)
