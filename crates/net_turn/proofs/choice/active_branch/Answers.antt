use Rattle.std.proofs.Common.{◌≡◌, ◌∙◌, ◌<◌, true, false, length, map, get_or, sym, ap, arith}
use Rattle.std.proofs.lemmas.List.{get_or-map, length-map}
use Rattle.rtl_bits.specs.Bits.{same_bit}
use Rattle.rtl_flat.specs.declared.expr.SigId.{SigId}
use Rattle.rtl_flat.specs.Value.{store}
use Rattle.net_model.specs.Cycle.{level}
use Rattle.net_model.specs.Numbers.{bit}
use Rattle.net_list.specs.check_chains.Views.{guard_view}
use Rattle.net_turn.specs.Runs.{branch_of, numbers_of, numbers_with}
use Rattle.net_turn.proofs.Chosen.{active_here, active_later}
use Rattle.net_turn.proofs.choice.active_branch.Goals as goal

pub returns-then-is_at_level : goal.returns-then-is_at_level
returns-then-is_at_level c =
    let resets = c.args.resets.now in
    let tops = c.args.tops.now in
    let k = c.loop-place.place in
    let guard = c.index-resets-place.result in
    let below : k < length resets = omega arith in
    let below' : k < length tops = omega (arith, below, c.requires.as_many) in
    let count = length-map resets guard_view in
    let count' = length-map tops (λ (top : SigId). top.0) in
    let at_level : same_bit (bit (numbers_with (store c.args.before.now) c.args.turn.now) (get_or tops k (record { 0 = 0 })).0 0) (level guard.item.now.edge) ≡ true
    = ap (λ b. same_bit b (level guard.item.now.edge)) (sym c.bit_after.ensures) ∙ (sym c.is_at_level.ensures ∙ c.if-is_at_level.true) in
    ap branch_of
    (sym (active_here (numbers_with (store c.args.before.now) c.args.turn.now) (map guard_view resets) (numbers_of tops) k (guard_view guard) (get_or tops k (record { 0 = 0 })).0
    (omega (arith, below, count)) (omega (arith, below', count'))
    (get_or-map guard_view resets k guard (guard_view guard) below ∙ ap guard_view (sym c.index-resets-place.is))
    (get_or-map (λ (top : SigId). top.0) tops k (record { 0 = 0 }) 0 below') at_level)
    ∙ c.loop-place.invariant)

pub loop-place-preserved : goal.loop-place-preserved
loop-place-preserved c =
    let resets = c.args.resets.now in
    let tops = c.args.tops.now in
    let k = c.loop-place.place in
    let guard = c.index-resets-place.result in
    let below : k < length resets = omega arith in
    let below' : k < length tops = omega (arith, below, c.requires.as_many) in
    let count = length-map resets guard_view in
    let count' = length-map tops (λ (top : SigId). top.0) in
    let at_level : same_bit (bit (numbers_with (store c.args.before.now) c.args.turn.now) (get_or tops k (record { 0 = 0 })).0 0) (level guard.item.now.edge) ≡ false
    = ap (λ b. same_bit b (level guard.item.now.edge)) (sym c.bit_after.ensures) ∙ (sym c.is_at_level.ensures ∙ c.if-is_at_level.false) in
    sym (active_later (numbers_with (store c.args.before.now) c.args.turn.now) (map guard_view resets) (numbers_of tops) k (guard_view guard) (get_or tops k (record { 0 = 0 })).0
    (omega (arith, below, count)) (omega (arith, below', count'))
    (get_or-map guard_view resets k guard (guard_view guard) below ∙ ap guard_view (sym c.index-resets-place.is))
    (get_or-map (λ (top : SigId). top.0) tops k (record { 0 = 0 }) 0 below') at_level)
    ∙ c.loop-place.invariant
