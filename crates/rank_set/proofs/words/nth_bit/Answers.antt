use Rattle.std.proofs.Common.{◌+◌, ◌*◌, ◌∷◌, [], length, get_or, arith, sym, ◌∙◌}
use Rattle.rank_set.proofs.Bits.{has_is}
use Rattle.rank_set.proofs.Counts.{members_none, members_word, members_ones, members_at}
use Rattle.rank_set.proofs.words.nth_bit.Goals as goal

pub loop-number-init : goal.loop-number-init
loop-number-init c = omega (arith, members_none c.args.words.now)

pub nth_of-requires : goal.nth_of-requires
nth_of-requires c =
    let word = get_or c.args.words.now c.loop-number.number 0 in
    omega (arith, c.if-left-ones.true, members_ones word (c.type_inv.words c.loop-number.number).fits)

pub returns-then-left-ones-clause-bit : goal.returns-then-left-ones-clause-bit
returns-then-left-ones-clause-bit c =
    let ws = c.args.words.now in
    let word = get_or ws c.loop-number.number 0 in
    let r = c.nth_of.result in
    let below = c.nth_of.ensures.within in
    has_is ws (c.loop-number.number * 64 + r) c.loop-number.number r (omega arith) (omega arith)
    ∙ sym (has_is (word ∷ []) r 0 r (omega arith) (omega arith))
    ∙ c.nth_of.ensures.bit

pub returns-then-left-ones-clause-before : goal.returns-then-left-ones-clause-before
returns-then-left-ones-clause-before c =
    let ws = c.args.words.now in
    let place = c.loop-number.number in
    let r = c.nth_of.result in
    let below = c.nth_of.ensures.within in
    let at = members_at ws (place * 64 + r) (64 * place + r) (omega arith) in
    let e = members_word ws place r (omega arith) in
    omega (arith, at, e, c.nth_of.ensures.before, c.loop-number.invariant)

pub loop-number-preserved : goal.loop-number-preserved
loop-number-preserved c =
    let ws = c.args.words.now in
    let place = c.loop-number.number in
    let word = get_or ws place 0 in
    let at = members_at ws (64 * (place + 1)) (64 * place + 64) (omega arith) in
    let e = members_word ws place 64 (omega arith) in
    let o = members_ones word (c.type_inv.words place).fits in
    omega (arith, at, e, o, c.loop-number.invariant, c.if-left-ones.false)

pub unreachable-requires : goal.unreachable-requires
unreachable-requires c =
    let at = members_at c.args.words.now (64 * c.loop-number.number) (64 * length c.args.words.now) (omega arith) in
    omega (arith, at, c.loop-number.invariant, c.requires.some)
