use Rattle.std.proofs.Common.{◌∷◌, [], arith}
use Rattle.rank_set.proofs.Counts.{members_none, members_more, bit_set, bit_test, bit_below, members_at}
use Rattle.rank_set.proofs.words.nth_of.Goals as goal
use Rattle.rank_set.proofs.words.nth_of.Goals.{then-word-place-eq1+else-left-eq0, else-word-place-eq1}

pub loop-place-init : goal.loop-place-init
loop-place-init c = omega (arith, members_none (c.args.word ∷ []))

pub returns-then-left-eq0-clause-bit : goal.returns-then-left-eq0-clause-bit
returns-then-left-eq0-clause-bit c = bit_set c.args.word c.loop-place.place c.loop-place-test.true c.if-word-place-eq1.true

pub returns-then-left-eq0-clause-before : goal.returns-then-left-eq0-clause-before
returns-then-left-eq0-clause-before c = omega (arith, c.loop-place.invariant)

pub loop-place-preserved : goal.loop-place-preserved
loop-place-preserved c =
    let more = members_more (c.args.word ∷ []) c.loop-place.place in
    let test = bit_test c.args.word c.loop-place.place c.loop-place-test.true in
    elim c.if-word-place-eq1.branch [
      | then-word-place-eq1+else-left-eq0 w ↦ omega (arith, more, test, c.loop-place.invariant, w.if-word-place-eq1.true)
      | else-word-place-eq1 w ↦
          let low = bit_below c.args.word c.loop-place.place in
          omega (arith, more, test, low, c.loop-place.invariant, w.if-word-place-eq1.false)
    ]

pub unreachable-requires : goal.unreachable-requires
unreachable-requires c =
    let at = members_at (c.args.word ∷ []) c.loop-place.place 64 (omega arith) in
    omega (arith, at, c.loop-place.invariant, c.requires)
