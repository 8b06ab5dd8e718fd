use Rattle.std.proofs.Common.{arith, sym, ◌∙◌}
use Rattle.text_build.proofs.Rows.{none_left}
use Rattle.text_build.proofs.ordinary.is_ordinary.Goals as goal

pub returns-then-left-eq0 : goal.returns-then-left-eq0
returns-then-left-eq0 c =
    sym (none_left c.args.tokens.now c.loop-token.token-index c.loop-token.left (omega (arith, c.if-left-eq0.true)) (omega (arith, c.loop-token-test.true)))
    ∙ c.loop-token.invariant
