use Rattle.std.proofs.Common.{sym, ◌∙◌, arith}
use Rattle.rtl_tree.specs.declared.token.Tok.TheVariants.{Word}
use Rattle.rtl_prep.proofs.Lines.{line_ends, line_stops, line_goes}
use Rattle.rtl_prep.proofs.directive.line_len.Goals as goal

pub returns-then-not-same_line-clause-value : goal.returns-then-not-same_line-clause-value
returns-then-not-same_line-clause-value c =
    omega (arith, c.loop-count.invariant, line_stops c.args.text.now c.loop-count.last c.args.rest.now c.loop-count.count (record { kind = Word; from = 0; to = 0; at = 0 }) (omega arith) (sym c.same_line.ensures ∙ c.if-not-same_line.true))

pub loop-count-preserved : goal.loop-count-preserved
loop-count-preserved c =
    omega (arith, c.loop-count.invariant, line_goes c.args.text.now c.loop-count.last c.args.rest.now c.loop-count.count (record { kind = Word; from = 0; to = 0; at = 0 }) (omega arith) (sym c.same_line.ensures ∙ c.if-not-same_line.false))

pub returns-clause-value : goal.returns-clause-value
returns-clause-value c = omega (arith, c.loop-count.invariant, line_ends c.args.text.now c.loop-count.last c.args.rest.now c.loop-count.count (omega arith))
