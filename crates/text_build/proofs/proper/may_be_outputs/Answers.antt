use Rattle.std.proofs.Common.{◌∙◌, ◌-◌, sym, arith}
use Rattle.text_build.proofs.Rows.{last_left, no_output, an_output}
use Rattle.text_build.proofs.proper.may_be_outputs.Goals as goal

pub returns-then-not-is_named : goal.returns-then-not-is_named
returns-then-not-is_named c =
    sym (no_output c.args.terminals.now c.loop-index.index c.index-terminals-index.result (omega arith) (omega arith) c.index-terminals-index.is (sym c.is_named.ensures ∙ c.if-not-is_named.true)) ∙ c.loop-index.invariant

pub loop-index-preserved : goal.loop-index-preserved
loop-index-preserved c =
    an_output c.args.terminals.now c.loop-index.index c.index-terminals-index.result (omega arith) (omega arith) c.index-terminals-index.is (sym c.is_named.ensures ∙ c.if-not-is_named.false) ∙ c.loop-index.invariant

pub returns : goal.returns
returns c = sym (last_left c.args.terminals.now (c.loop-index.index - 1) (omega arith)) ∙ c.loop-index.invariant
