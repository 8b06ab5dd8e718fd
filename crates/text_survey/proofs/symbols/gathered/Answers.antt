use Rattle.std.proofs.Common.{◌+◌, ◌∙◌, sym, ap, map, drop}
use Rattle.std.proofs.lemmas.List.{drop_all}
use Rattle.rtl_tree.specs.Symbols.{terminal, seen}
use Rattle.text_survey.specs.Terminals.{joined}
use Rattle.text_survey.proofs.Pragmas.{joined_end, seen_at}
use Rattle.text_survey.proofs.symbols.gathered.Goals as goal

pub loop-token-preserved : goal.loop-token-preserved
loop-token-preserved c =
    c.in_ok-add.ensures (seen c.args.text.now (drop (c.loop-token.token-index + 1) c.args.tokens.now))
    ∙ ap (λ s. joined (map terminal c.loop-token.terminals.items) s) (sym (seen_at c.args.text.now c.args.tokens.now c.loop-token.token-index _ c.loop-token-test.true))
    ∙ c.loop-token.invariant

pub returns : goal.returns
returns c =
    sym (joined_end (map terminal c.loop-token.terminals.items) c.args.text.now)
    ∙ ap (λ ts. joined (map terminal c.loop-token.terminals.items) (seen c.args.text.now ts)) (sym (drop_all c.loop-token.token-index c.args.tokens.now c.loop-token-test.false))
    ∙ c.loop-token.invariant
