use Rattle.std.proofs.Common.{length}
use Rattle.rtl_tree.specs.Splits.{Upto}
use Rattle.rtl_text.proofs.lexer.lex.Given as goal

abbrev pub invariant-loop-lexer : goal.invariant-loop-lexer
invariant-loop-lexer l = Upto l.text l.lexer.tokens.items l.lexer.at l.lexer.rest.now

abbrev pub decreases-loop-lexer : goal.decreases-loop-lexer
decreases-loop-lexer l = length l.lexer.rest.now
