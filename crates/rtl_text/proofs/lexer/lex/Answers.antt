use Rattle.rtl_text.proofs.Turns.{begins, splits_at_end}
use Rattle.std.proofs.Common.{Ok}
use Rattle.std.proofs.lemmas.Result.{err_from_is_err_and}
use Rattle.rtl_text.proofs.Unique.{one_answer, says_fault}
use Rattle.rtl_text.proofs.lexer.lex.Goals as goal

pub loop-lexer-init : goal.loop-lexer-init
loop-lexer-init c = begins c.args.text.now _ c.new.ensures.items

pub returns-clause-tokens : goal.returns-clause-tokens
returns-clause-tokens c =
    splits_at_end c.args.text.now c.loop-lexer.lexer.tokens.items c.from_vec.result c.loop-lexer.lexer.at c.loop-lexer.lexer.rest.now
    c.from_vec.ensures c.loop-lexer.invariant c.loop-lexer.lexer.few c.loop-lexer-test.ensures

pub returns-in_err-step-clause-only : goal.returns-in_err-step-clause-only
returns-in_err-step-clause-only c =
    let p = err_from_is_err_and c.from_residual.result c.from_residual.ensures.1 in
    rw (p.1, p.2) (says_fault c.args.text.now c.in_err-step.field-0.0 (c.in_err-step.ensures c.args.text.now c.loop-lexer.invariant))

pub returns-clause-only : goal.returns-clause-only
returns-clause-only c answer h = one_answer c.args.text.now (Ok c.from_vec.result) answer (returns-clause-tokens c) h
