use Rattle.std.proofs.Common.{◌∙◌, ap}
use Rattle.std.specs.List.{prefix_len}
use Rattle.rtl_tree.specs.Lexemes.{is_ascii}
use Rattle.std.proofs.lemmas.Result.{err_from_is_err_and}
use Rattle.rtl_text.proofs.Turns.{token_within, token_turn, token_full, token_strays}
use Rattle.rtl_text.proofs.lexer.Lexer.token.Goals as goal

pub take-requires : goal.take-requires
take-requires c = token_within _ _ _ c.requires.there c.requires.found

pub returns-in_err-take : goal.returns-in_err-take
returns-in_err-take c =
    let p = err_from_is_err_and c.from_residual.result c.from_residual.ensures.1 in
    rw (p.1, p.2) (token_full c.args.self.now.tokens.items c.args.self.now.at c.args.self.now.rest.now c.args.kind c.args.size c.in_err-take.field-0.0 c.requires.there c.args.self.now.few c.requires.found c.in_err-take.ensures.full)

pub returns-then-good-size : goal.returns-then-good-size
returns-then-good-size c =
    token_strays c.args.self.now.tokens.items c.take.new.self.tokens.items c.args.self.now.at c.args.self.now.rest.now c.args.kind c.args.size c.ascii_len-good.result c.requires.there c.args.self.now.few c.take.new.self.few c.requires.found
    c.in_ok-take.ensures.tokens (c.ascii_len-good.ensures.value ∙ ap (λ xs. prefix_len is_ascii xs) c.take-2.ensures) c.if-good-size.true

pub returns : goal.returns
returns c =
    token_turn c.args.self.now.tokens.items c.take.new.self.tokens.items c.args.self.now.at c.take.new.self.at c.args.self.now.rest.now c.take.new.self.rest.now c.args.kind c.args.size c.ascii_len-good.result tt c.requires.there c.requires.found
    c.in_ok-take.ensures.tokens c.in_ok-take.ensures.at c.in_ok-take.ensures.rest (c.ascii_len-good.ensures.value ∙ ap (λ xs. prefix_len is_ascii xs) c.take-2.ensures) c.if-good-size.false
