use Rattle.std.proofs.Common.{length, arith, ap, length-drop}
use Rattle.std.proofs.lemmas.Result.{err_from_is_err_and}
use Rattle.rtl_text.proofs.Turns.{star_within, star_turn, star_full}
use Rattle.rtl_text.proofs.lexer.Lexer.star.Goals as goal

pub returns-in_err-take : goal.returns-in_err-take
returns-in_err-take c =
    let p = err_from_is_err_and c.from_residual.result c.from_residual.ensures.1 in
    rw (p.1, p.2) (star_full c.args.self.now.tokens.items c.args.self.now.at c.args.self.now.rest.now c.in_err-take.field-0.0 c.requires.there c.args.self.now.few c.requires.found c.in_err-take.ensures.full)

pub take-requires-2 : goal.take-requires-2
take-requires-2 c =
    let two = star_within c.args.self.now.rest.now c.requires.there c.requires.found in
    omega (arith, two, ap length c.in_ok-take.ensures.rest, length-drop 1 c.args.self.now.rest.now)

pub returns : goal.returns
returns c =
    star_turn c.take-2.result c.args.self.now.tokens.items c.take.new.self.tokens.items c.take-2.new.self.tokens.items c.args.self.now.at c.take.new.self.at c.take-2.new.self.at
    c.args.self.now.rest.now c.take.new.self.rest.now c.take-2.new.self.rest.now c.requires.there c.args.self.now.few c.take.new.self.few c.requires.found
    c.in_ok-take.ensures.tokens c.in_ok-take.ensures.at c.in_ok-take.ensures.rest c.take-2.ensures.tokens c.take-2.ensures.at c.take-2.ensures.rest c.take-2.ensures.full
