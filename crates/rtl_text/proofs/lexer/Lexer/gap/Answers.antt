use Rattle.rtl_text.proofs.Turns.{gap_within, gap_turn}
use Rattle.rtl_text.proofs.lexer.Lexer.gap.Goals as goal

pub skip-requires : goal.skip-requires
skip-requires c = gap_within _ _ c.requires.there c.requires.found

pub returns : goal.returns
returns c =
    gap_turn c.args.self.now.tokens.items c.skip.new.self.tokens.items c.args.self.now.at c.skip.new.self.at c.args.self.now.rest.now c.skip.new.self.rest.now c.args.size tt
    c.requires.there c.requires.found c.skip.ensures.tokens c.skip.ensures.at c.skip.ensures.rest
