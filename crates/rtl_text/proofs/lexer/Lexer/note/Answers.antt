use Rattle.rtl_text.proofs.Turns.{note_within, note_turn}
use Rattle.rtl_text.proofs.lexer.Lexer.note.Goals as goal

pub take-requires : goal.take-requires
take-requires c = note_within _ _ _ c.requires.there c.requires.found

pub returns : goal.returns
returns c =
    note_turn c.take.result c.args.self.now.tokens.items c.take.new.self.tokens.items c.args.self.now.at c.take.new.self.at c.args.self.now.rest.now c.take.new.self.rest.now c.args.pragma c.args.size
    c.requires.there c.args.self.now.few c.requires.found c.take.ensures.tokens c.take.ensures.at c.take.ensures.rest c.take.ensures.full
