use Rattle.std.proofs.Common.{sym}
use Rattle.rtl_text.proofs.Turns.{foreign_stops, number_stops, character_stops, word_stops, open_stops}
use Rattle.rtl_text.proofs.lexer.Lexer.step.Goals as goal

pub returns-in-NotAscii : goal.returns-in-NotAscii
returns-in-NotAscii c = foreign_stops c.args.self.now.tokens.items c.args.self.now.at c.args.self.now.rest.now c.requires c.args.self.now.few (sym c.in-NotAscii.ensures)

pub returns-in-BadNumber : goal.returns-in-BadNumber
returns-in-BadNumber c = number_stops c.args.self.now.tokens.items c.args.self.now.at c.args.self.now.rest.now c.requires c.args.self.now.few (sym c.in-BadNumber.ensures)

pub returns-in-BadCharacter : goal.returns-in-BadCharacter
returns-in-BadCharacter c = character_stops c.args.self.now.tokens.items c.args.self.now.at c.args.self.now.rest.now c.requires c.args.self.now.few (sym c.in-BadCharacter.ensures)

pub returns-in-LongWord : goal.returns-in-LongWord
returns-in-LongWord c = word_stops c.args.self.now.tokens.items c.args.self.now.at c.args.self.now.rest.now c.requires c.args.self.now.few (sym c.in-LongWord.ensures)

pub returns-in-OpenComment : goal.returns-in-OpenComment
returns-in-OpenComment c = open_stops c.args.self.now.tokens.items c.args.self.now.at c.args.self.now.rest.now c.requires c.args.self.now.few (sym c.in-OpenComment.ensures)
