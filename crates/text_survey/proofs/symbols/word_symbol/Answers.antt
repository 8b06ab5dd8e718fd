use Rattle.std.proofs.Common.{◌∙◌, ap}
use Rattle.rtl_tree.specs.Symbols.{words, keywords, refused_words, lookup, word_symbol}
use Rattle.text_survey.proofs.Buckets.{found}
use Rattle.text_survey.proofs.symbols.word_symbol.Goals as goal

-- the table of the code is that of the definition, in buckets
pub returns : goal.returns
unfolding word_symbol words keywords refused_words
returns c = c.lookup_in.ensures ∙ found words c.unlisted.result c.args.word.now ∙ ap (λ other. lookup words other c.args.word.now) c.unlisted.ensures
