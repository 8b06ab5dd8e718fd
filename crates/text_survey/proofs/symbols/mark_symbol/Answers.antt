use Rattle.std.proofs.Common.{◌∙◌}
use Rattle.rtl_tree.specs.declared.symbol.Symbol.TheVariants.{Alien}
use Rattle.rtl_tree.specs.Symbols.{marks, mark_symbol}
use Rattle.text_survey.proofs.Buckets.{found}
use Rattle.text_survey.proofs.symbols.mark_symbol.Goals as goal

-- the table of the code is that of the definition, in buckets
pub returns : goal.returns
unfolding mark_symbol marks
returns c = c.lookup_in.ensures ∙ found marks Alien c.args.mark.now
