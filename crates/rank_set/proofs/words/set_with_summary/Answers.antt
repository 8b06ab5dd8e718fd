use Rattle.std.proofs.Common.{◌/◌, sym, ◌∙◌}
use Rattle.rank_set.proofs.Views.{some_in_word, summed_again}
use Rattle.rank_set.proofs.words.set_with_summary.Goals as goal

pub returns-clause-summed : goal.returns-clause-summed
returns-clause-summed c =
    summed_again c.args.words.now c.set_bit.new.words c.args.summary.now c.set_bit-2.new.words (c.args.place / 64)
    c.requires.summed c.set_bit.ensures.other_words
    (c.set_bit-2.ensures.bit ∙ sym (some_in_word c.set_bit.new.words c.args.place c.set_bit.ensures.bit))
    c.set_bit-2.ensures.other_bits
