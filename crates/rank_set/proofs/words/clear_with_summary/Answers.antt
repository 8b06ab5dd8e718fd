use Rattle.std.proofs.Common.{◌/◌, ◌≢◌, get_or, refl, sym, ◌∙◌, arith}
use Rattle.std.proofs.lemmas.Bool.{lt-ltb}
use Rattle.rank_set.proofs.Views.{some_in_word, summed_again}
use Rattle.rank_set.proofs.words.clear_with_summary.Goals as goal

pub returns-else-words-place-eq0-clause-summed : goal.returns-else-words-place-eq0-clause-summed
returns-else-words-place-eq0-clause-summed c =
    let words = c.args.words.now in
    let place = c.args.place / 64 in
    let left = c.clear_bit.new.words in
    let ne : get_or left place 0 ≢ 0 = c.if-words-place-eq0.false in
    summed_again words left c.args.summary.now c.args.summary.now place
    c.requires.summed c.clear_bit.ensures.other_words
    (c.requires.summed place ∙ some_in_word words c.args.place c.requires.some ∙ sym (lt-ltb 0 (get_or left place 0) (omega arith)))
    (λ w _. refl)
