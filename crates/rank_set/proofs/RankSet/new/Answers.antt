use Rattle.std.proofs.Common.{rules, ap, ◌∙◌, ◌≡◌, replicate, ◌+◌, ◌/◌, ◌%◌, min, length, arith}
use Rattle.rank_set.proofs.Views.{fresh, flags_clear, clear_words}
use Rattle.rank_set.proofs.RankSet.new.Goals as goal

pub invariant_of-result : goal.invariant_of-result
invariant_of-result c =
    let words : c.in_ok-words.words.items ≡ replicate c.div_ceil.result 0 = c.in_ok-words.ensures.items_if_clones_equal (λ y e. search rules) in
    let summary : c.in_ok-summary.summary.items ≡ replicate c.div_ceil-2.result 0 = c.in_ok-summary.ensures.items_if_clones_equal (λ y e. search rules) in
    let len : c.len.result ≡ length c.in_ok-words.words.items = omega arith in
    fresh c.args.size c.in_ok-words.words.items c.in_ok-summary.summary.items c.ranges.size.fits
    (words ∙ ap (λ n. replicate n 0) c.div_ceil.ensures)
    (summary ∙ ap (λ n. replicate n 0) (c.div_ceil-2.ensures ∙ ap (λ n. n / 64 + min 1 (n % 64)) len))

pub returns : goal.returns
returns c =
    let words : c.in_ok-words.words.items ≡ replicate c.div_ceil.result 0 = c.in_ok-words.ensures.items_if_clones_equal (λ y e. search rules) in
    flags_clear c.in_ok-words.words.items c.args.size (clear_words c.in_ok-words.words.items c.div_ceil.result words)
