use Rattle.std.proofs.Common.{◌≡◌, ℕ, true, false, cond, length, set, refl, sym, ◌∙◌, ap, arith}
use Rattle.std.proofs.lemmas.List.{with_items_is}
use Rattle.rank_set.specs.Words.{has, flags_of}
use Rattle.rank_set.proofs.Views.{rewritten, flags_written, room_for, set_count}
use Rattle.rank_set.proofs.RankSet.remove.Goals as goal

pub has_bit-requires : goal.has_bit-requires
has_bit-requires c =
    let s = c.self.inside in
    let lt = room_for s.words.items s.size c.args.rank c.args.self.now c.self.view_is c.requires in
    let e = ap length c.deref.ensures.value in
    let i = c.self.invariant.within in
    omega arith

pub overflow_sub-self : goal.overflow_sub-self
overflow_sub-self c =
    let s = c.self.inside in
    let lt = room_for s.words.items s.size c.args.rank c.args.self.now c.self.view_is c.requires in
    let there : has s.words.items c.args.rank ≡ true = ap (λ words. has words c.args.rank) (sym c.deref.ensures.value) ∙ sym c.if-has_bit.ensures in
    let some = set_count s.words.items s.size c.args.rank lt there in
    let i = c.self.invariant.count_is in
    omega arith

pub invariant_of-self : goal.invariant_of-self
invariant_of-self c =
    let s = c.self.inside in
    let lt = room_for s.words.items s.size c.args.rank c.args.self.now c.self.view_is c.requires in
    let there : has s.words.items c.args.rank ≡ true = ap (λ words. has words c.args.rank) (sym c.deref.ensures.value) ∙ sym c.if-has_bit.ensures in
    let one : cond {A = ℕ} (has s.words.items c.args.rank) 1 0 ≡ 1 = ap (λ b. cond b 1 0) there in
    let some = set_count s.words.items s.size c.args.rank lt there in
    let i = c.self.invariant.count_is in
    let same_words = ap length c.deref_mut.ensures.value in
    let same_summary = ap length c.deref_mut-then-has_bit.ensures.value in
    let words_is = with_items_is s.words c.clear_with_summary.new.words (omega arith) in
    let summary_is = with_items_is s.summary c.clear_with_summary.new.summary (omega arith) in
    rw (words_is, summary_is)
    (rewritten false c.self.invariant lt c.clear_with_summary.ensures.bit
    (λ k ne. c.clear_with_summary.ensures.other_bits k ne ∙ ap (λ words. has words k) c.deref_mut.ensures.value)
    (omega arith) (omega arith) c.clear_with_summary.ensures.summed (omega arith))

pub returns-then-has_bit : goal.returns-then-has_bit
returns-then-has_bit c =
    let s = c.self.inside in
    let lt = room_for s.words.items s.size c.args.rank c.args.self.now c.self.view_is c.requires in
    let same_words = ap length c.deref_mut.ensures.value in
    let words_is = with_items_is s.words c.clear_with_summary.new.words (omega arith) in
    ap (λ words. flags_of words s.size) words_is
    ∙ flags_written s.words.items c.clear_with_summary.new.words s.size c.args.rank false lt c.clear_with_summary.ensures.bit
    (λ k ne. c.clear_with_summary.ensures.other_bits k ne ∙ ap (λ words. has words k) c.deref_mut.ensures.value)
    ∙ ap (λ flags. set flags c.args.rank false) c.self.view_is

pub returns-else-has_bit : goal.returns-else-has_bit
returns-else-has_bit c =
    let s = c.self.inside in
    let lt = room_for s.words.items s.size c.args.rank c.args.self.now c.self.view_is c.requires in
    let clear : has s.words.items c.args.rank ≡ false = ap (λ words. has words c.args.rank) (sym c.deref.ensures.value) ∙ sym c.if-has_bit.ensures in
    rw (← c.self.view_is)
    (flags_written s.words.items s.words.items s.size c.args.rank false lt clear (λ k _. refl))
