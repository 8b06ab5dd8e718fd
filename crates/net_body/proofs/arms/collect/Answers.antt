use Rattle.std.proofs.Common.{◌≡◌, ◌∙◌, ℕ, [], length, get_or, ap, sym}
use mathlib.Core.Path.{fun_ext}
use Rattle.net_model.specs.Block.{fresh}
use Rattle.net_body.specs.Marks.{maps}
use Rattle.net_body.proofs.Seen.{same_maps}
use Rattle.net_body.proofs.Siding.{length_seen}
use Rattle.net_body.proofs.arms.collect.Goals as goal

pub returns-clause-maps : goal.returns-clause-maps
returns-clause-maps c = λ m arms are.
    let after = c.add.ensures.asides m arms are in
    same_maps (maps c.restore_numbers.new.numbers c.restore_marks.new.marks) (fresh m)
    (fun_ext (λ i. c.restore_numbers.ensures i ∙ after.now i))
    (fun_ext (λ i. c.restore_marks.ensures.next i ∙ fun_ext (after.next i)))
    (fun_ext c.restore_marks.ensures.wrote)
    (fun_ext c.restore_marks.ensures.late)

pub returns-clause-widths : goal.returns-clause-widths
returns-clause-widths c = λ i.
    ap length (c.restore_numbers.ensures i) ∙ length_seen (λ aside. aside.number) c.add.new.asides i
    ∙ sym (c.add.ensures.sums.number i) ∙ c.add.ensures.sums.next i ∙ sym (c.restore_marks.ensures.widths i)

pub returns-clause-sums : goal.returns-clause-sums
returns-clause-sums c =
    let sums = c.add.ensures.sums in
    let same : (i : ℕ) → length (get_or c.restore_numbers.new.numbers i []) ≡ length (get_or c.args.numbers.now i [])
    = λ i. ap length (c.restore_numbers.ensures i) ∙ length_seen (λ aside. aside.number) c.add.new.asides i ∙ sym (sums.number i) in
    record {
      number = λ i. same i ∙ sums.number i;
      next = λ i. same i ∙ sums.next i;
      sum = λ i. same i ∙ sums.sum i;
    }
