use Rattle.std.proofs.Common.{◌∙◌, ◌&&◌, not, cond, length, get_or, ap, sym}
use mathlib.Core.Path.{fun_ext}
use Rattle.rtl_bits.specs.declared.Bit.TheVariants.{X}
use Rattle.rtl_bits.specs.Inside.{length-tabulate}
use Rattle.net_model.specs.Block.{arm_bits, arms_late, arms_write, joined_arms}
use Rattle.net_body.specs.Marks.{maps}
use Rattle.net_body.proofs.Seen.{same_maps}
use Rattle.net_body.proofs.Siding.{length_seen}
use Rattle.net_body.proofs.arms.join.Goals as goal

pub returns-clause-maps : goal.returns-clause-maps
returns-clause-maps c = λ m arms are bounded.
    same_maps (maps c.join_numbers.new.numbers c.join_marks.new.marks) (joined_arms m arms)
    (fun_ext (c.join_numbers.ensures m arms are))
    (fun_ext (λ i. fun_ext (c.join_marks.ensures.next m arms are bounded i)))
    (fun_ext (λ i. fun_ext (c.join_marks.ensures.wrote m arms are i)))
    (fun_ext (λ i. fun_ext (c.join_marks.ensures.late m arms are i)))

pub returns-clause-widths : goal.returns-clause-widths
returns-clause-widths c = λ m arms are i.
    ap length (c.join_numbers.ensures m arms are i)
    ∙ length-tabulate (length (m.now i)) (λ k. cond (arms_write arms i k && not (arms_late arms i k)) (arm_bits arms i k) (get_or (m.now i) k X))
    ∙ sym (ap length (are.now i)) ∙ length_seen (λ aside. aside.number) c.args.asides.now i ∙ sym (c.requires.same.number i)
    ∙ c.join_marks.ensures.widths i
