use Rattle.net_body.proofs.Merging.{merged_bits, picked_at}
use Rattle.net_body.proofs.bits.merged.Goals as goal

pub returns-clause-bits : goal.returns-clause-bits
returns-clause-bits c =
    merged_bits c.args.mask c.args.new c.args.old c.of_digits.result c.width.result c.merged_digits-val.result c.merged_digits-unk.result
    c.val_digits.result c.unk_digits.result c.val_digits-2.result c.unk_digits-2.result
    c.requires c.width.ensures.exact c.of_digits.ensures.bits c.merged_digits-val.ensures c.merged_digits-unk.ensures
    c.val_digits.ensures c.unk_digits.ensures c.val_digits-2.ensures c.unk_digits-2.ensures

pub returns-clause-at : goal.returns-clause-at
returns-clause-at c = λ k.
    picked_at c.args.mask c.args.new c.args.old c.of_digits.result k c.requires
    (merged_bits c.args.mask c.args.new c.args.old c.of_digits.result c.width.result c.merged_digits-val.result c.merged_digits-unk.result
    c.val_digits.result c.unk_digits.result c.val_digits-2.result c.unk_digits-2.result
    c.requires c.width.ensures.exact c.of_digits.ensures.bits c.merged_digits-val.ensures c.merged_digits-unk.ensures
    c.val_digits.ensures c.unk_digits.ensures c.val_digits-2.ensures c.unk_digits-2.ensures)
