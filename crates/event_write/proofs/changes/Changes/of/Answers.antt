use Rattle.event_write.proofs.Places.{changes_are}
use Rattle.event_write.proofs.changes.Changes.of.Goals as goal

pub returns : goal.returns
returns c =
    changes_are c.args.old c.args.new c.requires _ _ _ _ c.val_digits-old_val.ensures c.unk_digits-old_unk.ensures c.val_digits-new_val.ensures c.unk_digits-new_unk.ensures
    _ _ _ _ c.without-was_zero.ensures c.without-is_zero.ensures c.without.ensures c.without-2.ensures
