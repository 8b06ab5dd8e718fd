use Rattle.design_db.proofs.Whole.{is_dropped}
use Rattle.design_db.proofs.db.Db.drop_file.Goals as goal

pub invariant_of-self : goal.invariant_of-self
invariant_of-self c =
    is_dropped c.self.inside.files c.drop_file-2.new.self c.drop_file.new.self c.self.inside.memo c.doubt.new.self c.as_bytes-name.result.now c.as_slice.result.now
    c.as_slice.ensures c.drop_file-2.ensures.files c.self.invariant.store.in_order c.self.invariant.store.short
    c.drop_file.ensures.right c.drop_file.ensures.known c.drop_file.ensures.flagged c.doubt.ensures.rulings c.doubt.ensures.absent c.self.invariant.store.rulings c.doubt.ensures.checked
