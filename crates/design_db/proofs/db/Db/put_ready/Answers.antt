use Rattle.design_db.proofs.Whole.{is_put}
use Rattle.design_db.proofs.db.Db.put_ready.Goals as goal

pub invariant_of-self : goal.invariant_of-self
invariant_of-self c =
    is_put c.self.inside.files c.put_ready.new.self c.put.new.self c.self.inside.memo c.doubt.new.self c.args.ready.file c.as_slice.result.now
    c.as_slice.ensures c.put_ready.ensures.files c.requires.short c.self.invariant.store.in_order c.self.invariant.store.short
    c.put.ensures.right c.put.ensures.known c.put.ensures.flagged c.doubt.ensures.rulings c.doubt.ensures.absent c.self.invariant.store.rulings c.doubt.ensures.checked
