use Rattle.event_write.proofs.Places.{left_digits}
use Rattle.event_write.proofs.changes.without.Goals as goal

pub returns : goal.returns
returns c = λ k. left_digits c.args.digits c.args.others k
