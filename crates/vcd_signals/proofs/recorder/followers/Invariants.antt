use Rattle.vcd_signals.specs.Recording.{AreFollowed}
use Rattle.vcd_signals.proofs.recorder.followers.Given as goal

abbrev pub invariant-loop-number : goal.invariant-loop-number
invariant-loop-number l = AreFollowed l.table.items l.codes l.number
