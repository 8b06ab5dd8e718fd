use Rattle.std.proofs.Common.{not}
use Rattle.vcd_signals.specs.Recording.{flat_of, text_of}
use Rattle.vcd_signals.specs.Signals.{is_recorded}
use Rattle.vcd_check.specs.Checks.{AreNone, is_marked}
use Rattle.vcd_check.proofs.sight.first_missing.Given as goal

abbrev pub invariant-loop-number : goal.invariant-loop-number
invariant-loop-number l =
    AreNone (is_marked l.marks) (λ i. not (is_recorded (flat_of l.recorder) l.recorder.scope.now (text_of l.recorder) i)) l.number
