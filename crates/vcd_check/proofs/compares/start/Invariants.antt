use Rattle.std.proofs.Common.{◌≡◌, drop}
use Rattle.vcd_signals.specs.Recording.{IsRecorder, IsSame, sights_of}
use Rattle.vcd_check.specs.Checks.{watched_of}
use Rattle.vcd_check.specs.Departure.{from_start}
use Rattle.vcd_check.proofs.compares.start.Given as goal

abbrev pub invariant-loop-frame : goal.invariant-loop-frame
invariant-loop-frame l = record {
  is_recorder : IsRecorder l.recorder;
  same : IsSame l.fn.recorder l.recorder;
  from : from_start (watched_of l.basis) (sights_of l.fn.recorder) ≡ from_start (watched_of l.basis) (drop l.frame (sights_of l.fn.recorder));
}
