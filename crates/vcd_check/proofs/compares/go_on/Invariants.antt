use Rattle.std.proofs.Common.{◌≡◌, ◌+◌, ◌-◌, ◌++◌, ◌∷◌, suc, List, drop, length}
use Rattle.std.specs.Prelude.{Some}
use Rattle.std.specs.List.{slice_get}
use Rattle.rtl_flat.specs.Flats.{flat}
use Rattle.netlist_eval.specs.Sims.{shown}
use Rattle.vcd_signals.specs.Recording.{IsAt, IsSame, sights_of}
use Rattle.vcd_signals.specs.Signals.{Sight}
use Rattle.vcd_check.specs.Checks.{watched_of}
use Rattle.vcd_check.specs.Departure.{Reaches}
use Rattle.vcd_check.specs.Telling.{IsChecked}
use Rattle.vcd_check.proofs.compares.go_on.Given as goal

abbrev pub invariant-frames : goal.invariant-frames
invariant-frames l = record {
  checked : IsChecked l.design l.basis l.stored l.recorder l.net;
  same : IsSame l.fn.recorder l.recorder;
  before : List Sight;
  sight : Sight;
  there : slice_get (sights_of l.fn.recorder) l.frame ≡ Some sight;
  at : IsAt l.recorder sight;
  reaches : Reaches (flat l.design) (watched_of l.basis) before sight (shown l.net);
  all : drop l.start (sights_of l.fn.recorder) ≡ before ++ sight ∷ drop (suc l.frame) (sights_of l.fn.recorder);
  count : l.frame ≡ length before + l.start;
}

abbrev pub decreases-frames : goal.decreases-frames
decreases-frames l = length (sights_of l.fn.recorder) - l.frame
