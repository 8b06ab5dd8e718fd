use Rattle.std.proofs.Common.{◌≡◌, ◌++◌, drop, map}
use Rattle.netlist_eval.specs.Sims.{shown}
use Rattle.netlist_eval.specs.net_settle.Settle.{setting_view}
use Rattle.netlist_eval.specs.net_start.Stored.{places}
use Rattle.vcd_check.specs.Checks.{seen}
use Rattle.vcd_check.specs.Departure.{changed}
use Rattle.vcd_check.proofs.sight.changes.Given as goal

abbrev pub invariant-loop-input : goal.invariant-loop-input
invariant-loop-input l =
    map setting_view l.made.items ++ changed (shown l.net) (seen l.recorder) (places (drop l.input-index l.inputs))
    ≡ changed (shown l.net) (seen l.recorder) (places l.inputs)
