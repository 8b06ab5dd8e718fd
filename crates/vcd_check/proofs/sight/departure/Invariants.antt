use Rattle.rtl_flat.specs.Flats.{flat}
use Rattle.netlist_eval.specs.Sims.{shown}
use Rattle.vcd_signals.specs.Recording.{kept}
use Rattle.vcd_check.specs.Checks.{AreNone, differs_from, is_compared}
use Rattle.vcd_check.proofs.sight.departure.Given as goal

abbrev pub invariant-loop-number : goal.invariant-loop-number
invariant-loop-number l =
    AreNone (is_compared (flat l.design) l.stored) (λ i. differs_from (kept l.recorder i) (shown l.net i)) l.number
