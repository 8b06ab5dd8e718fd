-- It serves inner contracts and proofs; no answer of the program is stated by it.
-- What is known on the way from the start on, and why nothing is told.
use Rattle.std.specs.Prelude.{◌≡◌, ℕ, Bool, List, [], length}
use Rattle.rtl_flat.specs.declared.design.Design.{Design}
use Rattle.rtl_flat.specs.Flats.{Flat, flat}
use Rattle.netlist_eval.specs.declared.basis.Basis.{Basis}
use Rattle.netlist_eval.specs.declared.sim.NetSim.{NetSim}
use Rattle.netlist_eval.specs.Basis.{IsBasisOf}
use Rattle.netlist_eval.specs.net_start.Stored.{places}
use Rattle.netlist_eval.specs.Sims.{netlist_of}
use Rattle.vcd_signals.specs.declared.recorder.Recorder.{Recorder}
use Rattle.vcd_signals.specs.Recording.{IsRecorder}
use Rattle.vcd_signals.specs.Signals.{Sight}
use Rattle.vcd_check.specs.declared.verdict.CompareFault.{CompareFault}
use Rattle.vcd_check.specs.declared.verdict.CompareFault.TheVariants.{MissingInput, MissingRegister, NoNetlist, NeverKnown, Unlawful, Memory}
use Rattle.vcd_check.specs.Checks.{AreMarks, IsNetlistOf}
use Rattle.vcd_check.specs.Departure.{Watched, from_start}
use Rattle.vcd_check.specs.Verdicts.{HasNetlist, IsUnlawful, LacksNetlist}

-- what is kept is that of one design
pub record IsChecked (design : Design) (basis : Basis) (stored : List Bool) (recorder : Recorder) (net : NetSim) : Type 0 where
  pub is_recorder : IsRecorder recorder
  pub design_is : recorder.design.now ≡ design
  pub basis_is : IsBasisOf (flat design) basis
  pub stored_are : AreMarks (length design.signals.items) (places basis.holders.items) stored
  pub netlist_is : IsNetlistOf design (netlist_of net)

-- why nothing is told by a netlist
abbrev pub IsToldFault : Flat → Watched → List Sight → CompareFault → Type 0
IsToldFault d watched sights (Unlawful time) = IsUnlawful d watched sights time
IsToldFault d watched sights Memory = Unit {0}
IsToldFault d watched sights (MissingInput signal) = ⊥
IsToldFault d watched sights (MissingRegister signal) = ⊥
IsToldFault d watched sights NoNetlist = ⊥
IsToldFault d watched sights NeverKnown = from_start watched sights ≡ []

-- why nothing is told by a design's netlist
abbrev pub IsTellFault : Flat → Watched → List Sight → CompareFault → Type 0
IsTellFault d watched sights NoNetlist = LacksNetlist d
IsTellFault d watched sights NeverKnown = HasNetlist d × (from_start watched sights ≡ [])
IsTellFault d watched sights (Unlawful time) = HasNetlist d × IsUnlawful d watched sights time
IsTellFault d watched sights Memory = Unit {0}
IsTellFault d watched sights (MissingInput signal) = ⊥
IsTellFault d watched sights (MissingRegister signal) = ⊥
