-- What is seen of a simulator of a netlist.
-- Worked examples: crates/tests_rows/stdin.
use Rattle.rtl_flat.specs.Value.{store}
use Rattle.rtl_flat.specs.Flats.{Flat}
use Rattle.event_model.specs.Writes.{Values}
use Rattle.infer_regs.specs.net_list.declared.netlist.Netlist.{Netlist}
use Rattle.netlist_eval.specs.declared.sim.NetSim.{NetSim}
use Rattle.netlist_eval.specs.Netlists.{flat_in}

abbrev pub netlist_of : NetSim → Netlist
netlist_of sim = sim.netlist.now

-- the signals and processes of its design
abbrev pub flat_of : NetSim → Flat
flat_of sim = flat_in (netlist_of sim)

-- the number of each signal
abbrev pub shown : NetSim → Values
shown sim = store sim.maps.numbers.items
