-- It serves inner contracts and proofs; no answer of the program is stated by it.
-- The design of a netlist.
use Rattle.std.specs.Prelude.{ℕ}
use Rattle.rtl_flat.specs.Flats.{flat, Flat}
use Rattle.net_model.specs.Cycle.{Chain}
use Rattle.infer_regs.specs.net_list.declared.netlist.Netlist.{Netlist}
use Rattle.infer_regs.specs.net_list.Chosen.{chains_of}

-- its signals and processes
abbrev pub flat_in : Netlist → Flat
flat_in netlist = flat netlist.design.now

-- the chains of resets of its processes
abbrev pub chains_in : Netlist → ℕ → Chain
chains_in netlist = chains_of (flat netlist.design.now)
