use Rattle.std.proofs.Common.{◌≡◌, ◌∙◌, Bool, false, slice_index_or, List, ap}
use Rattle.netlist_eval.specs.Sims.{netlist_of}
use Rattle.netlist_eval.proofs.Stepping.{control_is}
use Rattle.netlist_eval.proofs.sim.NetSim.is_control.Goals as goal

pub returns : goal.returns
returns c =
    let s = c.args.self.now in
    let i = c.args.signal.0 in
    let same : c.is_marked.result ≡ slice_index_or s.controls.items i false =
    c.is_marked.ensures ∙ ap (λ (l : List Bool). slice_index_or l i false) c.deref.ensures.value in
    control_is (netlist_of s) s.order.items s.maps s.before.items s.after.items s.controls.items s.is_simulator i c.is_marked.result same
