use Rattle.std.proofs.Common.{◌≡◌, ◌∙◌, ◌<◌, List, length, sym, ap, subst}
use Rattle.rtl_bits.specs.declared.Bit.{Bit}
use Rattle.rtl_bits.specs.Bits.{has_unknown}
use Rattle.rtl_flat.specs.Value.{store}
use Rattle.net_turn.proofs.Steps.{read_is}
use Rattle.netlist_eval.specs.Sims.{netlist_of}
use Rattle.netlist_eval.proofs.Stepping.{able, same_width, there}
use Rattle.netlist_eval.proofs.sim.NetSim.value.Goals as goal

pub returns-clause-number : goal.returns-clause-number
returns-clause-number c =
    let s = c.args.self.now in
    let inside = there (netlist_of s) s.order.items s.maps s.before.items s.after.items s.controls.items s.is_simulator c.args.signal.0 c.requires.there in
    let e = c.numbers.ensures in
    subst (λ (l : List (List Bit)). c.index-numbers-signal.result ≡ store l c.args.signal.0) e
    (read_is c.numbers.result.now c.args.signal.0 c.index-numbers-signal.result (subst (λ (l : List (List Bit)). c.args.signal.0 < length l) (sym e) inside) c.index-numbers-signal.is)

pub returns-clause-known : goal.returns-clause-known
returns-clause-known c =
    let s = c.args.self.now in
    let can = able (netlist_of s) s.order.items s.maps s.before.items s.after.items s.controls.items s.is_simulator in
    ap has_unknown (returns-clause-number c) ∙ can.numbers.known c.args.signal.0

pub returns-clause-width : goal.returns-clause-width
returns-clause-width c =
    let s = c.args.self.now in
    ap (λ (bits : List Bit). length bits) (returns-clause-number c)
    ∙ same_width (netlist_of s) s.order.items s.maps s.before.items s.after.items s.controls.items s.is_simulator c.args.signal.0
