use Rattle.std.proofs.Common.{◌∙◌, ℕ, List, length, map, sym, ap, arith}
use Rattle.std.proofs.lemmas.List.{length-map}
use Rattle.std.specs.Prelude.{IsTrue}
use Rattle.rtl_flat.specs.declared.expr.SigId.{SigId}
use Rattle.event_model.specs.Queue.{is_input}
use Rattle.rtl_flat.specs.Flats.{flat, widths}
use Rattle.net_start.specs.Stored.{IsStored, places}
use Rattle.net_start.proofs.Listed.{all_same}
use Rattle.net_start.proofs.Started.{as_many}
use Rattle.net_start.proofs.Unknowns.{left_known, right_known}
use Rattle.netlist_eval.proofs.Started.{filled}
use Rattle.netlist_eval.proofs.sim.NetSim.on.Goals as goal

pub first_unknown-requires : goal.first_unknown-requires
first_unknown-requires c =
    let design = c.args.netlist.now.design.now in
    let d = flat design in
    let held = c.requires.registers in
    let given = c.requires.inputs in
    let holders = c.args.basis.now.holders.items in
    let tops = c.args.basis.now.tops.items in
    let many = as_many (widths d) held.signals c.args.registers.now held.wide in
    let many_given = as_many (widths d) given.signals c.args.inputs.now given.wide in
    let same = ap (λ (l : List ℕ). length l) (all_same (IsStored d) held.signals (places holders) held.are c.requires.basis.holders) in
    let same_given = ap (λ (l : List ℕ). length l) (all_same (λ s. IsTrue (is_input d s)) given.signals (places tops) given.are c.requires.basis.tops) in
    let size = length-map holders (λ (signal : SigId). signal.0) in
    let size_given = length-map tops (λ (signal : SigId). signal.0) in
    let few = c.requires.basis.few in
    let few_given = c.requires.basis.few_tops in
    let limit = design.is_design.signal_limit in
    omega (arith, many, many_given, same, same_given, size, size_given, few, few_given, limit)

pub start-requires-clause-registers : goal.start-requires-clause-registers
start-requires-clause-registers c =
    let d = flat c.args.netlist.now.design.now in
    let held = c.requires.registers in
    held.wide
    ∙ ap (λ (l : List ℕ). map (widths d) l) (all_same (IsStored d) held.signals (places c.args.basis.now.holders.items) held.are c.requires.basis.holders ∙ ap places (sym c.deref.ensures.value))

pub start-requires-clause-inputs : goal.start-requires-clause-inputs
start-requires-clause-inputs c =
    let d = flat c.args.netlist.now.design.now in
    let given = c.requires.inputs in
    given.wide
    ∙ ap (λ (l : List ℕ). map (widths d) l)
    (all_same (λ s. IsTrue (is_input d s)) given.signals (places c.args.basis.now.tops.items) given.are c.requires.basis.tops ∙ ap places (sym c.deref-2.ensures.value))

pub start-requires-clause-registers_known : goal.start-requires-clause-registers_known
start-requires-clause-registers_known c =
    left_known c.args.registers.now c.args.inputs.now c.in_default.ensures

pub start-requires-clause-inputs_known : goal.start-requires-clause-inputs_known
start-requires-clause-inputs_known c =
    right_known c.args.registers.now c.args.inputs.now c.in_default.ensures

pub begin-requires-clause-filled : goal.begin-requires-clause-filled
begin-requires-clause-filled c =
    filled (flat c.args.netlist.now.design.now) c.args.netlist.now.fill (places c.deref.result.now) c.args.registers.now (places c.deref-2.result.now) c.args.inputs.now _ c.in_ok-numbers.ensures.start
