use Rattle.std.proofs.Common.{◌∙◌, ◌++◌, ◌<◌, List, length, map, ap, subst, sym}
use Rattle.std.specs.List.{All}
use Rattle.rtl_flat.specs.declared.design.Design.{Design}
use Rattle.rtl_flat.specs.declared.expr.SigId.{SigId}
use Rattle.rtl_flat.specs.Flats.{flat}
use Rattle.net_model.specs.declared.fill.Fill.{Fill}
use Rattle.netlist_eval.specs.net_order.Order.{IsCyclic}
use Rattle.netlist_eval.specs.net_start.Stored.{places}
use Rattle.netlist_eval.specs.Basis.{IsBasisOf}
use Rattle.netlist_eval.specs.Netlists.{flat_in}
use Rattle.netlist_eval.specs.Steps.{IsFault}
use Rattle.demo_replay.specs.Setups.{first_value}
use Rattle.demo_replay.specs.Tables.{IsNetlistOf}
use Rattle.demo_replay.proofs.Running.{first_net}
use Rattle.demo_replay.proofs.Starting.{none_first_unknown, stored_inside, tops_inside}
use Rattle.demo_replay.proofs.run.netlist_at.Goals as goal

pub first_values-requires : goal.first_values-requires
first_values-requires c =
    let kept = c.args.setup.now in
    let d = flat kept.design.now in
    subst (All (λ (signal : SigId). signal.0 < length d.signals)) (sym c.deref.ensures.value) (stored_inside d kept.basis.holders.items c.requires.basis.holders)

pub first_values-requires-2 : goal.first_values-requires-2
first_values-requires-2 c =
    let kept = c.args.setup.now in
    let d = flat kept.design.now in
    subst (All (λ (signal : SigId). signal.0 < length d.signals)) (sym c.deref-2.ensures.value) (tops_inside d kept.basis.tops.items c.requires.basis.tops)

pub on-requires-clause-basis : goal.on-requires-clause-basis
on-requires-clause-basis c =
    let kept = c.args.setup.now in
    subst (λ (design : Design). IsBasisOf (flat design) kept.basis) (sym c.netlist-netlist.ensures.design_is) c.requires.basis

pub returns-in-Ok : goal.returns-in-Ok
returns-in-Ok c =
    let kept = c.args.setup.now in
    let trial = c.args.trial.number in
    let netlist = c.netlist-netlist.result.now in
    let firsts = λ (l : List SigId). map (first_value (flat kept.design.now) trial) (places l) in
    first_net kept trial c.in-Ok.net netlist c.deref-3.result.now c.deref-4.result.now
    (subst (λ (f : Fill). IsNetlistOf kept.design.now f netlist) c.fill.ensures c.netlist-netlist.ensures)
    c.in-Ok.ensures.netlist c.in-Ok.ensures.begun c.in-Ok.ensures.no_cycle
    (c.deref-3.ensures.value ∙ c.in_ok-registers.ensures.values ∙ ap firsts c.deref.ensures.value)
    (c.deref-4.ensures.value ∙ c.in_ok-inputs.ensures.values ∙ ap firsts c.deref-2.ensures.value)

pub unreachable-requires : goal.unreachable-requires
unreachable-requires c =
    let netlist = c.netlist-netlist.result.now in
    let cyclic = subst (IsFault (flat_in netlist) (c.deref-3.result.now ++ c.deref-4.result.now)) c.in-Err-Cyclic.field-0-is c.in-Err-Cyclic.ensures.fault in
    c.requires.basis.no_cycle c.in-Err-Cyclic.field-0-0.0 (subst (λ one. IsCyclic (flat one) c.in-Err-Cyclic.field-0-0.0) c.netlist-netlist.ensures.design_is cyclic.cyclic)

pub unreachable-requires-in-Err-NotKnown : goal.unreachable-requires-in-Err-NotKnown
unreachable-requires-in-Err-NotKnown c =
    let design = c.args.setup.now.design.now in
    let netlist = c.netlist-netlist.result.now in
    let unknown = subst (IsFault (flat_in netlist) (c.deref-3.result.now ++ c.deref-4.result.now)) c.in-Err-NotKnown.field-0-is c.in-Err-NotKnown.ensures.fault in
    none_first_unknown (flat design) c.args.trial.number (places c.deref.result.now) (places c.deref-2.result.now) c.deref-3.result.now c.deref-4.result.now c.in-Err-NotKnown.field-0-0
    (c.deref-3.ensures.value ∙ c.in_ok-registers.ensures.values) (c.deref-4.ensures.value ∙ c.in_ok-inputs.ensures.values) unknown.1
