use Rattle.std.proofs.Common.{◌≡◌, ◌∙◌, ◌++◌, ℕ, List, map, ap, subst, sym}
use Rattle.rtl_bits.specs.declared.Bit.{Bit}
use Rattle.rtl_flat.specs.declared.design.Design.{Design}
use Rattle.rtl_flat.specs.declared.expr.SigId.{SigId}
use Rattle.rtl_flat.specs.Flats.{flat}
use Rattle.net_model.specs.declared.fill.Fill.{Fill}
use Rattle.net_model.specs.declared.fill.Fill.TheVariants.{Zero as ZeroFill}
use Rattle.netlist_eval.specs.net_list.Chosen.{chains_of}
use Rattle.netlist_eval.specs.net_order.Order.{IsCyclic}
use Rattle.netlist_eval.specs.net_start.Stored.{places}
use Rattle.netlist_eval.specs.Netlists.{flat_in}
use Rattle.netlist_eval.specs.Sims.{shown}
use Rattle.netlist_eval.specs.Steps.{IsBegun, IsFault}
use Rattle.vcd_signals.specs.Recording.{flat_of, kept}
use Rattle.vcd_check.specs.Departure.{or_none}
use Rattle.vcd_check.proofs.Beginning.{none_unknown}
use Rattle.vcd_check.proofs.compares.begin.Goals as goal

pub returns-in-Ok-clause-first : goal.returns-in-Ok-clause-first
returns-in-Ok-clause-first c =
    let recorder = c.args.recorder.now in
    let design = recorder.design.now in
    let netlist = c.args.netlist.now in
    let basis = c.args.basis.now in
    let n = shown c.in-Ok.net in
    let value = λ (i : ℕ). or_none (kept recorder i) in
    let registers : c.deref-3.result.now ≡ map value (places basis.holders.items) =
    c.deref-3.ensures.value ∙ c.in_ok-registers.ensures.values ∙ ap (λ (l : List SigId). map value (places l)) c.deref.ensures.value in
    let inputs : c.deref-4.result.now ≡ map value (places basis.tops.items) =
    c.deref-4.ensures.value ∙ c.in_ok-inputs.ensures.values ∙ ap (λ (l : List SigId). map value (places l)) c.deref-2.ensures.value in
    let over = subst (λ (f : Fill). IsBegun (flat design) (chains_of (flat design)) f c.deref-3.result.now c.deref-4.result.now n) c.requires.netlist.fill_is
    (subst (λ (one : Design). IsBegun (flat one) (chains_of (flat one)) netlist.fill c.deref-3.result.now c.deref-4.result.now n) c.requires.netlist.design_is c.in-Ok.ensures.begun) in
    subst (λ (all : List (List Bit)). IsBegun (flat design) (chains_of (flat design)) ZeroFill all (map value (places basis.tops.items)) n) registers
    (subst (λ (all : List (List Bit)). IsBegun (flat design) (chains_of (flat design)) ZeroFill c.deref-3.result.now all n) inputs over)

pub unreachable-requires : goal.unreachable-requires
unreachable-requires c =
    let netlist = c.args.netlist.now in
    let cyclic = subst (IsFault (flat_in netlist) (c.deref-3.result.now ++ c.deref-4.result.now)) c.in-Err-Cyclic.field-0-is c.in-Err-Cyclic.ensures.fault in
    c.requires.basis.no_cycle c.in-Err-Cyclic.field-0-0.0 (subst (λ (one : Design). IsCyclic (flat one) c.in-Err-Cyclic.field-0-0.0) c.requires.netlist.design_is cyclic.cyclic)

pub unreachable-requires-in-Err-NotKnown : goal.unreachable-requires-in-Err-NotKnown
unreachable-requires-in-Err-NotKnown c =
    let recorder = c.args.recorder.now in
    let netlist = c.args.netlist.now in
    let basis = c.args.basis.now in
    let value = λ (i : ℕ). or_none (kept recorder i) in
    let unknown = subst (IsFault (flat_in netlist) (c.deref-3.result.now ++ c.deref-4.result.now)) c.in-Err-NotKnown.field-0-is c.in-Err-NotKnown.ensures.fault in
    none_unknown (λ (i : ℕ). kept recorder i) (places basis.holders.items) (places basis.tops.items) c.deref-3.result.now c.deref-4.result.now c.in-Err-NotKnown.field-0-0
    c.requires.stored c.requires.known
    (c.deref-3.ensures.value ∙ c.in_ok-registers.ensures.values ∙ ap (λ (l : List SigId). map value (places l)) c.deref.ensures.value)
    (c.deref-4.ensures.value ∙ c.in_ok-inputs.ensures.values ∙ ap (λ (l : List SigId). map value (places l)) c.deref-2.ensures.value)
    unknown.1
