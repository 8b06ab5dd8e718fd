use Rattle.std.proofs.Common.{◌∙◌, List, ap, arith}
use Rattle.std.specs.Prelude.{sum_by}
use Rattle.rtl_flat.specs.declared.signal.Signal.{Signal}
use Rattle.event_model.specs.Policies.{one_if}
use Rattle.event_model.specs.Queue.{is_input_kind}
use Rattle.event_queue.proofs.Fewness.{few_budget, few_inputs}
use Rattle.event_queue.proofs.costs.budget_of.Goals as goal

pub overflow_add-result : goal.overflow_add-result
overflow_add-result c =
    let size = c.len-processes.ensures in
    let fits = c.args.design.now.processes.ok.0 in
    let all = few_budget c.args.design.now c.args.costs.now c.len-processes.result 0 c.requires (omega (arith, size, fits)) (omega arith) in
    omega (arith, all)

pub overflow_add-result-2 : goal.overflow_add-result-2
overflow_add-result-2 c =
    let size = c.len-processes.ensures in
    let fits = c.args.design.now.processes.ok.0 in
    let inputs = c.inputs_of.ensures ∙ ap (λ (ss : List Signal). sum_by (λ signal. one_if (is_input_kind signal.kind)) ss) c.deref.ensures.value in
    let few = few_inputs c.args.design.now.signals.items c.args.design.now.is_design.signal_limit in
    let all = few_budget c.args.design.now c.args.costs.now c.len-processes.result c.inputs_of.result c.requires (omega (arith, size, fits)) (omega (arith, inputs, few)) in
    omega (arith, all)

pub overflow_add-result-3 : goal.overflow_add-result-3
overflow_add-result-3 c =
    let size = c.len-processes.ensures in
    let fits = c.args.design.now.processes.ok.0 in
    let inputs = c.inputs_of.ensures ∙ ap (λ (ss : List Signal). sum_by (λ signal. one_if (is_input_kind signal.kind)) ss) c.deref.ensures.value in
    let few = few_inputs c.args.design.now.signals.items c.args.design.now.is_design.signal_limit in
    let all = few_budget c.args.design.now c.args.costs.now c.len-processes.result c.inputs_of.result c.requires (omega (arith, size, fits)) (omega (arith, inputs, few)) in
    omega (arith, all)

pub returns-clause-at_most : goal.returns-clause-at_most
returns-clause-at_most c =
    let size = c.len-processes.ensures in
    let fits = c.args.design.now.processes.ok.0 in
    let inputs = c.inputs_of.ensures ∙ ap (λ (ss : List Signal). sum_by (λ signal. one_if (is_input_kind signal.kind)) ss) c.deref.ensures.value in
    let few = few_inputs c.args.design.now.signals.items c.args.design.now.is_design.signal_limit in
    few_budget c.args.design.now c.args.costs.now c.len-processes.result c.inputs_of.result c.requires (omega (arith, size, fits)) (omega (arith, inputs, few))
