use Rattle.std.proofs.Common.{◌≡◌, ◌∙◌, ◌<◌, List, length, ap, arith}
use Rattle.rtl_flat.specs.declared.signal.Signal.{Signal}
use Rattle.rtl_flat.specs.Signs.{width_in}
use Rattle.event_write.proofs.Targets.{some_bits}
use Rattle.event_write.proofs.rtl_scan_proofs.Processes.{widths_fit}
use Rattle.tests_netlists.proofs.width.Goals as goal

pub returns-clause-width : goal.returns-clause-width
returns-clause-width c =
    c.width_of.ensures ∙ ap (λ (all : List Signal). width_in all c.args.signal.0) c.deref.ensures.value

pub returns-clause-within : goal.returns-clause-within
returns-clause-within c =
    let design = c.args.design.now in
    let signals = design.signals.items in
    let n = c.args.signal.0 in
    let inside : n < length signals = omega arith in
    let is : c.width_of.result ≡ width_in signals n = returns-clause-width c in
    let some = some_bits design.instances.items signals design.is_design.each_signal n inside in
    let most = widths_fit design.instances.items signals design.is_design.each_signal n in
    (omega (arith, is, some), omega (arith, is, most))
