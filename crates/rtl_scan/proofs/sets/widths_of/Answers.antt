use Rattle.std.proofs.Common.{ℕ, ◌≤◌, subst, sym, List}
use Rattle.rtl_flat.specs.declared.signal.Signal.{Signal}
use Rattle.rtl_flat.specs.Signs.{width_in}
use Rattle.rtl_scan.proofs.Processes.{widths_fit}
use Rattle.rtl_scan.proofs.sets.widths_of.Goals as goal

pub invariant_of-result : goal.invariant_of-result
invariant_of-result c = record {
  at_most = subst (λ (ss : List Signal). (i : ℕ) → width_in ss i ≤ 128) (sym c.deref.ensures.value) (widths_fit c.args.d.now.instances.items c.args.d.now.signals.items c.args.d.now.is_design.each_signal);
}
