use Rattle.std.proofs.Common.{ℕ, ◌≡◌, ◌+◌, map, length, sym, subst, arith, List}
use Rattle.rtl_flat.specs.Signs.{width_in}
use Rattle.rtl_flat.specs.Process.{task}
use Rattle.rtl_scan.specs.declared.usages.Usage.{Usage}
use Rattle.rtl_scan.specs.Usage.{AreUsages, IsNotedIn}
use Rattle.rtl_scan.proofs.Processes.{task_at}
use Rattle.rtl_scan.proofs.Users.{usages_more, written_back}
use Rattle.rtl_scan.proofs.usages.usages_of.Goals as goal

pub loop-number-preserved : goal.loop-number-preserved
loop-number-preserved c =
    let n = c.loop-number.number in
    let old = c.loop-number.usages.items in
    let new = c.note.new.usages in
    let processes = c.args.processes.now in
    let signals = c.args.widths.signals.now in
    let one = c.index-processes-number.result in
    let is_noted : IsNotedIn (width_in signals) (task one) n old new
    = subst (λ (us : List Usage). IsNotedIn (width_in signals) (task one) n us new) c.deref_mut.ensures.value c.in_ok-note.ensures.noted in
    subst (λ (us : List Usage). AreUsages signals (map task processes) (n + 1) us) (sym (written_back old new c.loop-number.usages.len is_noted.same_length c.loop-number.usages.ok.0))
    (usages_more signals (map task processes) n (task one) (task_at processes n one c.loop-number-test.true c.index-processes-number.is) old new c.loop-number.invariant is_noted)

pub returns : goal.returns
returns c =
    let processes = c.args.processes.now in
    subst (λ (n : ℕ). AreUsages c.args.widths.signals.now (map task processes) n c.loop-number.usages.items) (let e : c.loop-number.number ≡ length processes = omega arith in e) c.loop-number.invariant
