use Rattle.std.proofs.Common.{◌≤◌, ◌∙◌, ◌||◌, List, length, sym, ap, subst, arith}
use Rattle.rtl_rule.specs.declared.finding.Finding.{Finding}
use Rattle.rtl_rule.specs.Parts.{written}
use Rattle.rtl_flat.specs.Flats.{flat}
use Rattle.rtl_rule.specs.Sites.{AreFindings}
use Rattle.check_loops.specs.check_found.Gathered.{signal_numbers, sites_below}
use Rattle.check_loops.proofs.check_found_proofs.Sites.{all_below, next_below, none_below, task_count}
use Rattle.check_assign.specs.Assigned.{IsSeveralDrivers, several_drivers_at}
use Rattle.check_assign.proofs.Turns.{below_all, lower_is, lower_next, lower_none, task_of}
use Rattle.check_assign.proofs.drivers.Drivers.of.Goals as goal

pub loop-number-init : goal.loop-number-init
loop-number-init c =
    let d = flat c.args.scans.now.design.now in (
      subst (λ (fs : List Finding). AreFindings (IsSeveralDrivers d) several_drivers_at (sites_below (signal_numbers d) d 0) fs) (sym c.new-several.ensures.items) (none_below (IsSeveralDrivers d) several_drivers_at (signal_numbers d) d),
      λ s k. c.new-lower.ensures s k ∙ sym (lower_none d s k),
    )

pub loop-number-preserved : goal.loop-number-preserved
loop-number-preserved c =
    let d = flat c.args.scans.now.design.now in
    let n = c.loop-number.number in
    let (one, there) = task_of c.args.scans.now.design.now n (omega arith) in (
      next_below (IsSeveralDrivers d) several_drivers_at (signal_numbers d) d n one c.loop-number.several.items c.push_shared.new.found.items there c.loop-number.invariant.0 (c.in_ok-push_shared.ensures.found one there),
      λ s k. c.in_ok-push_shared.ensures.lower one there s k ∙ ap (λ t. t || written d one.does s k) (c.loop-number.invariant.1 s k) ∙ sym (lower_next d n one there s k),
    )

pub returns-clause-several : goal.returns-clause-several
returns-clause-several c =
    let d = flat c.args.scans.now.design.now in
    let count = task_count c.args.scans.now.design.now in
    let past : length d.tasks ≤ c.loop-number.number = omega arith in
    all_below (IsSeveralDrivers d) several_drivers_at (signal_numbers d) d c.loop-number.number c.loop-number.several.items past c.loop-number.invariant.0

pub returns-clause-driven : goal.returns-clause-driven
returns-clause-driven c = λ s k.
    let d = flat c.args.scans.now.design.now in
    let count = task_count c.args.scans.now.design.now in
    let past : length d.tasks ≤ c.loop-number.number = omega arith in
    c.loop-number.invariant.1 s k ∙ lower_is d c.loop-number.number s k ∙ below_all d c.loop-number.number past s k
