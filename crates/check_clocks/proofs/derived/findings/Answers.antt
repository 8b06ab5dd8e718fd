use Rattle.std.proofs.Common.{◌≡◌, ◌∙◌, get_or, ap, sym, subst, arith}
use Rattle.rtl_flat.specs.Flats.{flat}
use Rattle.rtl_rule.specs.Sites.{AreFindings}
use Rattle.rtl_flat.specs.Process.{task}
use Rattle.check_gates.specs.check_chains.check_found.Gathered.{sites_below}
use Rattle.check_gates.proofs.check_chains_proofs.check_found_proofs.Sites.{all_below, next_below, none_below, task_at, task_count}
use Rattle.check_clocks.specs.Clocks.{IsDerivedClock, derived_clock_at, events_of}
use Rattle.check_clocks.specs.Roles.{AreRoles}
use Rattle.check_clocks.proofs.Derivations.{derived_gets}
use Rattle.check_clocks.proofs.derived.findings.Goals as goal

pub loop-process-init : goal.loop-process-init
loop-process-init c = λ tops roles.
    let d = flat c.args.design.now in
    subst (AreFindings (IsDerivedClock d) derived_clock_at (sites_below events_of d 0)) (sym c.new-found.ensures.items) (none_below (IsDerivedClock d) derived_clock_at events_of d)

pub loop-process-preserved : goal.loop-process-preserved
loop-process-preserved c = λ tops roles.
    let design = c.args.design.now in
    let d = flat design in
    let at = c.loop-process.process-index in
    let item = c.process-item.result in
    let read : item ≡ get_or design.processes.items at item = c.process-item.is ∙ ap (λ l. get_or l at item) c.deref-process-items.ensures.value in
    let there = task_at design at item (omega arith) read in
    let all = subst (λ n. AreRoles d n c.args.roles.now.clocks.items c.args.roles.now.resets.items) (sym (task_count design)) roles in
    next_below (IsDerivedClock d) derived_clock_at events_of d at (task item) c.loop-process.found.items c.push_process.new.found.items there (c.loop-process.invariant tops roles)
    (derived_gets d c.args.tops.now tops c.args.roles.now.clocks.items c.args.roles.now.resets.items all at (task item) c.loop-process.found.items c.push_process.new.found.items c.in_ok-push_process.ensures)

pub returns : goal.returns
returns c = λ tops roles.
    let design = c.args.design.now in
    let d = flat design in
    let count = task_count design in
    all_below (IsDerivedClock d) derived_clock_at events_of d c.loop-process.process-index c.loop-process.found.items (omega (arith, count)) (c.loop-process.invariant tops roles)
