use Rattle.std.proofs.Common.{◌≡◌, ◌∙◌, false, length, get_or, replicate, ap, subst, arith, rules}
use Rattle.rtl_flat.specs.Flats.{flat}
use Rattle.rtl_flat.specs.Process.{task}
use Rattle.check_clocks.specs.Roles.{AreRoles}
use Rattle.check_clocks.proofs.Roled.{roles_noted, roles_none}
use Rattle.check_gates.proofs.check_chains_proofs.check_found_proofs.Sites.{task_at}
use Rattle.check_clocks.proofs.roles.roles_of.Goals as goal

pub loop-process-init : goal.loop-process-init
loop-process-init c = λ are.
    let d = flat c.args.design.now in
    let count : c.len-count.result ≡ length d.signals = c.len-count.ensures ∙ c.args.design.now.signals.ok.0 in
    let clocks : c.in_ok-vec.field-0.items ≡ replicate (length d.signals) false = c.in_ok-vec.ensures.items_if_clones_equal (λ y e. search rules) ∙ ap (λ n. replicate n false) count in
    let resets : c.in_ok-vec-2.field-0.items ≡ replicate (length d.signals) false = c.in_ok-vec-2.ensures.items_if_clones_equal (λ y e. search rules) ∙ ap (λ n. replicate n false) count in
    roles_none d c.args.tops.now are _ _ clocks resets

pub loop-process-preserved : goal.loop-process-preserved
loop-process-preserved c = λ are.
    let design = c.args.design.now in
    let d = flat design in
    let at = c.loop-process.process-index in
    let item = c.process-item.result in
    let read : item ≡ get_or design.processes.items at item = c.process-item.is ∙ ap (λ l. get_or l at item) c.deref-process-items.ensures.value in
    let there = task_at design at item (omega arith) read in
    roles_noted d c.args.tops.now are at (task item) there c.loop-process.roles c.note.new.self (c.loop-process.invariant are) c.in_ok-note.ensures

pub returns : goal.returns
returns c = λ are.
    let design = c.args.design.now in
    let all : c.loop-process.process-index ≡ length design.processes.items = omega arith in
    subst (λ n. AreRoles (flat design) n c.loop-process.roles.clocks.items c.loop-process.roles.resets.items) all (c.loop-process.invariant are)
