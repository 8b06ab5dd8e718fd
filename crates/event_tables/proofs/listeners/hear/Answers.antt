use Rattle.std.proofs.Common.{◌∙◌, List, map, ap, subst}
use Rattle.std.proofs.lemmas.Result.{on_ok_weaker}
use Rattle.rtl_flat.specs.declared.act.EventItem.{EventItem}
use Rattle.rtl_flat.specs.declared.act.Does.TheVariants as does
use Rattle.rtl_flat.specs.Expression.{tree}
use Rattle.rtl_flat.specs.Process.{piece, doing, task, body_of, action}
use Rattle.event_write.specs.rtl_scan.Sets.{has_rows}
use Rattle.event_write.proofs.rtl_scan_proofs.Processes.{task_at}
use Rattle.rtl_flat.specs.Flats.{flat, widths}
use Rattle.event_tables.specs.Hearing.{Hears}
use Rattle.event_tables.proofs.Hearing.{items_ear, exact_reads, exact_lists, assignment_hears, star_hears, list_hears, edges_hear}
use Rattle.event_tables.proofs.listeners.hear.Goals as goal

pub returns-in_ok-bits-in-Assign : goal.returns-in_ok-bits-in-Assign
returns-in_ok-bits-in-Assign c =
    let design = c.args.design.now in
    let p = c.args.process.0 in
    let one = c.index.result.now in
    let at = task_at design.processes.items p one c.requires c.index.ensures in
    let target = map piece c.in-Assign.target.parts.items in
    let value = tree c.in-Assign.value in
    let is = ap doing c.in-Assign.is in
    let rows = c.in_ok-bits-in-Assign.bits.rows.items in
    let exact = exact_reads design.signals.items (map task design.processes.items) p (task one) at target value is (has_rows rows) c.in_ok-bits-in-Assign.ensures.bits in
    on_ok_weaker c.hear_rows.result
    (λ h. assignment_hears (flat design) p (task one) at target value is c.deref.result.now (λ s k. ap (λ rs. has_rows rs s k) c.deref.ensures.value ∙ exact s k) c.args.listeners.now.items c.hear_rows.new.listeners.items h)
    c.hear_rows.ensures

pub returns-in_ok-bits-in-Star : goal.returns-in_ok-bits-in-Star
returns-in_ok-bits-in-Star c =
    let design = c.args.design.now in
    let p = c.args.process.0 in
    let one = c.index.result.now in
    let at = task_at design.processes.items p one c.requires c.index.ensures in
    let is = ap doing c.in-Comb.is ∙ ap (λ list. doing (does.Comb list c.in-Comb.body)) c.in-Star.is in
    let rows = c.in_ok-bits-in-Star.bits.rows.items in
    let exact = exact_lists design.signals.items (map task design.processes.items) p (task one) at (has_rows rows) c.in_ok-bits-in-Star.ensures.bits in
    on_ok_weaker c.hear_rows-in-Star.result
    (λ h. star_hears (flat design) p (task one) at (body_of (map action c.in-Comb.body.items)) is c.deref-in-Star.result.now (λ s k. ap (λ rs. has_rows rs s k) c.deref-in-Star.ensures.value ∙ exact s k) c.args.listeners.now.items c.hear_rows-in-Star.new.listeners.items h)
    c.hear_rows-in-Star.ensures

pub returns-in-Items : goal.returns-in-Items
returns-in-Items c =
    let design = c.args.design.now in
    let p = c.args.process.0 in
    let one = c.index.result.now in
    let at = task_at design.processes.items p one c.requires c.index.ensures in
    let is = ap doing c.in-Comb.is ∙ ap (λ list. doing (does.Comb list c.in-Comb.body)) c.in-Items.is in
    on_ok_weaker c.hear_items.result
    (λ h. list_hears (flat design) p (task one) at c.in-Items.items.items (body_of (map action c.in-Comb.body.items)) is c.args.listeners.now.items c.hear_items.new.listeners.items
    (subst (λ (xs : List EventItem). Hears p (items_ear (widths (flat design)) xs) c.args.listeners.now.items c.hear_items.new.listeners.items) c.deref-in-Items.ensures.value h))
    c.hear_items.ensures

pub returns-in-Edge : goal.returns-in-Edge
returns-in-Edge c =
    let design = c.args.design.now in
    let p = c.args.process.0 in
    let one = c.index.result.now in
    let at = task_at design.processes.items p one c.requires c.index.ensures in
    let is = ap doing c.in-Edge.is in
    on_ok_weaker c.hear_items-in-Edge.result
    (λ h. edges_hear (flat design) p (task one) at c.in-Edge.events.items (body_of (map action c.in-Edge.body.items)) is c.args.listeners.now.items c.hear_items-in-Edge.new.listeners.items
    (subst (λ (xs : List EventItem). Hears p (items_ear (widths (flat design)) xs) c.args.listeners.now.items c.hear_items-in-Edge.new.listeners.items) c.deref-in-Edge.ensures.value h))
    c.hear_items-in-Edge.ensures
