use Rattle.std.proofs.Common.{◌≡◌, ℕ, List, Ok, map, subst, rules}
use Rattle.std.specs.declared.alloc.AllocError.{AllocError}
use Rattle.std.proofs.lemmas.Iterator.{items_from_collect, YieldsList-from_map, YieldsList-from_slice}
use Rattle.rtl_flat.specs.Flats.{flat}
use Rattle.event_queue.specs.rtl_scan.declared.bits.Row.{Row}
use Rattle.netlist_eval.specs.check_gates.Tops.{AreMarkedAlso}
use Rattle.demo_replay.proofs.Marking.{marks_written}
use Rattle.demo_replay.proofs.compare.mark_written.Goals as goal

pub returns : goal.returns
returns c =
    let rows = c.in_ok-bits.bits.rows.items in
    let number = λ (row : Row). row.signal.0 in
    let made : c.in_ok-signals.signals.items ≡ map number rows = items_from_collect {E = AllocError} (Ok c.in_ok-signals.signals) c.in_ok-signals.ensures.ran (YieldsList-from_map _ number (YieldsList-from_slice rows (cc)) c.map.ensures.closure (λ x r q k. search rules)) in
    let all : c.deref-2.result.now ≡ map number rows = cc in
    marks_written (flat c.args.design.now) c.args.p.0 rows c.args.marks.now c.mark_all.new.marks c.in_ok-bits.ensures.bits c.in_ok-bits.ensures.order c.requires.count
    (subst (λ (places : List ℕ). AreMarkedAlso places c.args.marks.now c.mark_all.new.marks) all c.mark_all.ensures)
