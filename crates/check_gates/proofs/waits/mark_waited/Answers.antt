use Rattle.std.proofs.Common.{◌∙◌, ap, sym, subst}
use Rattle.std.specs.List.{flat_map}
use Rattle.rtl_flat.specs.declared.act.EventItem.{EventItem}
use Rattle.rtl_flat.specs.Process.{doing, watched}
use Rattle.check_gates.specs.Waits.{waited, waited_by}
use Rattle.check_gates.specs.Tops.{AreMarkedAlso}
use Rattle.check_gates.proofs.Waiting.{marked_over}
use Rattle.check_gates.proofs.waits.mark_waited.Goals as goal

pub returns-in-Edge : goal.returns-in-Edge
returns-in-Edge c =
    let f = λ (item : EventItem). waited_by (watched item) in
    let all = ap (flat_map f) c.deref.ensures.value ∙ marked_over watched waited_by c.in-Edge.events.items ∙ sym (ap (λ does. waited (doing does)) c.in-Edge.is) in
    subst (λ those. AreMarkedAlso those c.args.marks.now c.mark_items.new.marks) all c.mark_items.ensures
