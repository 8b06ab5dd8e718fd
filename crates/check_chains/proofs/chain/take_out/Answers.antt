use Rattle.std.specs.Borrow.{Bor}
use Rattle.std.proofs.Common.{◌∙◌, Some, sym, ap}
use Rattle.std.specs.List.{position, remove}
use Rattle.rtl_flat.specs.declared.act.EventItem.{EventItem}
use Rattle.rtl_flat.specs.Process.{watched}
use Rattle.check_chains.specs.Inner.{events_view}
use Rattle.check_chains.proofs.Taken.{is_of, not_taken, taken}
use Rattle.check_chains.proofs.chain.take_out.Goals as goal

pub returns-in_err-place : goal.returns-in_err-place
returns-in_err-place c =
    let r = c.args.signal.0 in
    rw c.from_residual.ensures
    (not_taken r c.args.events.now.items (sym (c.in_err-place.ensures ∙ ap (position (is_of r)) c.deref.ensures.value)))

pub returns : goal.returns
returns c =
    let r = c.args.signal.0 in
    let xs = c.args.events.now.items in
    let item = c.remove.result in
    let there = taken r xs c.in_ok-place.place item (sym (c.in_ok-place.ensures ∙ ap (position (is_of r)) c.deref.ensures.value)) in (
      c.remove.ensures.len,
      there
          ∙ ap (λ (x : Bor EventItem). Some (watched x.now, events_view (remove xs c.in_ok-place.place))) (sym c.remove.ensures.value)
          ∙ ap (λ zs. Some (watched item.now, events_view zs)) (sym c.remove.ensures.items),
    )
