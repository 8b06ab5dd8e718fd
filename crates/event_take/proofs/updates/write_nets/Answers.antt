use Rattle.std.proofs.Common.{ℕ, ◌≡◌, ◌+◌, ◌∙◌, List, map, drop, Option, Vec, ap, sym, subst}
use Rattle.std.specs.List.{All, slice_get}
use Rattle.std.specs.declared.alloc.Global.{Global}
use Rattle.std.proofs.lemmas.List.Elements.{All-head, All-tail}
use Rattle.rtl_bits.specs.declared.Bit.{Bit}
use Rattle.rtl_flat.specs.declared.act.TargetPart.{TargetPart}
use Rattle.rtl_flat.specs.Process.{Piece, piece, selection}
use Rattle.rtl_flat.specs.Signs.{width_in}
use Rattle.rtl_flat.specs.WellFormed.{IsFixed}
use Rattle.event_write.proofs.rtl_scan_proofs.Labels.{left_at}
use Rattle.event_model.specs.Queue.{State, bits_in, net_writes, resolved, write_all}
use Rattle.event_model.specs.Writes.{no_drive, span_of, write_at}
use Rattle.event_write.specs.Entries.{AreSelected}
use Rattle.event_write.specs.QueueState.{design_of, driver_of, state}
use Rattle.event_take.proofs.Delaying.{write_append}
use Rattle.event_take.proofs.updates.write_nets.Goals as goal

pub write_net-requires-clause-fixed : goal.write_net-requires-clause-fixed
write_net-requires-clause-fixed c =
    let inv = c.loop-part.invariant in
    let left = left_at c.args.parts.now c.loop-part.part-index c.part-item.result c.loop-part-test.true c.part-item.is in
    let fixed = subst (λ (ps : List TargetPart). All (λ (p : Piece). IsFixed p.selection) (map piece ps)) left inv.4 in
    All-head (λ (p : Piece). IsFixed p.selection) (piece c.part-item.result) (map piece (drop (c.loop-part.part-index + 1) c.args.parts.now)) fixed

pub loop-part-preserved : goal.loop-part-preserved
loop-part-preserved c =
    let d = design_of c.args.fanout.now in
    let signals = c.args.fanout.now.design.now.signals.items in
    let ws = width_in signals in
    let inv = c.loop-part.invariant in
    let part = c.part-item.result in
    let others = drop (c.loop-part.part-index + 1) c.args.parts.now in
    let left = left_at c.args.parts.now c.loop-part.part-index part c.loop-part-test.true c.part-item.is in
    let lawful = subst (λ (ps : List TargetPart). AreSelected signals (map piece ps)) left inv.3 in
    let fixed = subst (λ (ps : List TargetPart). All (λ (p : Piece). IsFixed p.selection) (map piece ps)) left inv.4 in
    let s = state c.loop-part.queue in
    let first = (state c.args.queue.now).driver in
    let span = span_of ws (no_drive ws) part.signal.0 (selection part.select) in
    let rest = net_writes ws (resolved d first) (map piece others) in
    let drivers : s.driver ≡ first = ap (λ (v : Vec (Option (List Bit)) Global). λ (p : ℕ). driver_of (slice_get v.items p)) inv.2 in
    let still = c.write_net.ensures.still in
    let here = write_at part.signal.0 span (bits_in span (resolved d first part.signal.0)) in (
      c.write_net.ensures.queue,
      record { levels = still.levels ∙ inv.1.levels; active = still.active ∙ inv.1.active; next = still.next ∙ inv.1.next; waiting = still.waiting ∙ inv.1.waiting; scratch = still.scratch ∙ inv.1.scratch },
      c.write_net.ensures.drivers ∙ inv.2,
      lawful.2,
      All-tail (λ (p : Piece). IsFixed p.selection) (piece part) (map piece others) fixed,
      ap (λ (x : State). write_all d x rest) (c.write_net.ensures.state ∙ ap (λ (f : ℕ → List Bit). write_all d s (write_at part.signal.0 span (bits_in span (resolved d f part.signal.0)))) drivers)
          ∙ sym (write_append d s here rest)
          ∙ ap (λ (ps : List TargetPart). write_all d s (net_writes ws (resolved d first) (map piece ps))) (sym left)
          ∙ inv.5,
    )
