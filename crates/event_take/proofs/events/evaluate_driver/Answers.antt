use Rattle.std.proofs.Common.{ℕ, ◌≡◌, ◌<◌, ◌∙◌, Bool, true, false, List, length, map, set, Option, Some, ap, sym, subst, arith}
use Rattle.std.proofs.lemmas.List.{length-set, length-map}
use mathlib.Core.Path.{fun_ext}
use Rattle.rtl_bits.specs.declared.Bit.{Bit}
use Rattle.rtl_flat.specs.declared.signal.Signal.{Signal}
use Rattle.rtl_flat.specs.Expression.{tree}
use Rattle.rtl_flat.specs.Process.{Doing, Assign, doing, piece, task}
use Rattle.rtl_flat.specs.Signs.{IsExpression, width_in}
use Rattle.rtl_flat.specs.Value.{store, value}
use Rattle.rtl_flat.specs.WellFormed.{IsProcess}
use Rattle.rank_set.specs.Ranks.{flag}
use Rattle.agenda.specs.Agendas.{Numbered}
use Rattle.event_model.specs.Queue.{after_evaluate, doing_at}
use Rattle.event_model.specs.Writes.{put}
use Rattle.event_write.specs.QueueState.{HasWidth, design_of, flagged_value, state}
use Rattle.event_take.proofs.Taking.{doing_here, flag_put, held_more, task_has, width_put}
use Rattle.event_take.proofs.events.evaluate_driver.Goals as goal

pub evaluate-bits-requires-clause-expression : goal.evaluate-bits-requires-clause-expression
evaluate-bits-requires-clause-expression c =
    let design = c.args.fanout.now.design.now in
    let one = task_has (λ one. IsProcess design.signals.items one.does) design.processes.items c.args.process.0 c.index.result.now design.is_design.each_process c.requires.there c.index.ensures in
    let lawful = subst (IsProcess design.signals.items) (ap doing c.in-Assign.is) one in
    subst (λ (ss : List Signal). IsExpression ss (tree c.in-Assign.value)) (sym c.deref.ensures.value) lawful.0.sized

pub returns-in-Assign-clause-state : goal.returns-in-Assign-clause-state
returns-in-Assign-clause-state c =
    let s = state c.args.queue.now in
    let p = c.args.process.0 in
    let processes = c.args.fanout.now.design.now.processes.items in
    let flags = c.args.queue.now.pending in
    let woken = c.args.queue.now.woken.flags in
    let values = c.args.queue.now.pending_values.items in
    let there = c.requires.there in
    let count = length-map processes task in
    let lawful = c.requires.queue.pending in
    let awake = c.requires.queue.woken in
    let stored = c.requires.queue.pending_values in
    let within : p < length flags = omega (arith, there, count, lawful) in
    let kept : p < length values = omega (arith, there, count, stored) in
    let known : p < length woken = omega (arith, there, count, awake) in
    let e = tree c.in-Assign.value in
    let bits : c.evaluate-bits.result ≡ value (store c.args.queue.now.values.items) e = c.evaluate-bits.ensures.bits ∙ ap (λ (vs : List (List Bit)). value (store vs) e) c.deref-in-Assign.ensures.value in
    let does : doing_at (design_of c.args.fanout.now) p ≡ Some (Assign (map piece c.in-Assign.target.parts.items) e) =
    doing_here processes p c.index.result.now there c.index.ensures ∙ ap (λ d. Some (doing d)) c.in-Assign.is in
    let pending : flagged_value c.insert.new.self (set values p c.evaluate-bits.result) ≡ put (flagged_value flags values) p (Some (value (store c.args.queue.now.values.items) e)) =
    ap (λ f. flagged_value f (set values p c.evaluate-bits.result)) c.insert.ensures
    ∙ fun_ext (held_more flags values p c.evaluate-bits.result within kept)
    ∙ ap (λ (bs : List Bit). put (flagged_value flags values) p (Some bs)) bits in
    ap (λ (w : ℕ → Bool). record s { pending = flagged_value c.insert.new.self (set values p c.evaluate-bits.result); woken = w }) (ap (λ (a : Numbered). flag a.flags) c.remove.ensures ∙ fun_ext (flag_put woken p false known))
    ∙ ap (λ (q : ℕ → Option (List Bit)). record s { pending = q; woken = put (flag woken) p false }) pending
    ∙ sym (ap (after_evaluate s p) does)

pub returns-in-Assign-clause-queue : goal.returns-in-Assign-clause-queue
returns-in-Assign-clause-queue c =
    let d = design_of c.args.fanout.now in
    let p = c.args.process.0 in
    let processes = c.args.fanout.now.design.now.processes.items in
    let values = c.args.queue.now.pending_values.items in
    let is = c.requires.queue in
    let there = c.requires.there in
    let count = length-map processes task in
    let stored = is.pending_values in
    let kept : p < length values = omega (arith, there, count, stored) in
    let e = tree c.in-Assign.value in
    let does : doing_at d p ≡ Some (Assign (map piece c.in-Assign.target.parts.items) e) =
    doing_here processes p c.index.result.now there c.index.ensures ∙ ap (λ x. Some (doing x)) c.in-Assign.is in
    record {
      values = is.values;
      woken = ap (λ (a : Numbered). length a.flags) c.remove.ensures ∙ length-set c.args.queue.now.woken.flags p false ∙ is.woken;
      drivers = is.drivers;
      driver_widths = is.driver_widths;
      tallies = is.tallies;
      tallied = is.tallied;
      pending = ap length c.insert.ensures ∙ length-set c.args.queue.now.pending p true ∙ is.pending;
      pending_values = length-set values p c.evaluate-bits.result ∙ is.pending_values;
      pending_widths = width_put (width_in d.signals) (doing_at d) values p c.evaluate-bits.result kept is.pending_widths (subst (λ (o : Option Doing). HasWidth (width_in d.signals) o (length c.evaluate-bits.result)) (sym does) c.evaluate-bits.ensures.width);
      offered = is.offered;
      offered_values = is.offered_values;
      next = is.next;
      active = is.active;
      active_inside = is.active_inside;
      waiting = is.waiting;
      waiting_inside = is.waiting_inside;
    }
