use Rattle.std.proofs.Common.{◌≡◌, ◌∙◌, ◌++◌, cond, map, take, None, Some, ap, sym, arith, append_assoc, append-nil}
use Rattle.std.specs.List.{filter_map}
use Rattle.std.specs.Option.{option_to_list}
use Rattle.rtl_flat.specs.declared.act.EventItem.{EventItem}
use Rattle.rtl_flat.specs.Process.{task, watched}
use Rattle.rtl_rule.specs.declared.finding.Finding.{Finding}
use Rattle.rtl_rule.specs.declared.rule.Rule.TheVariants.{DerivedClock}
use Rattle.rtl_rule.specs.Parts.{number}
use Rattle.check_clocks.specs.Roles.{derived_in}
use Rattle.check_gates.proofs.Linked.{kept_all, kept_next, pass_kept, push_kept}
use Rattle.check_clocks.proofs.derived.push_events.Goals as goal
use Rattle.check_clocks.proofs.derived.push_events.Goals.{then-is_derived+in_ok-push, else-is_derived}

pub loop-item-init : goal.loop-item-init
loop-item-init c = sym (append-nil c.args.found.now.items)

pub loop-item-preserved : goal.loop-item-preserved
loop-item-preserved c =
    let events = c.args.events.now in
    let at = c.loop-item.item-index in
    let item = c.item-item.result in
    let f = λ (item : EventItem). derived_in c.args.tops.now c.args.roles.now.clocks.items c.args.roles.now.resets.items (map watched events) (task c.args.process.now) (watched item) in
    let finding : Finding = record { rule = DerivedClock; signal = number item.signal.0; instance = c.args.process.now.instance; spot = c.args.process.now.spot } in
    let front = c.args.found.now.items ++ filter_map f (take at events) in
    let kept : c.if-is_derived.found.items ≡ front ++ option_to_list (f item) =
    elim c.if-is_derived.branch [
      | then-is_derived+in_ok-push w ↦
          push_kept c.loop-item.found.items c.if-is_derived.found.items front (f item) finding c.loop-item.invariant (ap (λ b. cond b (Some finding) None) (sym c.is_derived.ensures ∙ w.if-is_derived.true)) (ap (λ v. v.items) w.found-is ∙ w.in_ok-push.ensures.items)
      | else-is_derived w ↦
          pass_kept c.loop-item.found.items c.if-is_derived.found.items front (f item) c.loop-item.invariant (ap (λ b. cond b (Some finding) None) (sym c.is_derived.ensures ∙ w.if-is_derived.false)) (ap (λ v. v.items) w.found-is)
    ] in
    kept ∙ append_assoc c.args.found.now.items (filter_map f (take at events)) (option_to_list (f item))
    ∙ ap (λ l. c.args.found.now.items ++ l) (sym (kept_next f events at item (omega arith) c.item-item.is))

pub returns : goal.returns
returns c =
    let events = c.args.events.now in
    c.loop-item.invariant ∙ ap (λ l. c.args.found.now.items ++ l)
    (kept_all (derived_in c.args.tops.now c.args.roles.now.clocks.items c.args.roles.now.resets.items (map watched events) (task c.args.process.now)) watched events c.loop-item.item-index (omega arith))
