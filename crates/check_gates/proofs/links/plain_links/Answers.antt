use Rattle.std.proofs.Common.{◌≡◌, ◌∙◌, ◌++◌, get_or, take, ap, sym, arith}
use Rattle.std.specs.List.{filter_map}
use Rattle.std.specs.Option.{option_to_list}
use Rattle.rtl_flat.specs.Process.{task}
use Rattle.rtl_flat.specs.Flats.{flat}
use Rattle.check_gates.specs.Links.{plain_of}
use Rattle.check_gates.proofs.Linked.{kept_next, kept_all, none_of, pass_kept, push_kept}
use Rattle.check_gates.proofs.links.plain_links.Goals as goal
use Rattle.check_gates.proofs.links.plain_links.Goals.{in-Some+in_ok-push, in_default}

pub loop-process-preserved : goal.loop-process-preserved
loop-process-preserved c =
    let d = flat c.args.design.now in
    let processes = c.args.design.now.processes.items in
    let at = c.loop-process.process-index in
    let item = c.process-item.result in
    let front = filter_map (λ process. plain_of d (task process)) (take at processes) in
    let read : item ≡ get_or processes at item = c.process-item.is ∙ ap (λ l. get_or l at item) c.deref-process-items.ensures.value in
    let kept : c.match-plain_link.links.items ≡ front ++ option_to_list (plain_of d (task item)) =
    elim c.match-plain_link.branch [
      | in-Some+in_ok-push w ↦
          push_kept c.loop-process.links.items c.match-plain_link.links.items front (plain_of d (task item)) _ c.loop-process.invariant (sym c.plain_link.ensures ∙ w.in-Some.is) (ap (λ v. v.items) w.links-is ∙ w.in_ok-push.ensures.items)
      | in_default w ↦
          pass_kept c.loop-process.links.items c.match-plain_link.links.items front (plain_of d (task item)) c.loop-process.invariant (sym c.plain_link.ensures ∙ none_of c.plain_link.result w.in_default.not-Some) (ap (λ v. v.items) w.links-is)
    ] in
    kept ∙ sym (kept_next (λ process. plain_of d (task process)) processes at item (omega arith) read)

pub returns : goal.returns
returns c =
    let d = flat c.args.design.now in
    let processes = c.args.design.now.processes.items in
    c.loop-process.invariant ∙ kept_all (plain_of d) task processes c.loop-process.process-index (omega arith)
