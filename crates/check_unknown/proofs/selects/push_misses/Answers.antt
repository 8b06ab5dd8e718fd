use Rattle.std.proofs.Common.{◌∙◌, ◌++◌, List, Bor, ap, map}
use Rattle.std.specs.List.{filter_map}
use Rattle.std.proofs.lemmas.Result.{on_ok_weaker}
use Rattle.rtl_flat.specs.declared.act.TargetPart.{TargetPart}
use Rattle.rtl_flat.specs.Process.{Piece, Task, Watched, doing, piece, task}
use Rattle.rtl_rule.specs.Parts.{items_of, pieces}
use Rattle.rtl_flat.specs.Flats.{flat, widths}
use Rattle.check_chains.proofs.rtl_scan_proofs.Processes.{task_at}
use Rattle.check_unknown.specs.Lists.{misses_found}
use Rattle.check_unknown.specs.Unknowns.{all_nodes, pick_in, pick_of, picks}
use Rattle.check_unknown.proofs.Picks.{misses_three}
use Rattle.check_unknown.proofs.Processes.{same_task}
use Rattle.check_unknown.proofs.selects.push_misses.Goals as goal

pub returns : goal.returns
returns c =
    let d = flat c.args.design.now in
    let one = c.index-process.result.now in
    let fs = c.args.found.now.items in
    let ws = widths d in
    let does = doing one.does in
    let of_item = λ (item : Watched). pick_of item.signal item.spot item.selection in
    let of_piece = λ (part : Piece). pick_of part.signal part.spot part.selection in
    on_ok_weaker c.push_written.result
    (λ h. λ other there.
    let same = same_task c.args.design.now.processes.items c.args.p.0 one c.requires.there c.index-process.ensures other there in
    let own = c.requires.all (task one) (task_at c.args.design.now.processes.items c.args.p.0 one c.requires.there c.index-process.ensures) in
    misses_three ws one.instance (filter_map of_item (items_of does)) (filter_map pick_in (all_nodes does)) (filter_map of_piece (pieces does)) fs c.push_listed.new.found.items c.push_reads.new.found.items c.push_written.new.found.items
    (c.in_ok-push_listed.ensures ∙ ap (λ xs. fs ++ misses_found ws one.instance (filter_map of_item xs)) c.items.ensures)
    (c.in_ok-push_reads.ensures ∙ ap (λ xs. c.push_listed.new.found.items ++ misses_found ws one.instance (filter_map pick_in xs)) own)
    (h
    ∙ ap (λ (ps : List (Bor TargetPart)). c.push_reads.new.found.items ++ misses_found ws one.instance (filter_map of_piece (map (λ e. piece e.now) ps))) c.deref.ensures.value
    ∙ ap (λ xs. c.push_reads.new.found.items ++ misses_found ws one.instance (filter_map of_piece xs)) c.in_ok-targets.ensures)
    ∙ ap (λ (t : Task). fs ++ misses_found ws t.instance (picks t.does)) same)
    c.push_written.ensures
