use Rattle.std.proofs.Common.{◌≡◌, ◌∙◌, ◌<◌, Some, length, sym, ap, arith}
use Rattle.std.proofs.lemmas.Result.{on_ok_weaker}
use Rattle.rtl_flat.specs.Flats.{flat, widths}
use Rattle.rtl_flat.specs.Flows.{flow_of}
use Rattle.rtl_flat.specs.PathSets.{listed}
use Rattle.rtl_flat.specs.Paths.{reads_outside}
use Rattle.rtl_flat.specs.Process.{Task, task}
use Rattle.rtl_scan.specs.Arrows.{is_node, lists_count}
use Rattle.rtl_scan.proofs.Processes.{length-tasks, task_at}
use Rattle.rtl_scan.proofs.Feeding.{bits_at, feeds_noted}
use Rattle.rtl_scan.proofs.feeds.Accessed.note_feeds.Goals as goal

pub returns-in-ReadsAndLists : goal.returns-in-ReadsAndLists
returns-in-ReadsAndLists c =
    let design = c.args.self.now.design.now in
    let d = flat design in
    let n = c.args.found.now.process in
    let process = c.index.result.now in
    let many = length-tasks design.processes.items in
    let inside : n < length d.tasks = let below = c.requires.inside in omega arith in
    on_ok_weaker c.add_rows-in-ReadsAndLists.result
    (λ two one there.
    let at : Some one ≡ Some (task process)
    = sym there ∙ task_at design.processes.items n process c.requires.inside c.index.ensures in
    let same : task process ≡ one = cc in
    let node = c.is_node.ensures ∙ ap (λ (t : Task). is_node t.does) same in
    feeds_noted (widths d) one c.args.waits (ap lists_count c.in-ReadsAndLists.is) c.args.table.now c.is_node.result node c.if-not-is_node.false c.deref.result.now c.deref-in-ReadsAndLists.result.now
    (bits_at (λ t. reads_outside (flow_of (widths d) t.does)) d.tasks c.args.self.now.reads.now c.requires.accessed.reads n c.index-self-number.result one inside c.index-self-number.is there c.deref.result.now c.deref.ensures.value)
    (bits_at (λ t. listed (widths d) t.does) d.tasks c.args.self.now.lists.now c.requires.accessed.lists n c.index-self-number-2.result one inside c.index-self-number-2.is there c.deref-in-ReadsAndLists.result.now c.deref-in-ReadsAndLists.ensures.value)
    c.args.found.now c.add_rows.new.self c.add_rows-in-ReadsAndLists.new.self c.in_ok-add_rows.ensures two)
    c.add_rows-in-ReadsAndLists.ensures
