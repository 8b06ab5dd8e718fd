use Rattle.std.proofs.Common.{◌<◌, length, map, arith}
use Rattle.rtl_flat.specs.Process.{task}
use Rattle.rtl_flat.specs.Flats.{flat}
use Rattle.check_chains.proofs.rtl_scan_proofs.Processes.{length-tasks}
use Rattle.check_unknown.proofs.Processes.{slice_there}
use Rattle.check_unknown.proofs.Worklist.{readers_more}
use Rattle.check_unknown.proofs.doubt.readers.Goals as goal

pub loop-p-preserved : goal.loop-p-preserved
loop-p-preserved c =
    let processes = c.args.scans.now.design.now.processes in
    let count = length-tasks processes.items in
    let inside : c.loop-p.p < length (map task processes.items)
    = omega (arith, count, c.loop-p-test.true, c.len-p-end.ensures, processes.ok.0) in
    let (one, there) = slice_there (map task processes.items) c.loop-p.p inside in
    readers_more (flat c.args.scans.now.design.now) c.loop-p.p one there c.loop-p.table.items c.note_process.new.table.items (c.in_ok-note_process.ensures one there) c.loop-p.invariant
