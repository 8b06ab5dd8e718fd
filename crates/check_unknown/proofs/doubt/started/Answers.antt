use Rattle.std.proofs.Common.{◌≡◌, ◌<◌, length, map, subst, arith}
use Rattle.rtl_flat.specs.Process.{task}
use Rattle.rtl_flat.specs.Flats.{flat}
use Rattle.check_chains.proofs.rtl_scan_proofs.Processes.{length-tasks}
use Rattle.check_unknown.specs.Spreading.{IsStarting}
use Rattle.check_unknown.proofs.Processes.{slice_there}
use Rattle.check_unknown.proofs.Worklist.{starting_more}
use Rattle.check_unknown.proofs.doubt.started.Goals as goal

pub loop-p-preserved : goal.loop-p-preserved
loop-p-preserved c =
    let d = flat c.args.scans.now.design.now in
    let processes = c.args.scans.now.design.now.processes in
    let temporaries = c.temporaries-temporaries.result.now in
    let count = length-tasks processes.items in
    let inside : c.loop-p.p < length (map task processes.items)
    = omega (arith, count, c.loop-p-test.true, c.len-p-end.ensures, processes.ok.0) in
    let (one, there) = slice_there (map task processes.items) c.loop-p.p inside in
    starting_more d temporaries c.args.gated.now c.temporaries-temporaries.ensures c.requires.gated c.loop-p.p one there c.loop-p.spread c.start.new.spread (c.in_ok-start.ensures one there) c.loop-p.invariant

pub returns : goal.returns
returns c =
    let d = flat c.args.scans.now.design.now in
    let processes = c.args.scans.now.design.now.processes in
    let end : c.loop-p.p ≡ length processes.items
    = omega (arith, c.loop-p-test.false, c.loop-p.auto.p-end, c.len-p-end.ensures, processes.ok.0) in
    subst (λ n. IsStarting d n c.loop-p.spread) end c.loop-p.invariant
