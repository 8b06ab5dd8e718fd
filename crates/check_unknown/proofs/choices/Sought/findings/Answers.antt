use Rattle.std.proofs.Common.{◌≡◌, ◌<◌, length, map, arith}
use Rattle.rtl_flat.specs.Process.{task}
use Rattle.rtl_flat.specs.Flats.{flat}
use Rattle.check_chains.proofs.rtl_scan_proofs.Processes.{length-tasks}
use Rattle.check_unknown.proofs.Lists.{below_more}
use Rattle.check_unknown.proofs.Doubts.{choices_all}
use Rattle.check_unknown.proofs.Processes.{slice_there}
use Rattle.check_unknown.proofs.choices.Sought.findings.Goals as goal

pub overflow_cast-p : goal.overflow_cast-p
overflow_cast-p c =
    let processes = c.args.design.now.processes in
    let count = length-tasks processes.items in
    let limit = c.args.design.now.is_design.process_limit in
    omega (arith, count, limit, c.loop-p-test.true, c.len-p-end.ensures, processes.ok.0)

pub loop-p-preserved : goal.loop-p-preserved
loop-p-preserved c =
    let processes = c.args.design.now.processes in
    let count = length-tasks processes.items in
    let inside : c.loop-p.p < length (map task processes.items)
    = omega (arith, count, c.loop-p-test.true, c.len-p-end.ensures, processes.ok.0) in
    let (one, there) = slice_there (map task processes.items) c.loop-p.p inside in
    below_more _ (map task processes.items) c.loop-p.p one c.loop-p.found.items c.push_process.new.found.items there c.loop-p.invariant (c.in_ok-push_process.ensures one there)

pub returns : goal.returns
returns c =
    let d = flat c.args.design.now in
    let processes = c.args.design.now.processes in
    let count = length-tasks processes.items in
    choices_all c.args.self d c.args.marks.now c.requires c.loop-p.p (let e : c.loop-p.p ≡ length d.tasks = omega (arith, count, c.loop-p-test.false, c.loop-p.auto.p-end, c.len-p-end.ensures, processes.ok.0) in e) c.loop-p.found.items c.loop-p.invariant
