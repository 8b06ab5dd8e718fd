use Rattle.std.proofs.Common.{◌<◌, ◌^◌, length, subst, sym, arith}
use Rattle.std.proofs.lemmas.Result.{IfOk-weaker}
use Rattle.rtl_flat.specs.declared.design.Design.{Design}
use Rattle.rtl_flat.specs.Flats.{flat}
use Rattle.check_found.specs.rtl_scan.declared.feeds.Waits.TheVariants.{ReadsAndLists}
use Rattle.check_found.specs.rtl_scan.Arrows.{AreArrows}
use Rattle.check_found.specs.rtl_scan.Graph.{AreRows}
use Rattle.check_found.proofs.rtl_scan_proofs.Feeding.{rows_of_arrows}
use Rattle.check_found.proofs.Sites.{task_count}
use Rattle.check_loops.proofs.Cycles.{loops_are}
use Rattle.check_loops.proofs.level.loops.Goals as goal

pub on_cycles-requires : goal.on_cycles-requires
on_cycles-requires c =
    let d = flat c.args.scans.now.design.now in
    let len = task_count c.args.scans.now.design.now in
    let small : length d.tasks < 2 ^ 32 = omega arith in
    let are = subst (λ (x : Design). AreArrows ReadsAndLists (flat x).signals (flat x).tasks c.in_ok-rows.rows.items) c.accessed.ensures.design c.in_ok-rows.ensures in
    subst (λ rows. AreRows rows) (sym c.deref.ensures.value) (rows_of_arrows ReadsAndLists d.signals d.tasks c.in_ok-rows.rows.items are small)

pub returns : goal.returns
returns c =
    let d = flat c.args.scans.now.design.now in
    let are = subst (λ (x : Design). AreArrows ReadsAndLists (flat x).signals (flat x).tasks c.in_ok-rows.rows.items) c.accessed.ensures.design c.in_ok-rows.ensures in
    IfOk-weaker c.on_cycles.result _ _
    (λ answers found. loops_are d.signals d.tasks c.in_ok-rows.rows.items c.deref.result.now answers.items c.deref.ensures.value are found)
    c.on_cycles.ensures
