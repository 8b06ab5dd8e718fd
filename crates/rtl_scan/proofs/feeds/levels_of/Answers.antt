use Rattle.std.proofs.Common.{◌<◌, ◌^◌, ◌∙◌, List, length, subst, sym, ap, arith}
use Rattle.std.proofs.lemmas.Result.{IfOk-weaker}
use Rattle.rtl_flat.specs.Flats.{flat}
use Rattle.rtl_flat.specs.declared.act.Process.{Process}
use Rattle.rtl_scan.specs.Arrows.{AreKept}
use Rattle.rtl_scan.specs.Graph.{AreRows}
use Rattle.rtl_scan.specs.declared.feeds.Waits.TheVariants.{ReadsAndLists}
use Rattle.rtl_scan.proofs.Processes.{length-tasks}
use Rattle.rtl_scan.proofs.Feeding.{rows_of_arrows, levels_are}
use Rattle.rtl_scan.proofs.feeds.levels_of.Goals as goal

pub depths-requires : goal.depths-requires
depths-requires c =
    let d = flat c.args.design.now in
    let len = length-tasks c.args.design.now.processes.items in
    let small : length d.tasks < 2 ^ 32 = omega arith in
    subst (λ rows. AreRows rows) (sym c.deref.ensures.value) (rows_of_arrows ReadsAndLists d.signals d.tasks c.in_ok-rows.rows.items c.in_ok-rows.ensures small)

pub keep_nodes-requires : goal.keep_nodes-requires
keep_nodes-requires c =
    ap length c.deref-3.ensures.value ∙ c.in_ok-depths.ensures.same_length ∙ ap length c.deref.ensures.value ∙ c.in_ok-rows.ensures.same_length ∙ sym (length-tasks c.args.design.now.processes.items) ∙ ap length (sym c.deref-2.ensures.value)

pub returns : goal.returns
returns c =
    let design = c.args.design.now in
    IfOk-weaker c.keep_nodes.result _ _
    (λ levels kept'. let kept = subst (λ (xs : List Process). AreKept xs c.deref-3.result.now (length xs) levels.items) c.deref-2.ensures.value kept' in
    levels_are design.signals.items design.processes.items c.in_ok-rows.rows.items c.in_ok-depths.depths.items levels.items c.in_ok-rows.ensures c.deref.result.now c.deref.ensures.value c.in_ok-depths.ensures c.deref-3.result.now c.deref-3.ensures.value kept)
    c.keep_nodes.ensures
