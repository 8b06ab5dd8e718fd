use Rattle.std.proofs.Common.{◌<◌, ◌^◌, ℕ, List, Option, length, subst, sym, arith}
use Rattle.rtl_flat.specs.declared.expr.SigId.{SigId}
use Rattle.rtl_flat.specs.Flats.{flat}
use Rattle.check_found.specs.rtl_scan.declared.feeds.Waits.TheVariants.{Reads}
use Rattle.check_found.specs.rtl_scan.Graph.{AreRows}
use Rattle.check_found.proofs.Sites.{task_count}
use Rattle.net_order.specs.Ranks.{IsLeastOf, IsLost, IsRanked}
use Rattle.net_order.proofs.Answering.{least_cyclic, ranked_order}
use Rattle.check_found.proofs.rtl_scan_proofs.Feeding.{rows_of_arrows}
use Rattle.net_order.proofs.Ranking.{numbers_of}
use Rattle.net_order.proofs.order.order.Goals as goal

pub depths-requires : goal.depths-requires
depths-requires c =
    let d = flat c.args.design.now in
    let len = task_count c.args.design.now in
    let small : length d.tasks < 2 ^ 32 = omega arith in
    subst (λ rows. AreRows rows) (sym c.deref.ensures.value) (rows_of_arrows Reads d.signals d.tasks c.in_ok-rows.rows.items c.in_ok-rows.ensures small)

pub returns-in-Some : goal.returns-in-Some
returns-in-Some c =
    let d = flat c.args.design.now in
    let depths = c.in_ok-depths.depths.items in
    least_cyclic d c.in_ok-rows.rows.items c.deref.result.now c.deref.ensures.value c.in_ok-rows.ensures depths c.in_ok-depths.ensures c.in-Some.signal
    (subst (λ (o : Option SigId). IsLeastOf (IsLost d.signals d.tasks depths (length d.tasks)) o) c.in-Some.is
    (subst (λ (all : List (Option ℕ)). IsLeastOf (IsLost d.signals d.tasks all (length d.tasks)) c.in_ok-signal.field-0) c.deref-2.ensures.value c.in_ok-signal.ensures))

pub returns : goal.returns
returns c =
    let d = flat c.args.design.now in
    let depths = c.in_ok-depths.depths.items in
    let order = c.in_ok-ranked-in-None.field-0.items in
    ranked_order d c.in_ok-rows.rows.items c.deref.result.now c.deref.ensures.value c.in_ok-rows.ensures depths c.in_ok-depths.ensures
    (subst (λ (o : Option SigId). IsLeastOf (IsLost d.signals d.tasks depths (length d.tasks)) o) c.in-None.is
    (subst (λ (all : List (Option ℕ)). IsLeastOf (IsLost d.signals d.tasks all (length d.tasks)) c.in_ok-signal.field-0) c.deref-2.ensures.value c.in_ok-signal.ensures))
    (numbers_of order)
    (subst (λ (all : List (Option ℕ)). IsRanked d.tasks all (numbers_of order)) c.deref-in-None.ensures.value c.in_ok-ranked-in-None.ensures)
