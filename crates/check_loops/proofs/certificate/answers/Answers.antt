use Rattle.std.proofs.Common.{◌∙◌, ◌<◌, List, ℕ, length, ap, subst, arith}
use Rattle.check_found.specs.rtl_scan.Graph.{row}
use Rattle.check_found.proofs.rtl_scan_proofs.Advances.{row_get}
use Rattle.check_loops.specs.Rounds.{IsLooked, group_at}
use Rattle.check_loops.proofs.Showing.{answered_more}
use Rattle.check_loops.proofs.certificate.answers.Goals as goal

pub loop-node-preserved : goal.loop-node-preserved
loop-node-preserved c =
    let rows = c.args.rows.now in
    let groups = c.args.groups.now in
    let node = c.loop-node.node in
    let inside : node < length groups = omega arith in
    let same = c.deref.ensures.value ∙ (ap (λ v. v.items) c.index-rows-node.is ∙ row_get rows node c.index-rows-node.result c.loop-node-test.true) in
    let looked : IsLooked groups (row rows node) (group_at groups node) (length (row rows node)) c.in-Some.inside
    = subst (λ (xs : List ℕ). IsLooked groups xs (group_at groups node) (length xs) c.in-Some.inside) same c.in-Some.ensures in
    answered_more rows groups node c.loop-node.answers.items c.push.new.self.items c.in-Some.inside c.in_ok-push-in-Some.ensures.items inside looked c.loop-node.invariant
