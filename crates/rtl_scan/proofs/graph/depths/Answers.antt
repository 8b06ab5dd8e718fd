use Rattle.std.proofs.lemmas.Result.{IfOk-weaker}
use Rattle.rtl_scan.proofs.Advances.{depths_are}
use Rattle.rtl_scan.proofs.graph.depths.Goals as goal

pub returns : goal.returns
returns c =
    IfOk-weaker c.answers.result _ _
    (λ answers is. depths_are c.args.rows.now c.in_ok-search.search answers.items c.in_ok-search.ensures is)
    c.answers.ensures
