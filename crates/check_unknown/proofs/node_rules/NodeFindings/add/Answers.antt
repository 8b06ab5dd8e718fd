use Rattle.std.proofs.lemmas.Result.{on_ok_weaker}
use Rattle.check_unknown.proofs.node_rules.NodeFindings.add.Goals as goal

pub returns : goal.returns
returns c =
    on_ok_weaker c.push_equalities.result
    (λ h. λ other there. record {
      literals = c.in_ok-push_literal.ensures other there;
      ranges = c.in_ok-push_misses.ensures other there;
      divisions = c.in_ok-push_divisions.ensures other there;
      equalities = h other there;
    })
    c.push_equalities.ensures
