use Rattle.std.proofs.Common.{◌≡◌, ◌∙◌, ℕ, true, false, Option, Some, None, refl, sym, ap}
use Rattle.std.specs.Option.{is_some}
use Rattle.std.proofs.lemmas.Bool.{false≢true}
use Rattle.rtl_flat.specs.Process.{task}
use Rattle.rtl_flat.specs.Flats.{flat}
use Rattle.net_order.proofs.Losing.{lost_more, lost_same}
use Rattle.net_order.proofs.Turns.{node_not, node_there, there_at}
use Rattle.net_order.proofs.rank.lost_at.Goals as goal
use Rattle.net_order.proofs.rank.lost_at.Goals.{then-not-is_node-via-then-not-is_node, then-not-is_node-via-else-not-is_node+then-is_some}

none_is : (o : Option ℕ) → is_some o ≡ false → o ≡ None
none_is None is = refl
none_is (Some n) is = absurd (false≢true (sym is))

pub returns-then-not-is_node : goal.returns-then-not-is_node
returns-then-not-is_node c = λ h.
    let n = c.args.number in
    lost_same (flat c.args.design.now) c.args.depths.now n c.args.least
    (λ node none. elim c.then-not-is_node.branch [
      | then-not-is_node-via-then-not-is_node w ↦
          let not : c.is_node.result ≡ false = let is = w.if-not-is_node.true in cc in
          node_not c.args.design.now n c.index.result.now c.requires.inside c.index.ensures c.is_node.result c.is_node.ensures not node
      | then-not-is_node-via-else-not-is_node+then-is_some w ↦
          let some = w.is_some.ensures in
          let is = w.if-is_some.true in
          false≢true (ap is_some (sym none) ∙ (sym some ∙ is))
    ]) h

pub returns : goal.returns
returns c = λ h.
    let n = c.args.number in
    let some : c.is_node.result ≡ true = let isnt = c.if-not-is_node.false in cc in
    let node = node_there c.args.design.now n c.index.result.now c.requires.inside c.index.ensures c.is_node.result c.is_node.ensures some in
    let at = there_at c.args.design.now n c.index.result.now c.requires.inside c.index.ensures in
    let is = c.is_some.ensures in
    let not = c.if-is_some.false in
    lost_more (flat c.args.design.now) c.args.depths.now n (task c.index.result.now) at node (none_is _ (sym is ∙ not)) c.args.least c.in_ok-first.first c.lesser.result (c.in_ok-first.ensures (task c.index.result.now) at) c.lesser.ensures h
