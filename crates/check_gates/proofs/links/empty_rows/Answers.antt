use Rattle.std.proofs.Common.{◌≡◌, [], subst, arith}
use Rattle.check_gates.specs.Links.{AreRows}
use Rattle.check_gates.proofs.Linked.{no_rows, one_row}
use Rattle.check_gates.proofs.links.empty_rows.Goals as goal

pub loop-init : goal.loop-init
loop-init c = no_rows c.new-rows.result.items c.new-rows.ensures.items

pub loop-preserved : goal.loop-preserved
loop-preserved c =
    one_row c.loop.counter c.loop.rows.items c.push.new.self.items c.new.result c.loop.invariant c.new.ensures.items c.in_ok-push.ensures.items

pub returns : goal.returns
returns c =
    let all : c.loop.counter ≡ c.args.count = omega arith in
    subst (λ n. AreRows n [] c.loop.rows.items) all c.loop.invariant
