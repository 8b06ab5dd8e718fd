use Rattle.std.proofs.Common.{◌≡◌, true, false}
use Rattle.rtl_flat.specs.Flats.{flat}
use Rattle.net_order.proofs.Ranking.{places_more, places_same}
use Rattle.net_order.proofs.Turns.{node_not, node_there}
use Rattle.net_order.proofs.rank.place.Goals as goal

pub returns-then-not-is_node : goal.returns-then-not-is_node
returns-then-not-is_node c = λ h.
    let n = c.args.number in
    let none : c.is_node.result ≡ false = let is = c.if-not-is_node.true in cc in
    places_same (flat c.args.design.now).tasks c.args.depths.now n c.args.found.now.items
    (λ depth node has. node_not c.args.design.now n c.index.result.now c.requires.inside c.index.ensures c.is_node.result c.is_node.ensures none node) h

pub returns-in_default : goal.returns-in_default
returns-in_default c = λ h.
    let n = c.args.number in
    let not = c.in_default.not-Some in
    places_same (flat c.args.design.now).tasks c.args.depths.now n c.args.found.now.items
    (λ depth node has. not depth has) h

pub returns : goal.returns
returns c = λ h.
    let n = c.args.number in
    let some : c.is_node.result ≡ true = let isnt = c.if-not-is_node.false in cc in
    let node = node_there c.args.design.now n c.index.result.now c.requires.inside c.index.ensures c.is_node.result c.is_node.ensures some in
    let is = c.in-Some.is in
    places_more (flat c.args.design.now).tasks c.args.depths.now n c.in-Some.depth c.args.found.now.items c.push.new.self.items node is c.in_ok-push.ensures.items h
