use Rattle.std.proofs.Common.{[], ◌∷◌, take, get_or, sym, subst, arith}
use Rattle.std.proofs.lemmas.List.{take_more}
use Rattle.check_gates.specs.Reach.{Finds}
use Rattle.check_gates.proofs.Reached.{finds_both}
use Rattle.check_gates.proofs.reach.Reach.add_all.Goals as goal

pub loop-node-preserved : goal.loop-node-preserved
loop-node-preserved c =
    subst (λ nodes. Finds nodes c.args.self.now c.add.new.self) (sym (take_more c.args.nodes.now c.loop-node.node-index 0 (omega arith)))
    (finds_both (take c.loop-node.node-index c.args.nodes.now) (get_or c.args.nodes.now c.loop-node.node-index 0 ∷ []) c.args.self.now c.loop-node.self c.add.new.self c.loop-node.invariant c.in_ok-add.ensures)
