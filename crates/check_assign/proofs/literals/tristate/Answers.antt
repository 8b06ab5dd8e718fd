use Rattle.std.proofs.Common.{[], ◌∷◌, arith}
use Rattle.rtl_flat.specs.Flats.{flat}
use Rattle.check_loops.proofs.check_found_proofs.Sites.{next_below}
use Rattle.check_assign.specs.Assigned.{IsTristate, tristate_at}
use Rattle.check_assign.proofs.Turns.{task_of}
use Rattle.check_assign.proofs.literals.tristate.Goals as goal

pub loop-number-preserved : goal.loop-number-preserved
loop-number-preserved c =
    let d = flat c.args.design.now in
    let n = c.loop-number.number in
    let (one, there) = task_of c.args.design.now n (omega arith) in
    next_below IsTristate (tristate_at d) (λ does. does ∷ []) d n one c.loop-number.found.items c.push_tristate.new.found.items there c.loop-number.invariant (c.in_ok-push_tristate.ensures one there)
