use Rattle.std.proofs.Common.{Bool, List, length, sym, subst}
use Rattle.check_loops.specs.Rounds.{AreClosed}
use Rattle.check_loops.proofs.Spreading.{reached_all}
use Rattle.check_loops.proofs.spread.reached.Goals as goal

pub returns : goal.returns
returns c =
    let rows = c.args.rows.now in
    let start = c.args.start in
    let still = c.spread.ensures.still c.loop-test.false in
    reached_all rows start c.spread.new.marks.items (c.spread.ensures.marked c.loop.invariant.1)
    (subst (λ (marks : List Bool). AreClosed rows start marks (length rows)) (sym still.0) still.1)
