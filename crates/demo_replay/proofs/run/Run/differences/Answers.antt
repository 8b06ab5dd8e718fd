use Rattle.std.proofs.Common.{◌≡◌, ◌∙◌, ◌&&◌, ℕ, Bool, ap, not, sym}
use Rattle.demo_replay.specs.Firsts.{differs}
use Rattle.demo_replay.specs.Progress.{moment_of}
use Rattle.demo_replay.specs.Tables.{is_marked}
use Rattle.demo_replay.proofs.Passing.{is_difference, is_test, one_more, where_free, where_marked}
use Rattle.demo_replay.proofs.run.Run.differences.Goals as goal
use Rattle.demo_replay.proofs.run.Run.differences.Goals.{then-not-is_marked, else-not-is_marked}

pub loop-number-preserved : goal.loop-number-preserved
loop-number-preserved c =
    let run = c.args.self.now in
    let m = moment_of run.sim run.net in
    let n = c.loop-number.number in
    let marks = c.args.skipped.now in
    let shown = c.shown-shown.result in
    let shows = c.shown-shown.ensures in
    let test : ℕ → Bool = λ s. not (is_marked marks s) && differs m s in
    let tested : c.if-not-is_marked.differs ≡ test n = elim c.if-not-is_marked.branch [
      | then-not-is_marked w ↦
          where_free (is_marked marks n) _ (differs m n) (sym c.is_marked.ensures ∙ w.if-not-is_marked.true)
          (w.differs-is ∙ is_test m n shown w.differs-differs.result shows.simulated shows.synthesised w.differs-differs.ensures)
      | else-not-is_marked w ↦
          where_marked (is_marked marks n) _ (differs m n) (sym c.is_marked.ensures ∙ w.if-not-is_marked.false) (w.differs-is ∙ ap not w.if-not-is_marked.false)
    ] in
    one_more m test n c.if-not-is_marked.differs _ c.loop-number.found.items c.push_if.new.found.items tested (is_difference m n shown shows.simulated shows.synthesised) c.in_ok-push_if.ensures c.loop-number.invariant
