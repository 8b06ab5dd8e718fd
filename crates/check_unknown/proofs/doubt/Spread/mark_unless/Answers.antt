use Rattle.std.specs.Prelude.{◌==◌, ◌&&◌, not}
use Rattle.std.proofs.lemmas.Result.{on_ok_weaker}
use Rattle.check_unknown.proofs.Spreading.{marks_as, unless_is, unless_none}
use Rattle.check_unknown.proofs.doubt.Spread.mark_unless.Goals as goal

pub returns-then-temporary : goal.returns-then-temporary
returns-then-temporary c = unless_none c.args.signal c.args.temporary c.args.self.now c.if-temporary.true

pub returns : goal.returns
returns c =
    on_ok_weaker c.mark.result
    (λ h. marks_as (λ s. s == c.args.signal) (λ s. (s == c.args.signal) && not c.args.temporary) c.args.self.now c.mark.new.self (unless_is c.args.signal c.args.temporary c.if-temporary.false) h)
    c.mark.ensures
