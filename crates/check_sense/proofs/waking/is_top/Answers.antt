use Rattle.std.proofs.Common.{◌∙◌, sym}
use Rattle.check_sense.proofs.Woken.{top_is, top_past}
use Rattle.check_sense.proofs.waking.is_top.Goals as goal

pub returns-then-place-signals : goal.returns-then-place-signals
returns-then-place-signals c = sym (top_past c.args.signals.now c.args.signal.0 c.if-place-signals.true)

pub returns : goal.returns
returns c =
    c.is_input.ensures ∙ top_is c.args.signals.now c.args.signal.0 c.index-signals-place.result c.if-place-signals.false c.index-signals-place.is
