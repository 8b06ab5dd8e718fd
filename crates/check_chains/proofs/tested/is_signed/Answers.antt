use Rattle.std.proofs.Common.{◌∙◌, ap, sym, length}
use Rattle.std.proofs.lemmas.Bool.{ltb-true, ltb-false}
use Rattle.check_chains.proofs.Signals.{signed_at, signed_past}
use Rattle.check_chains.proofs.tested.is_signed.Goals as goal

pub returns-in-Some : goal.returns-in-Some
returns-in-Some c =
    ap (λ s. s.signed) c.in-Some.ensures.lookup.1
    ∙ signed_at c.args.signals.now c.args.signal.0 c.in-Some.signal.now (ltb-true c.args.signal.0 (length c.args.signals.now) (sym c.in-Some.ensures.lookup.0))

pub returns-in-None : goal.returns-in-None
returns-in-None c =
    signed_past c.args.signals.now c.args.signal.0
    (ltb-false c.args.signal.0 (length c.args.signals.now) (sym c.in-None.ensures.lookup.0))
