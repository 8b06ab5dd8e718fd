use Rattle.std.proofs.Common.{◌∙◌, ap, sym, length}
use Rattle.std.proofs.lemmas.Bool.{ltb-true, ltb-false}
use Rattle.check_chains.proofs.rtl_scan_proofs.Places.{width_at, width_past}
use Rattle.check_unknown.proofs.selects.width_of.Goals as goal

pub returns-in-Some : goal.returns-in-Some
returns-in-Some c =
    ap (λ s. s.width) c.in-Some.ensures.lookup.1
    ∙ width_at c.args.signals.now c.args.signal.0 c.in-Some.signal.now (ltb-true c.args.signal.0 (length c.args.signals.now) (sym c.in-Some.ensures.lookup.0))

pub returns-in-None : goal.returns-in-None
returns-in-None c =
    width_past c.args.signals.now c.args.signal.0
    (ltb-false c.args.signal.0 (length c.args.signals.now) (sym c.in-None.ensures.lookup.0))
