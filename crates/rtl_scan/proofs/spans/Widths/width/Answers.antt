use Rattle.std.proofs.Common.{◌≡◌, ◌≤◌, ◌∙◌, ap, sym, arith, length}
use Rattle.std.proofs.lemmas.Bool.{ltb-true, ltb-false}
use Rattle.rtl_flat.specs.Signs.{width_in}
use Rattle.rtl_scan.proofs.Places.{width_at, width_past}
use Rattle.rtl_scan.proofs.spans.Widths.width.Goals as goal

pub returns-in-Some-clause-width : goal.returns-in-Some-clause-width
returns-in-Some-clause-width c =
    ap (λ s. s.width) c.in-Some.ensures.lookup.1
    ∙ width_at c.args.self.now.signals.now c.args.signal.0 c.in-Some.signal.now (ltb-true c.args.signal.0 (length c.args.self.now.signals.now) (sym c.in-Some.ensures.lookup.0))

pub returns-in-Some-clause-at_most : goal.returns-in-Some-clause-at_most
returns-in-Some-clause-at_most c =
    let is : c.in-Some.signal.now.width ≡ width_in c.args.self.now.signals.now c.args.signal.0
    = ap (λ s. s.width) c.in-Some.ensures.lookup.1
    ∙ width_at c.args.self.now.signals.now c.args.signal.0 c.in-Some.signal.now (ltb-true c.args.signal.0 (length c.args.self.now.signals.now) (sym c.in-Some.ensures.lookup.0)) in
    let fits : width_in c.args.self.now.signals.now c.args.signal.0 ≤ 128 = c.args.self.now.at_most c.args.signal.0 in
    omega arith

pub returns-in-None-clause-width : goal.returns-in-None-clause-width
returns-in-None-clause-width c =
    width_past c.args.self.now.signals.now c.args.signal.0
    (ltb-false c.args.signal.0 (length c.args.self.now.signals.now) (sym c.in-None.ensures.lookup.0))
