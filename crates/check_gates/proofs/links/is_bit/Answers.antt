use Rattle.std.proofs.Common.{◌∙◌, ◌==◌, ap, sym, length}
use Rattle.std.proofs.lemmas.Bool.{ltb-true, ltb-false}
use Rattle.rtl_flat.specs.Signs.{width_in}
use Rattle.check_chains.proofs.rtl_scan_proofs.Places.{width_at, width_past}
use Rattle.check_gates.proofs.links.is_bit.Goals as goal

pub returns-in-Some : goal.returns-in-Some
returns-in-Some c =
    let signals = c.deref.result.now in
    ap (λ w. w == 1) (ap (λ s. s.width) c.in-Some.ensures.lookup.1
    ∙ width_at signals c.args.signal.0 c.in-Some.signal.now (ltb-true c.args.signal.0 (length signals) (sym c.in-Some.ensures.lookup.0))
    ∙ ap (λ l. width_in l c.args.signal.0) c.deref.ensures.value)

pub returns-in-None : goal.returns-in-None
returns-in-None c =
    let signals = c.deref.result.now in
    ap (λ w. w == 1) (width_past signals c.args.signal.0 (ltb-false c.args.signal.0 (length signals) (sym c.in-None.ensures.lookup.0))
    ∙ ap (λ l. width_in l c.args.signal.0) c.deref.ensures.value)
