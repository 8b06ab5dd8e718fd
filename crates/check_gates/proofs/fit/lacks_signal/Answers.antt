use Rattle.std.proofs.Common.{◌∙◌, sym}
use Rattle.std.proofs.lemmas.Bool.{eq-eqb, eqb-true}
use Rattle.check_gates.proofs.Fitting.{lacks_mask, mask_lacks}
use Rattle.check_gates.proofs.fit.lacks_signal.Goals as goal

pub returns : goal.returns
returns c =
    let masks = c.args.bits.now.masks in
    let s = c.args.signal.0 in
    (λ h. mask_lacks masks s (sym c.mask.ensures ∙ eqb-true c.mask.result 0 h), λ none. eq-eqb c.mask.result 0 (c.mask.ensures ∙ lacks_mask masks s none))
