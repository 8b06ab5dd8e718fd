use Rattle.std.proofs.Common.{◌∙◌, ap}
use Rattle.rtl_flat.specs.Expression.{tree}
use Rattle.check_gates.specs.Forms.{compared_with}
use Rattle.check_gates.proofs.Testing.{no_literal}
use Rattle.check_gates.proofs.form.compared_with.Goals as goal

pub returns-in_default : goal.returns-in_default
returns-in_default c =
    let e = c.args.other.now in
    no_literal c.in_ok-signal.signal.0 e.width e.signed e.spot e.node c.in_default.not-Literal
    ∙ ap (λ r. compared_with r (tree e)) c.in_ok-signal.ensures
