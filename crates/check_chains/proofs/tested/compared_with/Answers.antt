use Rattle.std.proofs.Common.{◌∙◌, ap}
use Rattle.rtl_flat.specs.Expression.{tree}
use Rattle.rtl_flat.specs.Flats.{flat}
use Rattle.check_chains.specs.Inner.{signal_test}
use Rattle.check_chains.proofs.Nodes.{no_literal_test}
use Rattle.check_chains.proofs.tested.compared_with.Goals as goal

pub returns-in_default : goal.returns-in_default
returns-in_default c =
    let d = flat c.args.design.now in
    let signed = c.args.e.now.signed in
    let e = c.args.other.now in
    no_literal_test d signed c.in_ok-signal.signal.0 e.width e.signed e.spot e.node c.in_default.not-Literal
    ∙ ap (λ r. signal_test d signed r (tree e)) c.in_ok-signal.ensures
