use Rattle.check_gates.proofs.Testing.{concat_untested}
use Rattle.check_gates.proofs.form.gate_test.Goals as goal

pub returns-in-Concat : goal.returns-in-Concat
returns-in-Concat c =
    let e = c.args.e.now in concat_untested e.width e.signed e.spot e.node c.in-Concat.field-0 c.in-Concat.is
