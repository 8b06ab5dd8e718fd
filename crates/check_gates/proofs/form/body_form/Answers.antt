use Rattle.std.proofs.Common.{◌∙◌, map, ap, sym}
use Rattle.std.specs.Option.{option_map}
use Rattle.std.proofs.lemmas.Bool.{both_ways}
use Rattle.rtl_flat.specs.Expression.{tree}
use Rattle.rtl_flat.specs.Process.{action, body_of}
use Rattle.rtl_flat.specs.Flats.{flat}
use Rattle.check_gates.specs.Forms.{form_view}
use Rattle.check_gates.proofs.Forming.{form_fit, form_unfit}
use Rattle.check_gates.proofs.form.body_form.Goals as goal

pub returns-then-branch : goal.returns-then-branch
returns-then-branch c = λ one there.
    let (spot, whole) = c.in-Some.ensures in
    let tests = sym c.gate_test.ensures ∙ ap (option_map form_view) c.in-Some-gate_test.is in
    form_fit (flat c.args.scans.now.design.now) one.does (body_of (map action c.args.body.now)) (tree c.in-Some.lone.test.now) (body_of (map action c.in-Some.lone.taken.now)) spot whole
    c.in-Some-gate_test.form tests ((c.in_ok-fits.ensures one there).0 c.if-branch.true)

pub returns : goal.returns
returns c = λ one there.
    let (spot, whole) = c.in-Some.ensures in
    let tests = sym c.gate_test.ensures ∙ ap (option_map form_view) c.in-Some-gate_test.is in
    form_unfit (flat c.args.scans.now.design.now) one.does (body_of (map action c.args.body.now)) (tree c.in-Some.lone.test.now) (body_of (map action c.in-Some.lone.taken.now)) spot whole
    c.in-Some-gate_test.form tests (λ fit. both_ways c.in_ok-fits.field-0 c.if-branch.false ((c.in_ok-fits.ensures one there).1 fit))
