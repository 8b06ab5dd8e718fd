use Rattle.std.proofs.Common.{◌≡◌, length, subst, sym, arith}
use Rattle.rtl_flat.specs.Flats.{flat}
use Rattle.check_chains.proofs.check_found_proofs.Sites.{task_count}
use Rattle.check_gates.specs.Forms.{AreForms}
use Rattle.check_gates.proofs.Forming.{forms_next, forms_none}
use Rattle.check_gates.proofs.Waiting.{task_there}
use Rattle.check_gates.proofs.form.forms.Goals as goal

pub loop-number-init : goal.loop-number-init
loop-number-init c =
    let d = flat c.args.scans.now.design.now in
    subst (AreForms d 0) (sym c.new-forms.ensures.items) (forms_none d)

pub loop-number-preserved : goal.loop-number-preserved
loop-number-preserved c =
    let d = flat c.args.scans.now.design.now in
    let n = c.loop-number.number in
    let (task, there) = task_there c.args.scans.now.design.now n (omega arith) in
    forms_next d n task c.loop-number.forms.items c.push.new.self.items c.in_ok-form.form there c.loop-number.invariant (c.in_ok-form.ensures task there) c.in_ok-push.ensures.items

pub returns : goal.returns
returns c =
    let d = flat c.args.scans.now.design.now in
    let count = task_count c.args.scans.now.design.now in
    let same : c.loop-number.number ≡ length d.tasks = omega (arith, count) in
    subst (λ n. AreForms d n c.loop-number.forms.items) same c.loop-number.invariant
