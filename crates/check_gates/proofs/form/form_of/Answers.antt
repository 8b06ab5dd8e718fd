use Rattle.std.proofs.Common.{◌≡◌, ◌∙◌, None, map, ap, sym, subst}
use Rattle.std.proofs.lemmas.Option.{same_Some}
use Rattle.std.proofs.lemmas.Result.{IfOk-weaker}
use Rattle.rtl_flat.specs.Process.{Task, action, body_of, doing, task}
use Rattle.rtl_flat.specs.declared.act.Does.TheVariants as variant
use Rattle.rtl_flat.specs.Flats.{flat}
use Rattle.check_chains.proofs.check_found_proofs.Sites.{task_at}
use Rattle.check_gates.specs.Forms.{IsBodyForm, IsFormOf}
use Rattle.check_gates.proofs.Forming.{comb_form, no_form}
use Rattle.check_gates.proofs.form.form_of.Goals as goal

pub returns-in-Assign : goal.returns-in-Assign
returns-in-Assign c = λ one there.
    let design = c.args.scans.now.design.now in
    let process = c.index.result.now in
    let here = task_at design c.args.p.0 process c.requires.there c.index.ensures in
    let at : task process ≡ one = same_Some (task process) one (sym here ∙ there) in
    subst (λ (t : Task). IsFormOf (flat design) t.does None) at
    (no_form (flat design) (doing process.does) (λ list body is. let both = sym (ap doing c.in-Assign.is) ∙ is in absurd (cc)))

pub returns-in-Edge : goal.returns-in-Edge
returns-in-Edge c = λ one there.
    let design = c.args.scans.now.design.now in
    let process = c.index.result.now in
    let here = task_at design c.args.p.0 process c.requires.there c.index.ensures in
    let at : task process ≡ one = same_Some (task process) one (sym here ∙ there) in
    subst (λ (t : Task). IsFormOf (flat design) t.does None) at
    (no_form (flat design) (doing process.does) (λ list body is. let both = sym (ap doing c.in-Edge.is) ∙ is in absurd (cc)))

pub returns-in-Comb : goal.returns-in-Comb
returns-in-Comb c =
    let design = c.args.scans.now.design.now in
    let d = flat design in
    let process = c.index.result.now in
    let here = task_at design c.args.p.0 process c.requires.there c.index.ensures in
    IfOk-weaker c.body_form.result _ _ (λ form is one there.
    let at : task process ≡ one = same_Some (task process) one (sym here ∙ there) in
    let does : one.does ≡ doing (variant.Comb c.in-Comb.list c.in-Comb.body) = sym (ap (λ (t : Task). t.does) at) ∙ ap doing c.in-Comb.is in
    comb_form d one.does _ _ form does
    (subst (λ l. IsBodyForm d one.does (body_of (map action l)) form) c.deref.ensures.value (is one there))) c.body_form.ensures
