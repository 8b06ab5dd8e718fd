use Rattle.std.proofs.Common.{◌≡◌, ◌∙◌, None, map, refl, ap, sym, subst}
use Rattle.std.proofs.lemmas.Option.{same_Some}
use Rattle.rtl_flat.specs.Expression.{tree}
use Rattle.rtl_flat.specs.Process.{doing, piece, task}
use Rattle.rtl_flat.specs.Flats.{flat}
use Rattle.check_chains.proofs.check_found_proofs.Sites.{task_at}
use Rattle.check_gates.specs.Links.{linked, whole_target}
use Rattle.check_gates.specs.Passed.{IsPassingLink}
use Rattle.check_gates.proofs.Passing.{assign_link, no_link, single}
use Rattle.check_gates.proofs.passed.passing_link.Goals as goal

pub returns-in-Assign : goal.returns-in-Assign
returns-in-Assign c = λ one there.
    let design = c.args.scans.now.design.now in
    let d = flat design in
    let process = c.index-process.result.now in
    let here = task_at design c.args.p.0 process c.requires.there c.index-process.ensures in
    let at : task process ≡ one = same_Some (task process) one (sym here ∙ there) in
    let rows = c.read_outside-bits.result.now.rows.items in
    let target = map piece c.in-Assign.target.parts.items in
    let link : IsPassingLink d (task process) c.connection.result =
    assign_link d (task process) target (tree c.in-Assign.value) (ap doing c.in-Assign.is) rows c.read_outside-bits.ensures.order
    (c.read_outside-bits.ensures.bits (task process) here) c.connection.result
    (c.connection.ensures ∙ ap (λ l. linked d process.instance (single l) (whole_target target)) c.deref.ensures.value) in
    subst (λ t. IsPassingLink d t c.connection.result) at link

pub returns-in-Comb : goal.returns-in-Comb
returns-in-Comb c = λ one there.
    let design = c.args.scans.now.design.now in
    let process = c.index-process.result.now in
    let here = task_at design c.args.p.0 process c.requires.there c.index-process.ensures in
    let at : task process ≡ one = same_Some (task process) one (sym here ∙ there) in
    let link : IsPassingLink (flat design) (task process) None =
    no_link (flat design) (task process) None refl (λ target value is. let both = sym (ap doing c.in-Comb.is) ∙ is in absurd (cc)) in
    subst (λ t. IsPassingLink (flat design) t None) at link

pub returns-in-Edge : goal.returns-in-Edge
returns-in-Edge c = λ one there.
    let design = c.args.scans.now.design.now in
    let process = c.index-process.result.now in
    let here = task_at design c.args.p.0 process c.requires.there c.index-process.ensures in
    let at : task process ≡ one = same_Some (task process) one (sym here ∙ there) in
    let link : IsPassingLink (flat design) (task process) None =
    no_link (flat design) (task process) None refl (λ target value is. let both = sym (ap doing c.in-Edge.is) ∙ is in absurd (cc)) in
    subst (λ t. IsPassingLink (flat design) t None) at link
