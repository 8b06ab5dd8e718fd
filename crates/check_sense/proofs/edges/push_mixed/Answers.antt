use Rattle.std.proofs.Common.{◌∙◌, ap, sym, subst, [], ◌∷◌, ◌++◌, List}
use Rattle.rtl_flat.specs.Process.{doing, task}
use Rattle.rtl_rule.specs.declared.finding.Finding.{Finding}
use Rattle.rtl_rule.specs.declared.rule.Rule.TheVariants.{MixedEdges}
use Rattle.rtl_rule.specs.Parts.{found, within}
use Rattle.check_found.specs.Gathered.{Gets, task_sites}
use Rattle.check_found.proofs.Gathering.{gets_one}
use Rattle.check_sense.specs.Sense.{IsMixedEdges, first_level, mixed_edges_at}
use Rattle.check_sense.specs.Telling.{itself}
use Rattle.check_sense.proofs.Findings.{some_item}
use Rattle.check_sense.proofs.edges.push_mixed.Goals as goal

pub returns-in_ok-push : goal.returns-in_ok-push
returns-in_ok-push c = λ p.
    let process = c.args.process.now in
    let old = c.args.found.now.items in
    let site = within (p, task process) (doing process.does) in
    let pushed = c.in_ok-push.ensures.items ∙ ap (λ signal. old ++ found MixedEdges site signal ∷ []) c.in-Some.ensures in
    subst (λ (new : List Finding). Gets IsMixedEdges mixed_edges_at (task_sites itself p (task process)) old new) (sym pushed)
    (gets_one IsMixedEdges mixed_edges_at old site (some_item (first_level (doing process.does)) c.in-Some.signal c.in-Some.ensures))
