use Rattle.std.proofs.Common.{length, map, subst, List}
use Rattle.std.proofs.lemmas.Result.{IfOk-weaker}
use Rattle.rtl_flat.specs.Process.{task}
use Rattle.rtl_scan.specs.declared.usages.Usage.{Usage}
use Rattle.rtl_scan.specs.Usage.{AreAnswers}
use Rattle.rtl_scan.proofs.Processes.{length-tasks}
use Rattle.rtl_scan.proofs.Users.{answer_is}
use Rattle.rtl_scan.proofs.usages.temporaries_of.Goals as goal

pub returns-clause-each : goal.returns-clause-each
returns-clause-each c =
    let signals = c.args.widths.signals.now in
    let processes = c.args.processes.now in
    IfOk-weaker c.answers.result _ _
    (λ answers are. answer_is signals (map task processes) (length processes) c.in_ok-usages.usages.items answers.items (length-tasks processes) c.in_ok-usages.ensures
    (subst (λ (us : List Usage). AreAnswers signals us (length signals) answers.items) c.deref.ensures.value are))
    c.answers.ensures
