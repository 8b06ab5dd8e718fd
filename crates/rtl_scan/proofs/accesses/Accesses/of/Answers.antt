use Rattle.std.proofs.Common.{map, subst, List}
use Rattle.std.proofs.lemmas.Result.{IfOk-weaker}
use Rattle.rtl_flat.specs.declared.signal.Signal.{Signal}
use Rattle.rtl_flat.specs.declared.act.Process.{Process}
use Rattle.rtl_flat.specs.Process.{task}
use Rattle.rtl_scan.specs.Accesses.{AreAccesses}
use Rattle.rtl_scan.proofs.accesses.Accesses.of.Goals as goal

pub returns : goal.returns
returns c =
    IfOk-weaker c.accesses_of.result _ _
    (λ found are.
    subst (λ (ps : List Process). AreAccesses c.args.d.now.signals.items (map task ps) found) c.deref.ensures.value
    (subst (λ (ss : List Signal). AreAccesses ss (map task c.deref.result.now) found) c.widths_of.ensures are))
    c.accesses_of.ensures
