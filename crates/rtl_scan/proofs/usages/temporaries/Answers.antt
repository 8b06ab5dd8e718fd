use Rattle.std.proofs.Common.{ℕ, ◌≡◌, map, true, Some, subst, List}
use Rattle.std.specs.Prelude.{◌↔◌}
use Rattle.std.specs.List.{slice_get}
use Rattle.std.proofs.lemmas.Result.{IfOk-weaker}
use Rattle.rtl_flat.specs.declared.signal.Signal.{Signal}
use Rattle.rtl_flat.specs.declared.act.Process.{Process}
use Rattle.rtl_flat.specs.Process.{task}
use Rattle.rtl_flat.specs.PathSets.{IsTemporary}
use Rattle.rtl_scan.proofs.usages.temporaries.Goals as goal

pub returns-clause-each : goal.returns-clause-each
returns-clause-each c =
    IfOk-weaker c.temporaries_of.result _ _
    (λ answers is.
    subst (λ (ps : List Process). (s : ℕ) → slice_get answers.items s ≡ Some true ↔ IsTemporary c.args.d.now.signals.items (map task ps) s) c.deref.ensures.value
    (subst (λ (ss : List Signal). (s : ℕ) → slice_get answers.items s ≡ Some true ↔ IsTemporary ss (map task c.deref.result.now) s) c.widths_of.ensures is))
    c.temporaries_of.ensures.each
