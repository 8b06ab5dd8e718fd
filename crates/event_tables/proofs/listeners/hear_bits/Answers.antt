use Rattle.std.proofs.Common.{◌<◌, ◌∙◌, ap, length, List, subst, arith}
use Rattle.std.proofs.lemmas.Result.{on_ok_weaker}
use Rattle.event_write.specs.declared.listener.Listener.{Listener}
use Rattle.event_tables.specs.Hearing.{Joins}
use Rattle.event_tables.proofs.Ears.{row_get, hears_joined, hears_past}
use Rattle.event_tables.proofs.listeners.hear_bits.Goals as goal

pub returns-then-place-len : goal.returns-then-place-len
returns-then-place-len c =
    hears_past c.args.process.0 c.args.edge c.args.bits c.args.listeners.now.items (omega arith)

pub returns : goal.returns
returns c =
    let old = c.args.listeners.now.items in
    let within : c.args.bits.signal.0 < length old = omega arith in
    on_ok_weaker c.join.result
    (λ h. hears_joined c.args.process c.args.edge c.args.bits old c.join.new.row within
    (subst (λ (xs : List Listener). Joins c.args.process c.args.edge c.args.bits.mask xs c.join.new.row.items) (ap (λ v. v.items) c.index_mut.ensures.value ∙ row_get old c.args.bits.signal.0 _ within) h))
    c.join.ensures
