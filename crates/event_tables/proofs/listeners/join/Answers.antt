use Rattle.std.proofs.Common.{◌∙◌, ◌++◌, ◌∷◌, [], List, refl, ap, sym, subst}
use Rattle.event_write.specs.declared.listener.Listener.{Listener}
use Rattle.event_tables.specs.Hearing.{IsLike, Joins}
use Rattle.event_tables.proofs.Joining.{joins_pushed, joins_there}
use Rattle.event_tables.proofs.listeners.join.Goals as goal

pub returns-in-Some : goal.returns-in-Some
returns-in-Some c =
    joins_there c.args.process c.args.edge c.args.mask c.args.row.now.items c.in-Some.at c.index_mut.result.now (subst (λ (xs : List Listener). IsLike xs c.in-Some.at c.args.edge c.args.mask) c.deref.ensures.value c.in-Some.ensures) c.index_mut.ensures.value c.push.new.self c.in_ok-push.ensures.items

pub returns : goal.returns
returns c =
    subst (λ (xs : List Listener). Joins c.args.process c.args.edge c.args.mask c.args.row.now.items xs) (sym c.in_ok-push-3.ensures.items)
    (joins_pushed c.args.process c.args.edge c.args.mask c.args.row.now.items _ (c.in_ok-push-2.ensures.items ∙ ap (λ xs. xs ++ c.args.process ∷ []) c.new-processes.ensures.items) refl refl)
