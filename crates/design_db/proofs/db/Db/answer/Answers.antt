use Rattle.std.proofs.Common.{subst}
use Rattle.std.specs.Prelude.{IfSome}
use Rattle.design_db.specs.Answers.{IsFresh}
use Rattle.design_db.specs.Shown.{store}
use Rattle.design_db.specs.Stores.{Store, answer_of, circuits_in, read_in}
use Rattle.design_db.proofs.Kept.{are_fresh, unread_fresh}
use Rattle.design_db.proofs.db.Db.answer.Goals as goal

pub returns-in-None-clause-fresh : goal.returns-in-None-clause-fresh
returns-in-None-clause-fresh c =
    let seen : Store = store c.self.inside.files c.self.inside.readings c.self.inside.memo in
    let P : Store → Type 0 = λ (it : Store). IfSome (answer_of it c.args.top.now) (IsFresh it.files c.args.top.now) in
    subst P c.self.view_is
    (are_fresh seen c.args.top.now c.self.invariant.store.rulings
    (λ zero answer is. unread_fresh seen.files c.args.top.now answer
    (c.all_refused.ensures seen.files seen.readings (circuits_in seen) answer c.self.invariant.store.readings zero is))
    (λ zero none ruling right current.
    c.still_fresh.ensures seen.files (read_in seen) ruling c.self.invariant.store.in_order right current
    (c.all_spelled.ensures seen.files seen.readings (circuits_in seen) c.self.invariant.store.readings zero none)
    (c.all_asked.ensures seen.files seen.readings (circuits_in seen) seen.conditions c.self.invariant.store.readings c.self.invariant.store.known zero none)))

pub returns-in-Some-clause-fresh : goal.returns-in-Some-clause-fresh
returns-in-Some-clause-fresh c =
    let seen : Store = store c.self.inside.files c.self.inside.readings c.self.inside.memo in
    let P : Store → Type 0 = λ (it : Store). IfSome (answer_of it c.args.top.now) (IsFresh it.files c.args.top.now) in
    subst P c.self.view_is
    (are_fresh seen c.args.top.now c.self.invariant.store.rulings
    (λ zero answer is. unread_fresh seen.files c.args.top.now answer
    (c.all_refused.ensures seen.files seen.readings (circuits_in seen) answer c.self.invariant.store.readings zero is))
    (λ zero none ruling right current.
    c.still_fresh.ensures seen.files (read_in seen) ruling c.self.invariant.store.in_order right current
    (c.all_spelled.ensures seen.files seen.readings (circuits_in seen) c.self.invariant.store.readings zero none)
    (c.all_asked.ensures seen.files seen.readings (circuits_in seen) seen.conditions c.self.invariant.store.readings c.self.invariant.store.known zero none)))
