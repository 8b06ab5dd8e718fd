use Rattle.std.proofs.Common.{◌⊎◌, ◌↔◌, ◌≡◌, ℕ, List, sym, subst}
use Rattle.std.specs.List.{Contains}
use Rattle.std.specs.List.Sorted.{IsStrictlyIncreasing}
use Rattle.elab_names.proofs.Ascending.{between, insert_ascends, insert_holds}
use Rattle.elab_names.proofs.used.insert.Goals as goal

pub returns-in_ok-insert-clause-ascending : goal.returns-in_ok-insert-clause-ascending
returns-in_ok-insert-clause-ascending c =
    let numbers = c.args.numbers.now.items in
    let n = c.args.number in
    let place = c.in-Err.place in
    let fits = between numbers c.deref.result.now place n c.deref.ensures.value c.requires c.in-Err.ensures.position in
    subst IsStrictlyIncreasing (sym c.in_ok-insert.ensures.items) (insert_ascends numbers place n fits c.requires)

pub returns-in_ok-insert-clause-each : goal.returns-in_ok-insert-clause-each
returns-in_ok-insert-clause-each c =
    let numbers = c.args.numbers.now.items in
    let n = c.args.number in
    let place = c.in-Err.place in
    let fits = between numbers c.deref.result.now place n c.deref.ensures.value c.requires c.in-Err.ensures.position in
    subst (λ (all : List ℕ). (other : ℕ) → Contains all other ↔ (Contains numbers other ⊎ other ≡ n)) (sym c.in_ok-insert.ensures.items) (insert_holds numbers place n fits)
