use Rattle.std.proofs.Common.{Ok, Err, arith, inl, inr}
use Rattle.std.proofs.lemmas.Bool.{cases_lt}
use Rattle.std.proofs.lemmas.List.Sorted.{searched}
use Rattle.elab_names.proofs.Ascending.{never_falls, place_absent, place_found}
use Rattle.elab_names.proofs.used.place_in.Goals as goal

pub returns-in-Ok : goal.returns-in-Ok
returns-in-Ok c =
    let numbers = c.args.numbers.now in
    let there = searched numbers c.args.number (Ok c.in-Ok.place) c.in-Ok.ensures.position (never_falls numbers c.requires) in
    place_found numbers c.in-Ok.place c.args.number c.requires there.0 there.1

pub returns-in-Err : goal.returns-in-Err
returns-in-Err c =
    let numbers = c.args.numbers.now in
    let (inside, less, more) = searched numbers c.args.number (Err c.in-Err.field-0) c.in-Err.ensures.position (never_falls numbers c.requires) in
    place_absent numbers c.args.number
    (λ k below is.
    elim (cases_lt k c.in-Err.field-0) [
      | inl before ↦ let rises = less k before in omega (arith, rises, is)
      | inr behind ↦ let rises = more k behind below in omega (arith, rises, is)
    ])
