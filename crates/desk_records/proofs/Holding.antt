-- A keeper that tells the tables of the records tells them after a change too.
use Rattle.std.proofs.Common.{◌≡◌, Option, Some, None, sym, ap, subst}
use Rattle.std.specs.Prelude.{IfSome, option_map}
use Rattle.desk_tables.specs.Changes.{changed}
use Rattle.desk_tables.specs.Tables.{Kept}
use Rattle.desk_tables.specs.declared.change.Change.{Change}

-- what is told is this
abbrev pub Tells : Option Kept → Kept → Type 0
Tells told kept = IfSome told (λ held. held ≡ kept)

mapped : (change : Change) (told : Option Kept) (kept : Kept) → Tells told kept → Tells (option_map (changed change) told) (changed change kept)
mapped change None kept told = tt
mapped change (Some held) kept told = ap (changed change) told

pub told_after : (change : Change) (told told' : Option Kept) (kept kept' : Kept) → Tells told kept → told' ≡ option_map (changed change) told → kept' ≡ changed change kept → Tells told' kept'
told_after change told told' kept kept' tells moved made =
    let P : Option Kept → Type 0 = λ it. Tells it kept' in
    let Q : Kept → Type 0 = λ it. Tells (option_map (changed change) told) it in
    subst P (sym moved) (subst Q (sym made) (mapped change told kept tells))

pub told_same : (told told' : Option Kept) (kept kept' : Kept) → Tells told kept → told' ≡ told → kept' ≡ kept → Tells told' kept'
told_same told told' kept kept' tells same still =
    let P : Option Kept → Type 0 = λ it. Tells it kept' in
    let Q : Kept → Type 0 = λ it. Tells told it in
    subst P (sym same) (subst Q (sym still) tells)
