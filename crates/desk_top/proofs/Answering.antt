-- The answer of the desk, over the world that is told or some world.
use Rattle.std.proofs.Common.{◌≡◌, ◌≢◌, ◌∙◌, ℕ, List, Option, None, Some, Result, Ok, Err, true, false, refl, sym, ap, subst, arith}
use Rattle.desk_io.specs.Shelf.{Files}
use Rattle.desk_top.specs.declared.deliver.Stop.{Stop}
use Rattle.desk_top.specs.declared.deliver.Stop.TheVariants.{Unread, NoFile, Memory}
use Rattle.desk_top.specs.declared.deliver.Work.{Work}
use Rattle.desk_top.specs.declared.simulate.Plan.{Plan}
use Rattle.desk_top.specs.Words.{Order, Generate, is_sign, is_simulate, order}
use Rattle.desk_top.specs.Delivery.{Delivers, Finishes, IsWork, gave_up}
use Rattle.desk_top.specs.Outcome.{IsDone, IsGenerated, usage}
use Rattle.desk_top.specs.Plans.{IsPlan, Performs}
use Rattle.desk_top.specs.Answers.{OverWorld, IsAnswered, IsSignedClean}
use Rattle.desk_top.proofs.Answered.{answered, answered_usage, performed, signed_clean}
use Rattle.desk_top.proofs.Worlds.{over_map, over_any}

-- a command that is worked and finished is answered
pub over_answered : (files : Option Files) (words : List (List ℕ)) (command : Order) (work : Result Work Stop) (status : ℕ) (before now : Option (List ℕ))
    → Some command ≡ order words → OverWorld files (λ world. IsWork (IsDone world (Some command)) work) → Finishes work status before now
    → OverWorld files (IsAnswered words status before now)
over_answered files words command work status before now is over finishes =
    over_map {P = λ world. IsWork (IsDone world (Some command)) work} {Q = IsAnswered words status before now} files over
    (λ world wanted. answered words world command work status before now (sym is) wanted finishes)

-- what is generated is answered alike in every world
pub over_generated : (files : Option Files) (stages : ℕ) (work : Result Work Stop) → IsWork (IsGenerated stages) work → OverWorld files (λ world. IsWork (IsDone world (Some (Generate stages))) work)
over_generated files stages work is =
    over_any {P = λ world. IsWork (IsDone world (Some (Generate stages))) work} files (λ world. is)

-- work that reads nothing doesn't end as a read that failed
pub never_unread : (work : Result Work Stop) (status : ℕ) (before now : Option (List ℕ)) → work ≢ Err Unread → Finishes work status before now → status ≡ 4 → ⊥
never_unread (Ok work) status before now read finishes unread =
    let same : true ≡ false = ap gave_up (sym unread) ∙ finishes.0 in cc
never_unread (Err Unread) status before now read finishes unread = read refl
never_unread (Err NoFile) status before now read finishes unread = omega (arith, finishes.0, unread)
never_unread (Err Memory) status before now read finishes unread = omega (arith, finishes.0, unread)

-- a simulation that is planned and carried out is answered
pub over_performed : (files : Option Files) (words : List (List ℕ)) (command : Order) (plan : Result Plan Stop) (status : ℕ) (before now : Option (List ℕ))
    → Some command ≡ order words → is_simulate (Some command) ≡ true → OverWorld files (λ world. IsPlan (IsDone world (Some command)) plan) → Performs plan status before now
    → OverWorld files (IsAnswered words status before now)
over_performed files words command plan status before now is simulates over performs =
    over_map {P = λ world. IsPlan (IsDone world (Some command)) plan} {Q = IsAnswered words status before now} files over
    (λ world wanted. performed words world command plan status before now (sym is) simulates wanted performs)

-- words that are no command are answered by the usage
pub over_usage : (files : Option Files) (words : List (List ℕ)) (bytes : List ℕ) (status : ℕ) (before now : Option (List ℕ))
    → None ≡ order words → bytes ≡ usage → gave_up status ≡ false → Delivers (record { status = 3; bytes = bytes }) status before now
    → OverWorld files (IsAnswered words status before now)
over_usage files words bytes status before now is same done delivers =
    over_any {P = IsAnswered words status before now} files (λ world.
    answered_usage words world (record { status = 3; bytes = bytes }) status before now
    (subst (λ (o : Option Order). IsDone world o (record { status = 3; bytes = bytes })) is (ap (λ b. record { status = 3; bytes = b }) same)) done delivers)

-- the status 0 carries the headline
pub over_signed_clean : (files : Option Files) (words : List (List ℕ)) (status : ℕ) (before now : Option (List ℕ))
    → OverWorld files (IsAnswered words status before now) → is_sign (order words) ≡ true → status ≡ 0 → OverWorld files (IsSignedClean words before now)
over_signed_clean files words status before now over asked zero =
    over_map {P = IsAnswered words status before now} {Q = IsSignedClean words before now} files over
    (λ world is. signed_clean words world before now asked (subst (λ (n : ℕ). IsAnswered words n before now world) zero is))
