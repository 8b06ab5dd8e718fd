-- It serves inner contracts and proofs; no answer of the program is stated by it.
-- What is told of a file.
use Rattle.std.specs.Prelude.{◌≡◌, ◌++◌, ℕ, List, Result, Ok, Err}
use Rattle.desk_steps.specs.declared.file.StepsFault.{StepsFault}
use Rattle.desk_steps.specs.declared.file.StepsFault.TheVariants.{Malformed, Memory}

-- whether a fault is that of a reading, or want of memory
abbrev pub IsTold : {A : Type 0} → StepsFault → Result A ℕ → Type 0
IsTold Memory reading = Unit {0}
IsTold (Malformed number) reading = reading ≡ Err number

-- steps before those that are read
abbrev pub joined : {A : Type 0} → List A → Result (List A) ℕ → Result (List A) ℕ
joined steps (Ok others) = Ok (steps ++ others)
joined steps (Err number) = Err number
