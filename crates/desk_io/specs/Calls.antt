-- It serves inner contracts and proofs; no answer of the program is stated by it.
-- The calls of an object in memory, some of which fail.
use Rattle.std.specs.Prelude.{ℕ, ◌+◌, ◌-◌, ◌^◌, min, Bool, List, [], ◌∷◌, ◌++◌, nat_eq}
use Rattle.std.specs.List.{list_any}
use Rattle.desk_io.specs.declared.calls.Calls.{Calls}

-- how many calls were made, and the numbers of those that fail, where the first call has the number 1
pub record Schedule : Type 0 where
  pub made : ℕ
  pub failing : List ℕ

-- no call was made, and none fails
abbrev pub no_failures : Schedule
no_failures = record { made = 0; failing = [] }

-- the call of this number fails too
abbrev pub with_failure : Schedule → ℕ → Schedule
with_failure schedule call = record { made = schedule.made; failing = schedule.failing ++ call ∷ [] }

-- one more call was made; the count stops at the last value of a `u64`
abbrev pub after_call : Schedule → Schedule
after_call schedule = record { made = min (schedule.made + 1) (2 ^ 64 - 1); failing = schedule.failing }

-- the next call is one of those that fail
abbrev pub next_fails : Schedule → Bool
next_fails schedule = list_any (nat_eq (after_call schedule).made) schedule.failing

-- the schedule that an object's calls follow
abbrev pub schedule_of : Calls → Schedule
schedule_of calls = record { made = calls.made; failing = calls.failing.items }
