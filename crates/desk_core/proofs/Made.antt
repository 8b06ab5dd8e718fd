-- What is made of a change, and what is served with it.
use Rattle.std.proofs.Common.{◌≡◌, ℕ, true, refl, sym, subst}
use Rattle.std.specs.Prelude.{ℤ}
use Rattle.desk_io.specs.Causes.{Rose}
use Rattle.desk_tables.specs.Changes.{changed, reply_of}
use Rattle.desk_tables.specs.Tables.{Kept}
use Rattle.desk_tables.specs.declared.change.Change.{Change}
use Rattle.desk_requests.specs.Replies.{Said}
use Rattle.desk_requests.specs.declared.ask.Request.{Request}
use Rattle.desk_service.specs.Service.{is_accepted, is_answered, no_memory, unavailable}
use Rattle.desk_records.specs.Outcomes.{Told, Done, kept_said}
use Rattle.desk_core.specs.Outcomes.{IsOutcome}
use Rattle.desk_core.specs.Serving.{Answered, Accepted, Serves, Served, Unavailable, OutOfMemory}
use Rattle.desk_core.proofs.Accepted.{accepted_answered}
use Rattle.desk_core.specs.Steps.{IsMade, Made, Unkept, NoMemory}

-- ---- changes

pub is_made : (change : Change) (faults faults' : ℕ) (kept kept' : Kept) (answer : Said) → kept' ≡ changed change kept → answer ≡ kept_said (reply_of change) → faults' ≡ faults → IsMade change faults faults' kept kept' answer
is_made change faults faults' kept kept' answer moved says same =
    let P : Kept → Type 0 = λ it. IsMade change faults faults' kept it answer in
    let Q : Said → Type 0 = λ it. IsMade change faults faults' kept (changed change kept) it in
    subst P (sym moved) (subst Q (sym says) (Made same))

pub is_unkept : (change : Change) (faults faults' : ℕ) (kept kept' : Kept) (answer : Said) → kept' ≡ kept → answer ≡ unavailable → Rose faults faults' → IsMade change faults faults' kept kept' answer
is_unkept change faults faults' kept kept' answer stays says rose =
    let P : Kept → Type 0 = λ it. IsMade change faults faults' kept it answer in
    let Q : Said → Type 0 = λ it. IsMade change faults faults' kept kept it in
    subst P (sym stays) (subst Q (sym says) (Unkept rose))

pub is_unmade : (change : Change) (faults faults' : ℕ) (kept kept' : Kept) (answer : Said) → kept' ≡ kept → answer ≡ no_memory → faults' ≡ faults → IsMade change faults faults' kept kept' answer
is_unmade change faults faults' kept kept' answer stays says same =
    let P : Kept → Type 0 = λ it. IsMade change faults faults' kept it answer in
    let Q : Said → Type 0 = λ it. IsMade change faults faults' kept kept it in
    subst P (sym stays) (subst Q (sym says) (NoMemory same))

-- ---- requests

pub serves_made : (request : Request) (today : ℤ) (change : Change) (faults faults' : ℕ) (kept records kept' : Kept) (answer : Said) → records ≡ kept → IsOutcome request today records (Done change) → IsMade change faults faults' records kept' answer → Serves request today faults faults' kept kept' answer
serves_made request today change faults faults' kept records kept' answer same is made =
    let P : Kept → Type 0 = λ it. Serves request today faults faults' it kept' answer in
    subst P same (by kept' answer made)
  where
    by : (after : Kept) (says : Said) → IsMade change faults faults' records after says → Serves request today faults faults' records after says
    by after says (Made still) =
        Served (changed change records) (kept_said (reply_of change)) (Accepted change is) still
    by after says (Unkept rose) = Unavailable rose
    by after says (NoMemory still) = OutOfMemory still

pub serves_told : (request : Request) (today : ℤ) (faults faults' : ℕ) (kept records : Kept) (answer : Said) → records ≡ kept → IsOutcome request today records (Told answer) → faults' ≡ faults → Serves request today faults faults' kept records answer
serves_told request today faults faults' kept records answer same is calm =
    let P : Kept → Type 0 = λ it. Serves request today faults faults' it records answer in
    subst P same (Served records answer (Answered answer is) calm)

pub serves_none : (request : Request) (today : ℤ) (faults faults' : ℕ) (kept records : Kept) (answer : Said) → records ≡ kept → answer ≡ no_memory → faults' ≡ faults → Serves request today faults faults' kept records answer
serves_none request today faults faults' kept records answer same says calm =
    let P : Kept → Type 0 = λ it. Serves request today faults faults' it records answer in
    let Q : Said → Type 0 = λ it. Serves request today faults faults' records records it in
    subst P same (subst Q (sym says) (OutOfMemory calm))

-- ---- statuses

pub made_status : (change : Change) (faults faults' : ℕ) (kept kept' : Kept) (answer : Said) → is_accepted (reply_of change).status ≡ true → IsMade change faults faults' kept kept' answer → is_answered answer.status ≡ true
made_status change faults faults' kept kept' answer is (Made same) =
    accepted_answered (reply_of change).status is
made_status change faults faults' kept kept' answer is (Unkept rose) = refl
made_status change faults faults' kept kept' answer is (NoMemory same) = refl
