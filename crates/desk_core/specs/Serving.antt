-- What a request is answered, and what the tables are after it.
-- Worked examples: crates/tests_serving/stdin.
use Rattle.std.specs.Prelude.{◌≡◌, ℕ, ℤ, false}
use Rattle.desk_io.specs.Causes.{Rose}
use Rattle.desk_tables.specs.Changes.{changed, reply_of}
use Rattle.desk_tables.specs.Tables.{Kept}
use Rattle.desk_tables.specs.declared.change.Change.{Change}
use Rattle.desk_requests.specs.Replies.{Said}
use Rattle.desk_requests.specs.declared.ask.Request.{Request}
use Rattle.desk_service.specs.Service.{is_accepted, no_memory, unavailable}
use Rattle.desk_records.specs.Outcomes.{Told, Done, kept_said}
use Rattle.desk_core.specs.Headline.{IsTrustworthy}
use Rattle.desk_core.specs.Outcomes.{IsOutcome}

-- the machine: on a day, tables and a request give tables and a reply; a refusal leaves them, and
-- what is accepted keeps its reply
pub data IsServed (request : Request) (today : ℤ) (kept : Kept) : Kept → Said → Type 0 where
  Answered :
      (answer : Said) → IsOutcome request today kept (Told answer) →
      IsServed request today kept kept answer
  Accepted :
      (change : Change) → IsOutcome request today kept (Done change) →
      IsServed request today kept (changed change kept) (kept_said (reply_of change))

-- the reply says that nothing was accepted
abbrev pub Leaves : Said → Type 0
Leaves answer = is_accepted answer.status ≡ false

-- the reply is that of the machine; or the keeper failed, which nothing else counts, or there was no
-- memory, and then the tables stay
pub data Serves (request : Request) (today : ℤ) (faults faults' : ℕ) (kept : Kept) : Kept → Said → Type 0 where
  Served :
      (kept' : Kept) (answer : Said) → IsServed request today kept kept' answer →
      faults' ≡ faults → Serves request today faults faults' kept kept' answer
  Unavailable : Rose faults faults' → Serves request today faults faults' kept kept unavailable
  OutOfMemory : faults' ≡ faults → Serves request today faults faults' kept kept no_memory

-- what the desk does with a request: it serves it, and a sign-off that is told to be clean is
pub record ServesRightly (request : Request) (today : ℤ) (faults faults' : ℕ) (kept kept' : Kept) (answer : Said) : Type 0 where
  pub serves : Serves request today faults faults' kept kept' answer
  pub trust : IsTrustworthy request kept answer
