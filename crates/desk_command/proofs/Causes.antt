-- What the desk serves has the status 503 only where the keeper's count rose.
use Rattle.std.proofs.Common.{◌≡◌, ◌∙◌, ◌==◌, ℕ, true, false, refl, sym, eq-eqb, true≢false}
use Rattle.std.specs.Prelude.{ℤ}
use Rattle.desk_io.specs.Causes.{Rose}
use Rattle.desk_tables.specs.Changes.{changed, reply_of}
use Rattle.desk_tables.specs.Tables.{Kept}
use Rattle.desk_requests.specs.Replies.{Said}
use Rattle.desk_requests.specs.declared.ask.Request.{Request}
use Rattle.desk_core.specs.Machine.{AreAccepted}
use Rattle.desk_core.specs.Serving.{Accepted, Answered, IsServed, OutOfMemory, Served, Serves, Unavailable}
use Rattle.desk_core.proofs.Accepted.{replies_made}
use Rattle.desk_core.proofs.Statuses.{accepted_plain, made_accepted, told_plain}

-- a status that isn't 503 is another
pub no_failure : (status : ℕ) → (status == 503) ≡ false → status ≡ 503 → ⊥
no_failure status other is = true≢false (sym (eq-eqb status 503 is) ∙ other)

served_plain : (request : Request) (today : ℤ) (kept kept' : Kept) (answer : Said) → AreAccepted kept.replies → IsServed request today kept kept' answer → (answer.status == 503) ≡ false
served_plain request today kept kept' answer all (Answered told is) =
    told_plain request today kept told all is
served_plain request today kept kept' answer all (Accepted change is) =
    accepted_plain (reply_of change).status (made_accepted request today kept change all is)

pub serves_cause : (request : Request) (today : ℤ) (faults faults' : ℕ) (kept kept' : Kept) (answer : Said) → AreAccepted kept.replies → Serves request today faults faults' kept kept' answer → answer.status ≡ 503 → Rose faults faults'
serves_cause request today faults faults' kept kept' answer all (Served kept'' said served calm) is =
    absurd (no_failure said.status (served_plain request today kept kept'' said all served) is)
serves_cause request today faults faults' kept kept' answer all (Unavailable rose) is = rose
serves_cause request today faults faults' kept kept' answer all (OutOfMemory calm) is =
    absurd (no_failure 507 refl is)

-- ---- the kept replies stay to what was accepted

served_accepted : (request : Request) (today : ℤ) (kept kept' : Kept) (answer : Said) → AreAccepted kept.replies → IsServed request today kept kept' answer → AreAccepted kept'.replies
served_accepted request today kept kept' answer all (Answered told is) = all
served_accepted request today kept kept' answer all (Accepted change is) =
    replies_made change kept (changed change kept) all (made_accepted request today kept change all is) refl

pub serves_accepted : (request : Request) (today : ℤ) (faults faults' : ℕ) (kept kept' : Kept) (answer : Said) → AreAccepted kept.replies → Serves request today faults faults' kept kept' answer → AreAccepted kept'.replies
serves_accepted request today faults faults' kept kept' answer all (Served kept'' said served calm) =
    served_accepted request today kept kept'' said all served
serves_accepted request today faults faults' kept kept' answer all (Unavailable rose) = all
serves_accepted request today faults faults' kept kept' answer all (OutOfMemory calm) = all
