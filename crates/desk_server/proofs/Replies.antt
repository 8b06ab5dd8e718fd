-- What is answered where no request was heard, and on a day.
use Rattle.std.proofs.Common.{◌≡◌, ℕ, ℤ, ◌⊎◌, inl, inr, List, Option, None, Some, Ok, Err, codes, sym, subst, refl}
use Rattle.desk_io.specs.Causes.{Rose}
use Rattle.desk_io.specs.declared.failed.Failed.{Failed}
use Rattle.desk_links.specs.Clocks.{GivesFirst}
use Rattle.desk_requests.specs.Replies.{Said}
use Rattle.desk_tables.specs.Tables.{Kept}
use Rattle.desk_requests.specs.declared.ask.Request.{Request}
use Rattle.desk_http.specs.Refusals.{refusal_line, refusal_status}
use Rattle.desk_http.specs.declared.fault.BadRequest.{BadRequest}
use Rattle.desk_http.specs.declared.fault.BadRequest.TheVariants.{Malformed, Memory, NotFound}
use Rattle.desk_service.specs.Service.{Serving, no_memory, plainly, unavailable}
use Rattle.desk_server.specs.Exchanges.{Around, Asks, IsAsked, IsReply, NoDay, OutOfMemory, Refused, Refuses, Served, TakesDay, TakesNoDay, refused_with}
use Rattle.desk_server.specs.Hearing.{IsHeard}
use Rattle.desk_server.specs.declared.hear.Unheard.TheVariants as unheard

none_taken : (days : Option (List ℤ)) → TakesNoDay days days
none_taken None = tt
none_taken (Some days) = refl

pub wanting : {serves : Serving} (input : List ℕ) (around : Around) (kept : Kept) → IsReply serves input around around kept kept no_memory
wanting input around kept = OutOfMemory (none_taken around.days) refl

refusing : {serves : Serving} (input : List ℕ) (around : Around) (kept : Kept) (status : ℕ) (answer : Said)
    → (answer ≡ refused_with status) ⊎ (answer ≡ no_memory) → IsAsked input (Refuses status)
    → IsReply serves input around around kept kept answer
refusing {serves} input around kept status answer (inl is) asked =
    subst (IsReply serves input around around kept kept) (sym is) (Refused status asked refl)
refusing {serves} input around kept status answer (inr is) asked =
    subst (IsReply serves input around around kept kept) (sym is) (wanting input around kept)

-- the reply of a fault
pub fault_answer : {serves : Serving} (input : List ℕ) (around : Around) (kept : Kept) (fault : BadRequest) (answer : Said)
    → (fault ≡ Memory → ⊥)
    → (answer ≡ plainly (refusal_status fault) (refusal_line fault)) ⊎ (answer ≡ no_memory)
    → IsHeard (Err (unheard.Refused fault)) input → IsReply serves input around around kept kept answer
fault_answer input around kept Malformed answer other is asked = refusing input around kept 400 answer is asked
fault_answer input around kept NotFound answer other is asked = refusing input around kept 404 answer is asked
fault_answer input around kept Memory answer other is asked = absurd (other refl)

pub long_reply : {serves : Serving} (input : List ℕ) (around : Around) (kept : Kept) (answer : Said)
    → (answer ≡ plainly 413 (codes "Payload Too Large\n")) ⊎ (answer ≡ no_memory)
    → IsHeard (Err unheard.TooLong) input → IsReply serves input around around kept kept answer
long_reply input around kept answer is asked = refusing input around kept 413 answer is asked

took_none : (days days' : Option (List ℤ)) (fault : Failed) → GivesFirst days days' (Err fault) → TakesNoDay days days'
took_none None days' fault gives = tt
took_none (Some days) None fault gives = gives
took_none (Some days) (Some days') fault gives = gives

took : (days days' : Option (List ℤ)) (day : ℤ) → GivesFirst days days' (Ok day) → TakesDay days days' day
took None days' day gives = tt
took (Some days) None day gives = gives
took (Some days) (Some days') day gives = gives

-- the clock fails
pub no_day : {serves : Serving} (input : List ℕ) (before after : Around) (kept : Kept) (request : Request) (fault : Failed) (answer : Said)
    → (answer ≡ unavailable) ⊎ (answer ≡ no_memory) → IsAsked input (Asks request)
    → GivesFirst before.days after.days (Err fault) → Rose before.clock after.clock
    → after.keeper ≡ before.keeper
    → IsReply serves input before after kept kept answer
no_day {serves} input before after kept request fault answer (inl is) asked gives rose still =
    subst (IsReply serves input before after kept kept) (sym is)
    (NoDay request asked (took_none before.days after.days fault gives) rose still)
no_day {serves} input before after kept request fault answer (inr is) asked gives rose still =
    subst (IsReply serves input before after kept kept) (sym is)
    (OutOfMemory (took_none before.days after.days fault gives) still)

-- a request is served
pub on_day : {serves : Serving} (input : List ℕ) (before after : Around) (kept kept' : Kept) (request : Request) (day : ℤ) (answer : Said)
    → IsAsked input (Asks request) → GivesFirst before.days after.days (Ok day)
    → serves request day before.keeper after.keeper kept kept' answer → after.clock ≡ before.clock
    → IsReply serves input before after kept kept' answer
on_day input before after kept kept' request day answer asked gives does calm =
    Served request day kept' answer asked (took before.days after.days day gives) does calm
