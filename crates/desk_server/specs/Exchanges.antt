-- What is asked on a connection by the whole of its input, and what is answered (RFC 9112).
-- Worked examples: crates/tests_serving/stdin.
use Rattle.std.specs.Prelude.{◌≡◌, ℕ, ℤ, List, [], ◌∷◌, ◌++◌, length, take, codes, nat_lt, ◌==◌, Option, None, Some, Result, Ok, Err, ⊤, if◌then◌else◌}
use Rattle.httparse.specs.Grammar.{RequestHead}
use Rattle.desk_io.specs.Causes.{Rose}
use Rattle.desk_tables.specs.Tables.{Kept}
use Rattle.desk_requests.specs.Replies.{Said}
use Rattle.desk_requests.specs.declared.ask.Request.{Request}
use Rattle.desk_http.specs.Expects.{continue_reply, waits}
use Rattle.desk_http.specs.Heads.{BeginsWith, HasNoHead, Heard, said}
use Rattle.desk_http.specs.Hosts.{served_length}
use Rattle.desk_http.specs.Refusals.{refusal_status}
use Rattle.desk_http.specs.Replies.{or_nothing, phrase, reply_head}
use Rattle.desk_http.specs.Requests.{request_of}
use Rattle.desk_http.specs.declared.fault.BadRequest.{BadRequest}
use Rattle.desk_http.specs.Limits.{MAX_BODY_BYTES}
use Rattle.desk_service.specs.Service.{Serving, no_memory, plainly, unavailable}

-- a request, or the status that says why there is none
pub data Asked : Type 0 where
  Asks : (request : Request) → Asked
  Refuses : (status : ℕ) → Asked

abbrev pub asked_of : Result Request BadRequest → Asked
asked_of (Ok request) = Asks request
asked_of (Err fault) = Refuses (refusal_status fault)

-- what is asked by a head and all that comes behind it, where so long a body is stated: none where
-- that isn't said or another host is named, where it is too long, and where it isn't whole
abbrev pub framed : Heard → List ℕ → Option ℕ → Asked
framed head rest None = Refuses 400
framed head rest (Some count) =
    if nat_lt MAX_BODY_BYTES count then Refuses 413
    else (if nat_lt (length rest) count then Refuses 400
    else asked_of (request_of head (take count rest)))

-- what is asked by the whole input: by the head that it begins with, or where it begins with none
pub data IsAsked (input : List ℕ) (asked : Asked) : Type 0 where
  Headed :
      (written : RequestHead) (begins : BeginsWith input written) →
      asked ≡ framed (said written) begins.rest (served_length (said written).lines) →
      IsAsked input asked
  Headless : HasNoHead input → asked ≡ Refuses 400 → IsAsked input asked

-- what is said before a body of this length is read: that it may come, where its head waits for that
abbrev pub invitation : Heard → ℕ → List ℕ
invitation head count = if waits head count then continue_reply else []

-- the same where the length is stated; a body that is too long isn't read
abbrev pub invited : Heard → Option ℕ → List ℕ
invited head None = []
invited head (Some count) = if nat_lt MAX_BODY_BYTES count then [] else invitation head count

-- what is said to the head that an input begins with before its body is read; nothing where it begins with none
pub data IsInvited (input first : List ℕ) : Type 0 where
  AtHead :
      (written : RequestHead) (begins : BeginsWith input written) →
      first ≡ invited (said written) (served_length (said written).lines) →
      IsInvited input first
  AtNone : HasNoHead input → first ≡ [] → IsInvited input first

-- the phrase of a status and a line feed
abbrev pub phrase_line : ℕ → List ℕ
phrase_line status = or_nothing (phrase status) ++ codes "\n"

-- a refusal that needs no tables
abbrev pub refused_with : ℕ → Said
refused_with status = plainly status (phrase_line status)

abbrev pub written_out : Said → List ℕ
written_out answer =
    reply_head answer.status answer.kind (length answer.body) ++ answer.body

-- the bytes of a reply: want of memory has always the same
abbrev pub reply_bytes : Said → List ℕ
reply_bytes answer =
    if answer.status == 507 then written_out (refused_with 507) else written_out answer

-- the day that is taken is the first that the clock gives, where it tells them
abbrev pub TakesDay : Option (List ℤ) → Option (List ℤ) → ℤ → Type 0
TakesDay None after day = ⊤
TakesDay (Some before) None day = ⊥
TakesDay (Some before) (Some after) day = before ≡ day ∷ after

-- no day is taken, where the clock tells them
abbrev pub TakesNoDay : Option (List ℤ) → Option (List ℤ) → Type 0
TakesNoDay None after = ⊤
TakesNoDay (Some before) None = ⊥
TakesNoDay (Some before) (Some after) = after ≡ before

-- what a connection changes and counts besides its link: the days of the clock and its faults, and
-- the faults of the keeper
pub record Around : Type 0 where
  pub days : Option (List ℤ)
  pub clock : ℕ
  pub keeper : ℕ

abbrev pub around : Option (List ℤ) → ℕ → ℕ → Around
around days clock keeper = record { days = days; clock = clock; keeper = keeper }

-- the reply to an input, and the tables after it, by what serves requests: the refusal of an input
-- that asks nothing; the service's on the day that the clock gives; or the clock failed, or there was no memory, and then the tables stay
pub data IsReply (serves : Serving) (input : List ℕ) (before after : Around) (kept : Kept) : Kept → Said → Type 0 where
  Refused :
      (status : ℕ) → IsAsked input (Refuses status) → after ≡ before →
      IsReply serves input before after kept kept (refused_with status)
  Served :
      (request : Request) (today : ℤ) (kept' : Kept) (answer : Said) →
      IsAsked input (Asks request) → TakesDay before.days after.days today →
      serves request today before.keeper after.keeper kept kept' answer →
      after.clock ≡ before.clock → IsReply serves input before after kept kept' answer
  NoDay :
      (request : Request) → IsAsked input (Asks request) →
      TakesNoDay before.days after.days → Rose before.clock after.clock →
      after.keeper ≡ before.keeper → IsReply serves input before after kept kept unavailable
  OutOfMemory :
      TakesNoDay before.days after.days → after.keeper ≡ before.keeper →
      IsReply serves input before after kept kept no_memory
