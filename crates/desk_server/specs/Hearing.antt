-- It serves inner contracts and proofs; no answer of the program is stated by it.
-- What is heard on a link, and what is said.
use Rattle.std.specs.Prelude.{◌≡◌, ◌<◌, ◌≤◌, ◌⊎◌, ℕ, List, [], ◌++◌, length, take, Option, None, Some, Result, Ok, Err, OnOk, Vec, ⊤}
use Rattle.std.specs.declared.alloc.Global.{Global}
use Rattle.httparse.specs.Grammar.{RequestHead}
use Rattle.desk_io.specs.declared.failed.Failed.{Failed}
use Rattle.desk_links.specs.Links.{GoesOn, IsAtEnd, Talk}
use Rattle.desk_requests.specs.declared.ask.Request.{Request}
use Rattle.desk_http.specs.Heads.{BeginsWith, HasNoHead}
use Rattle.desk_http.specs.declared.fault.BadRequest.TheVariants.{Malformed, Memory, NotFound}
use Rattle.desk_server.specs.Exchanges.{Asked, Asks, IsAsked, IsInvited, Refuses}
use Rattle.desk_server.specs.declared.hear.Unheard.{Unheard}
use Rattle.desk_server.specs.declared.hear.Unheard.TheVariants as unheard

-- what is left to be read, where the link tells it
abbrev pub left_of : Option Talk → List ℕ
left_of None = []
left_of (Some talk) = talk.left

-- bytes were heard, and this holds of them
pub record Hears (talk talk' : Option Talk) (P : List ℕ → Type 0) : Type 0 where
  pub heard : List ℕ
  pub goes : GoesOn talk talk' heard []
  pub holds : P heard

-- it holds of what was heard with what is left
abbrev pub HearsInput : Option Talk → Option Talk → (List ℕ → Type 0) → Type 0
HearsInput talk talk' P = Hears talk talk' (λ heard. P (heard ++ left_of talk'))

-- bytes were heard and bytes were said, and this holds of all that comes and of what was said
pub record HearsOver (talk talk' : Option Talk) (P : List ℕ → List ℕ → Type 0) : Type 0 where
  pub heard : List ℕ
  pub said : List ℕ
  pub goes : GoesOn talk talk' heard said
  pub holds : P (heard ++ left_of talk') said

-- what comes behind these bytes doesn't settle which head is at their front
abbrev pub IsSettled : List ℕ → Type 0
IsSettled bytes =
    ((written : RequestHead) × BeginsWith bytes written) ⊎ ((more : List ℕ) → HasNoHead (bytes ++ more))

-- bytes were put into a front of a buffer
abbrev pub HearsFront : Option Talk → Option Talk → List ℕ → Result ℕ Failed → Type 0
HearsFront talk talk' buf (Ok count) =
    GoesOn talk talk' (take count buf) [] × (IsSettled (take count buf) ⊎ IsAtEnd talk')
HearsFront talk talk' buf (Err fault) = Hears talk talk' (λ _. ⊤)

-- bytes were put behind those that are there
pub record Grows (talk talk' : Option Talk) (before after : List ℕ) (count : ℕ) : Type 0 where
  pub heard : List ℕ
  pub goes : GoesOn talk talk' heard []
  pub grown : after ≡ before ++ heard
  pub counted : length heard ≡ count

-- what ends the hearing whatever comes: a call of the link failed, or memory is wanting
abbrev pub IsStop : Unheard → Type 0
IsStop (unheard.Refused Malformed) = ⊥
IsStop (unheard.Refused NotFound) = ⊥
IsStop (unheard.Refused Memory) = ⊤
IsStop unheard.TooLong = ⊥
IsStop unheard.Failed = ⊤

-- a body of so many bytes, of all that comes behind a head
abbrev pub IsBody : ℕ → Result (Vec ℕ Global) Unheard → List ℕ → Type 0
IsBody count (Ok body) rest = (body.items ≡ take count rest) × (count ≤ length rest)
IsBody count (Err (unheard.Refused Malformed)) rest = length rest < count
IsBody count (Err (unheard.Refused NotFound)) rest = ⊥
IsBody count (Err (unheard.Refused Memory)) rest = ⊤
IsBody count (Err unheard.TooLong) rest = ⊥
IsBody count (Err unheard.Failed) rest = ⊤

-- this was heard where that is asked
abbrev pub HeardAs : Result Request Unheard → Asked → Type 0
HeardAs (Ok request) asked = asked ≡ Asks request
HeardAs (Err (unheard.Refused Malformed)) asked = asked ≡ Refuses 400
HeardAs (Err (unheard.Refused NotFound)) asked = asked ≡ Refuses 404
HeardAs (Err (unheard.Refused Memory)) asked = ⊤
HeardAs (Err unheard.TooLong) asked = asked ≡ Refuses 413
HeardAs (Err unheard.Failed) asked = ⊤

-- this was heard where the input is that
abbrev pub IsHeard : Result Request Unheard → List ℕ → Type 0
IsHeard (Ok request) input = IsAsked input (Asks request)
IsHeard (Err (unheard.Refused Malformed)) input = IsAsked input (Refuses 400)
IsHeard (Err (unheard.Refused NotFound)) input = IsAsked input (Refuses 404)
IsHeard (Err (unheard.Refused Memory)) input = ⊤
IsHeard (Err unheard.TooLong) input = IsAsked input (Refuses 413)
IsHeard (Err unheard.Failed) input = ⊤

-- the bytes are a front of these
pub record IsFront (front whole : List ℕ) : Type 0 where
  pub lost : List ℕ
  pub parts : whole ≡ front ++ lost

-- this was heard behind what was to be said first, where that is asked
abbrev pub HeardBehind : Result Request Unheard → Asked → List ℕ → List ℕ → Type 0
HeardBehind (Err unheard.Failed) asked first said = IsFront said first
HeardBehind result asked first said = HeardAs result asked × (said ≡ first)

-- nothing was said before a call of the link failed, or a front of what was to be said first
pub data IsUnheard (input said : List ℕ) : Type 0 where
  Silent : said ≡ [] → IsUnheard input said
  Inviting : (first : List ℕ) → IsInvited input first → IsFront said first → IsUnheard input said

-- this was heard where the input is that, and this was said first
abbrev pub IsHeardOver : Result Request Unheard → List ℕ → List ℕ → Type 0
IsHeardOver (Err unheard.Failed) input said = IsUnheard input said
IsHeardOver result input said = IsHeard result input × IsInvited input said

-- a front of the bytes was said, and all of them where the call is done
pub record SaysFront (talk talk' : Option Talk) (bytes : List ℕ) (result : Result Unit Failed) : Type 0 where
  pub front : List ℕ
  pub lost : List ℕ
  pub parts : bytes ≡ front ++ lost
  pub goes : GoesOn talk talk' [] front
  pub whole : OnOk result (lost ≡ [])

-- bytes were said, and this holds of them
pub record Says (talk talk' : Option Talk) (P : List ℕ → Type 0) : Type 0 where
  pub written : List ℕ
  pub goes : GoesOn talk talk' [] written
  pub holds : P written
