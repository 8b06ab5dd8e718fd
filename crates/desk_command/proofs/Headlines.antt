-- A sign-off that is told to be clean is.
use Rattle.std.proofs.Common.{◌≡◌, ◌<◌, lit<, ℕ, List, sym, subst, arith}
use Rattle.desk_tables.specs.Tables.{Kept}
use Rattle.desk_requests.specs.Replies.{Said}
use Rattle.desk_requests.specs.declared.ask.Request.{Request}
use Rattle.desk_core.specs.Headline.{IsNewSignOff, IsSignedClean, SaysClean}
use Rattle.desk_core.specs.Serving.{ServesRightly}
use Rattle.desk_server.specs.Exchanges.{Around, Asks, IsAsked, IsReply, NoDay, OutOfMemory, Refused, Refuses, Served}
use Rattle.desk_server.proofs.Asked.{asked_same}

asks_other : (status : ℕ) (request : Request) → Refuses status ≡ Asks request → ⊥
asks_other status request same = cc

same_request : (a b : Request) → Asks a ≡ Asks b → a ≡ b
same_request a b same = cc

no_created : (status : ℕ) → 201 < status → status ≡ 201 → ⊥
no_created status above same = omega arith

pub told_clean : (input : List ℕ) (before after : Around) (kept later : Kept) (answer : Said)
    (request : Request) (top : List ℕ) → IsReply ServesRightly input before after kept later answer
    → IsAsked input (Asks request) → IsNewSignOff request kept top → SaysClean answer
    → IsSignedClean kept top
told_clean input before after kept later answer request top (Refused status refuses days) asks new clean =
    absurd (asks_other status request (asked_same input (Refuses status) (Asks request) refuses asks))
told_clean input before after kept later answer request top (Served other day kept' answer' asks' takes does calm) asks new clean =
    let same : request ≡ other =
    same_request request other (asked_same input (Asks request) (Asks other) asks asks') in
    does.trust top (subst (λ (r : Request). IsNewSignOff r kept top) same new) clean
told_clean input before after kept later answer request top (NoDay other asks' days rose still) asks new clean =
    absurd (no_created 503 (lit< tt) clean.accepted)
told_clean input before after kept later answer request top (OutOfMemory days still) asks new clean =
    absurd (no_created 507 (lit< tt) clean.accepted)
