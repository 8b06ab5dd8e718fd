-- What a connection does: it hears its input, and says a reply or a front of one.
-- Worked examples: crates/tests_serving/stdin.
use Rattle.std.specs.Prelude.{◌≡◌, ℕ, List, [], ◌++◌, Option, None, Some, ⊤}
use Rattle.desk_io.specs.Causes.{Rose}
use Rattle.desk_tables.specs.Tables.{Kept}
use Rattle.desk_requests.specs.Replies.{Said}
use Rattle.desk_links.specs.Links.{Talk}
use Rattle.desk_service.specs.Service.{Serving}
use Rattle.desk_server.specs.Exchanges.{Around, IsInvited, IsReply, reply_bytes}
use Rattle.desk_server.specs.declared.exchange.Served.{Served}
use Rattle.desk_server.specs.declared.exchange.Served.TheVariants.{Replied, Dropped}

-- it was dropped after a front of the reply was written
pub record IsCut (faults faults' : ℕ) (reply written : List ℕ) : Type 0 where
  pub lost : List ℕ
  pub front : reply ≡ written ++ lost
  pub cause : Rose faults faults'

-- the whole reply was written; or a call of the link failed, and a front of the reply was
abbrev pub IsDelivered : Served → ℕ → ℕ → Said → List ℕ → Type 0
IsDelivered (Replied status) faults faults' answer written =
    (status ≡ answer.status) × (written ≡ reply_bytes answer)
IsDelivered Dropped faults faults' answer written =
    IsCut faults faults' (reply_bytes answer) written

-- a connection with this input, to which this is written: what its head waits for and a reply; or where a call
-- of the link failed before all was heard, nothing or a front of what its head waits for
pub data IsConnected (serves : Serving) (input written : List ℕ) (faults faults' : ℕ) (before after : Around) (kept : Kept) : Kept → Served → Type 0 where
  Answered :
      (first rest : List ℕ) (kept' : Kept) (answer : Said) (served : Served) →
      IsInvited input first → written ≡ first ++ rest →
      IsReply serves input before after kept kept' answer →
      IsDelivered served faults faults' answer rest →
      IsConnected serves input written faults faults' before after kept kept' served
  Unheard :
      written ≡ [] → after ≡ before → Rose faults faults' →
      IsConnected serves input written faults faults' before after kept kept Dropped
  HalfHeard :
      (first lost : List ℕ) → IsInvited input first → first ≡ written ++ lost →
      after ≡ before → Rose faults faults' →
      IsConnected serves input written faults faults' before after kept kept Dropped

-- the talk of a link went on to the end of a connection: what was left is the input, and what was
-- said is written behind what was; what isn't told is some input
abbrev pub IsTalk : Option Talk → Option Talk → List ℕ → List ℕ → Type 0
IsTalk None after input written = ⊤
IsTalk (Some before) None input written = ⊥
IsTalk (Some before) (Some after) input written =
    (before.left ≡ input) × (after.read ++ after.left ≡ before.read ++ before.left)
    × (after.written ≡ before.written ++ written)

-- the connection holds of the link's whole input, or where that isn't told, of some input
pub record OverTalk (talk talk' : Option Talk) (P : List ℕ → List ℕ → Type 0) : Type 0 where
  pub input : List ℕ
  pub written : List ℕ
  pub talks : IsTalk talk talk' input written
  pub holds : P input written
