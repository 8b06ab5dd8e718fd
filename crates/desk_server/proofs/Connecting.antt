-- How what is heard and what is said make a connection.
use Rattle.std.proofs.Common.{◌≤◌, ℕ, List, ◌++◌, Option, Result, Err, refl, arith}
use Rattle.desk_io.specs.Causes.{Rose}
use Rattle.desk_links.specs.Links.{Talk}
use Rattle.desk_tables.specs.Tables.{Kept}
use Rattle.desk_requests.specs.Replies.{Said}
use Rattle.desk_requests.specs.declared.ask.Request.{Request}
use Rattle.desk_service.specs.Service.{Serving}
use Rattle.desk_server.specs.Connections.{Answered, HalfHeard, IsConnected, IsDelivered, OverTalk, Unheard}
use Rattle.desk_server.specs.Exchanges.{Around, IsReply}
use Rattle.desk_server.specs.Hearing.{HearsOver, Inviting, IsHeard, IsHeardOver, IsUnheard, Says, Silent, left_of}
use Rattle.desk_server.specs.declared.exchange.Served.{Served}
use Rattle.desk_server.specs.declared.exchange.Served.TheVariants.{Dropped, Replied}
use Rattle.desk_server.specs.declared.hear.Unheard.{Unheard as Why}
use Rattle.desk_server.specs.declared.hear.Unheard.TheVariants as why
use Rattle.desk_server.proofs.Inviting.{IsKnown}
use Rattle.desk_server.proofs.Talks.{is_talk, is_talk-heard}

rose_since : (before middle after : ℕ) → before ≤ middle → Rose middle after → Rose before after
rose_since before middle after later rose = omega arith

delivered_since : (served : Served) (before middle after : ℕ) (answer : Said) (written : List ℕ)
    → before ≤ middle → IsDelivered served middle after answer written
    → IsDelivered served before after answer written
delivered_since (Replied status) before middle after answer written later it = it
delivered_since Dropped before middle after answer written later it = record {
  lost = it.lost;
  front = it.front;
  cause = rose_since before middle after later it.cause;
}

-- a reply is given to what was heard
pub connected_reply : {serves : Serving} (a b c : Option Talk) (heard : Result Request Why) (served : Served)
    (faults faults' faults'' : ℕ) (before after : Around) (kept kept' : Kept) (answer : Said)
    → HearsOver a b (IsKnown heard) → faults ≤ faults'
    → ((input : List ℕ) → IsHeard heard input → IsReply serves input before after kept kept' answer)
    → Says b c (IsDelivered served faults' faults'' answer)
    → OverTalk a c (λ input written. IsConnected serves input written faults faults'' before after kept kept' served)
connected_reply a b c heard served faults faults' faults'' before after kept kept' answer hears later reply says = record {
  input = hears.heard ++ left_of b;
  written = hears.said ++ says.written;
  talks = is_talk a b c hears.heard hears.said says.written hears.goes says.goes;
  holds = Answered hears.said says.written kept' answer served hears.holds.1 refl
      (reply (hears.heard ++ left_of b) hears.holds.0)
      (delivered_since served faults faults' faults'' answer says.written later says.holds);
}

unheard_by : {serves : Serving} (input said : List ℕ) (faults faults' : ℕ) (around : Around) (kept : Kept)
    → IsUnheard input said → Rose faults faults'
    → IsConnected serves input said faults faults' around around kept kept Dropped
unheard_by input said faults faults' around kept (Silent none) rose = Unheard none refl rose
unheard_by input said faults faults' around kept (Inviting first invited front) rose =
    HalfHeard first front.lost invited front.parts refl rose

-- not all was heard
pub connected_none : {serves : Serving} (a b : Option Talk) (faults faults' : ℕ) (around : Around) (kept : Kept)
    → HearsOver a b (IsHeardOver (Err why.Failed)) → Rose faults faults'
    → OverTalk a b (λ input written. IsConnected serves input written faults faults' around around kept kept Dropped)
connected_none a b faults faults' around kept hears rose = record {
  input = hears.heard ++ left_of b;
  written = hears.said;
  talks = is_talk-heard a b hears.heard hears.said hears.goes;
  holds = unheard_by (hears.heard ++ left_of b) hears.said faults faults' around kept hears.holds rose;
}
