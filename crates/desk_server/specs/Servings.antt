-- What a server does: links are taken from a door and given back, one after the other.
-- Worked examples: crates/tests_serving/stdin.
use Rattle.std.specs.Prelude.{◌≡◌, ◌≤◌, ℕ, List, [], ◌∷◌, ◌++◌, length, OnOk, Result}
use Rattle.desk_io.specs.declared.failed.Failed.{Failed}
use Rattle.desk_tables.specs.Tables.{Kept}
use Rattle.desk_links.specs.Doors.{Ended, Visits}
use Rattle.desk_links.specs.Links.{input_of}
use Rattle.desk_service.specs.Service.{Serving}
use Rattle.desk_server.specs.Connections.{IsConnected}
use Rattle.desk_server.specs.Exchanges.{Around}
use Rattle.desk_server.specs.declared.exchange.Served.{Served}

-- neither count of faults falls
pub record AreLater (before after : Around) : Type 0 where
  pub clock : before.clock ≤ after.clock
  pub keeper : before.keeper ≤ after.keeper

-- one link: its talk is a connection, and it is given back with the faults that it met
pub record IsServedLink (serves : Serving) (input : List ℕ) (link : Ended) (before after : Around) (kept kept' : Kept) : Type 0 where
  pub heard : input_of link.talk ≡ input
  pub served : Served
  pub connected : IsConnected serves input link.talk.written 0 link.faults before after kept kept' served
  pub later : AreLater before after

-- links one after the other, each of which finds the tables that the one before left
pub data Run (serves : Serving) : List (List ℕ) → List Ended → Around → Around → Kept → Kept → Type 0 where
  Done : (around : Around) (kept : Kept) → Run serves [] [] around around kept kept
  Next :
      (input : List ℕ) (inputs : List (List ℕ)) (link : Ended) (links : List Ended)
      (before middle after : Around) (kept kept' kept'' : Kept) →
      IsServedLink serves input link before middle kept kept' →
      Run serves inputs links middle after kept' kept'' →
      Run serves (input ∷ inputs) (link ∷ links) before after kept kept''

-- how each link of a run ended
abbrev pub served_of : {serves : Serving} {inputs : List (List ℕ)} {links : List Ended} {before after : Around} {kept kept' : Kept} → Run serves inputs links before after kept kept' → List Served
served_of (Done around kept) = []
served_of (Next input inputs link links before middle after kept kept' kept'' one run) =
    one.served ∷ served_of run

-- what a server does with the links that a door gives: each is served and given back
pub record ServesLinks (serves : Serving) (around around' : Around) (kept kept' : Kept) (before after : Visits) : Type 0 where
  pub inputs : List (List ℕ)
  pub links : List Ended
  pub ports : after.ports ≡ before.ports
  pub given : after.given ≡ before.given ++ inputs
  pub ended : after.ended ≡ before.ended ++ links
  pub run : Run serves inputs links around around' kept kept'

-- as many links as were wanted are served, or fewer where it fails
pub record ServesCount (serves : Serving) (count : ℕ) (result : Result Unit Failed) (around around' : Around) (kept kept' : Kept) (before after : Visits) : Type 0 where
  pub served : ServesLinks serves around around' kept kept' before after
  pub most : length served.inputs ≤ count
  pub all : OnOk result (length served.inputs ≡ count)
