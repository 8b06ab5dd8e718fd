-- A request that comes again, whatever else has changed since it was accepted.
-- Worked examples: crates/desk_records/proofs/Example.antt.
use Rattle.std.specs.Prelude.{◌≡◌, List, [], ◌∷◌}
use Rattle.desk_tables.specs.Changes.{changed}
use Rattle.desk_tables.specs.Tables.{Kept}
use Rattle.desk_tables.specs.declared.change.Change.{Change}
use Rattle.desk_tables.specs.declared.rows.ReplyRow.{ReplyRow}
use Rattle.desk_requests.specs.Requests.{label_of}
use Rattle.desk_requests.specs.declared.ask.Request.{Request}

-- the reply is kept for this request: for its user, its name and its digest
pub record IsReplyTo (request : Request) (reply : ReplyRow) : Type 0 where
  pub user : reply.user ≡ request.user
  pub name : reply.request ≡ label_of request.id
  pub digest : reply.digest ≡ request.digest

-- the tables after changes, one after the other
abbrev pub after : List Change → Kept → Kept
after [] kept = kept
after (change ∷ later) kept = after later (changed change kept)
