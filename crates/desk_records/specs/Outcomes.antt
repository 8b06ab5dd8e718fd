-- What a request comes to.
-- Worked examples: crates/desk_records/proofs/Example.antt.
use Rattle.desk_tables.specs.declared.change.Change.{Change}
use Rattle.desk_tables.specs.declared.rows.ReplyRow.{ReplyRow}
use Rattle.desk_requests.specs.Replies.{Said}
use Rattle.desk_requests.specs.declared.reply.BodyKind.TheVariants.{Json}
use Rattle.desk_records.specs.declared.decision.Decision.{Decision}
use Rattle.desk_records.specs.declared.decision.Decision.TheVariants as made
use Rattle.desk_requests.specs.Replies.{said}

-- an answer alone, which leaves the tables; a change with the reply that it keeps; or what the
-- tables alone don't settle
pub data Outcome : Type 0 where
  Told : (answer : Said) → Outcome
  Done : (change : Change) → Outcome
  Open : Outcome

-- the reply that is kept says this
abbrev pub kept_said : ReplyRow → Said
kept_said row = record { status = row.status; kind = Json; body = row.body }

-- what a decision of the code comes to
abbrev pub outcome : Decision → Outcome
outcome (made.Tells reply) = Told (said reply)
outcome (made.Makes change) = Done change
outcome made.Open = Open
