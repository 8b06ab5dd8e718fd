-- What requests come to, on small cases.
use Rattle.std.proofs.Common.{◌≡◌, List, ℕ, [], ◌∷◌, Some, refl, codes}
use Rattle.std.specs.Prelude.{pos}
use Rattle.desk_tables.specs.Tables.{Kept}
use Rattle.desk_tables.specs.declared.change.Change.{Change}
use Rattle.desk_tables.specs.declared.change.Change.TheVariants as change
use Rattle.desk_tables.specs.declared.rows.ReplyRow.{ReplyRow}
use Rattle.desk_requests.specs.declared.ask.Ask.TheVariants.{DropFile}
use Rattle.desk_requests.specs.declared.ask.Request.{Request}
use Rattle.desk_requests.specs.declared.reply.BodyKind.TheVariants.{Plain}
use Rattle.desk_records.specs.Machine.{request_outcome}
use Rattle.desk_records.specs.Outcomes.{Told, kept_said}
use Rattle.desk_records.specs.Repeats.{after}

abbrev row : ReplyRow
row = record { user = codes "jo"; request = codes "drop-1"; digest = 1 ∷ []; status = 200; body = codes "{}" }

abbrev kept : Kept
kept = record { meta = record { version = 2 } ∷ []; files = []; waivers = []; signoffs = []; replies = row ∷ [] }

abbrev drop_of : List ℕ → List ℕ → Request
drop_of label its_digest =
    record { user = codes "jo"; id = Some label; digest = its_digest; ask = DropFile (codes "tx.v") }

a_request_that_comes_again_gets_its_reply : request_outcome (drop_of (codes "drop-1") (1 ∷ [])) (pos 0) kept ≡ Told (kept_said row)
a_request_that_comes_again_gets_its_reply = refl

another_request_must_not_have_its_name : request_outcome (drop_of (codes "drop-1") (2 ∷ [])) (pos 0) kept ≡ Told (record { status = 409; kind = Plain; body = codes "RequestIdReused\n" })
another_request_must_not_have_its_name = refl

a_file_that_is_not_there_is_not_dropped : request_outcome (drop_of (codes "drop-2") (2 ∷ [])) (pos 0) kept ≡ Told (record { status = 404; kind = Plain; body = codes "Not Found\n" })
a_file_that_is_not_there_is_not_dropped = refl

-- another user's request of the same name was accepted
abbrev later : Change
later = change.DropFile (codes "a.v") (record row { user = codes "al" })

it_gets_its_reply_after_other_changes : request_outcome (drop_of (codes "drop-1") (1 ∷ [])) (pos 9) (after (later ∷ []) kept) ≡ Told (kept_said row)
it_gets_its_reply_after_other_changes = refl
