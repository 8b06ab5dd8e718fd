-- What a request that was accepted changes in the tables.
-- Worked examples: crates/desk_tables/proofs/Example.antt.
use Rattle.std.specs.Prelude.{ℤ, ℕ, Bool, not, bytes_eq, nat_eq, List, [], ◌∷◌, ◌++◌, filter, position, slice_get, slice_set, Option, Some, None}
use Rattle.desk_tables.specs.declared.change.Change.{Change}
use Rattle.desk_tables.specs.declared.change.Change.TheVariants.{PutFile, DropFile, Grant, Revoke, SignOff}
use Rattle.desk_tables.specs.declared.rows.FileRow.{FileRow}
use Rattle.desk_tables.specs.declared.rows.ReplyRow.{ReplyRow}
use Rattle.desk_tables.specs.declared.rows.WaiverId.{WaiverId}
use Rattle.desk_tables.specs.declared.rows.WaiverRow.{WaiverRow}
use Rattle.desk_tables.specs.Tables.{Kept}

-- the row is the file of this name
abbrev pub has_name : List ℕ → FileRow → Bool
has_name name row = bytes_eq row.name name

-- the row is put where one of its name is, or at the end
abbrev pub file_at : Option ℕ → FileRow → List FileRow → List FileRow
file_at None row files = files ++ row ∷ []
file_at (Some place) row files = slice_set files place row

-- the file takes the place of the one that has its name, or stands at the end
abbrev pub with_file : FileRow → List FileRow → List FileRow
with_file row files = file_at (position (has_name row.name) files) row files

-- the file of this name goes
abbrev pub without_file : List ℕ → List FileRow → List FileRow
without_file name files = filter (λ row. not (has_name name row)) files

-- the row is the waiver of this number
abbrev pub has_id : WaiverId → WaiverRow → Bool
has_id id row = nat_eq row.id.0 id.0

-- the waiver at a place is revoked on this day
abbrev pub end_at : ℕ → Option WaiverRow → ℤ → List WaiverRow → List WaiverRow
end_at place None day waivers = waivers
end_at place (Some row) day waivers = slice_set waivers place (record row { ended = Some day })

abbrev pub end_found : Option ℕ → ℤ → List WaiverRow → List WaiverRow
end_found None day waivers = waivers
end_found (Some place) day waivers = end_at place (slice_get waivers place) day waivers

-- the waiver of this number is revoked on this day
abbrev pub with_end : WaiverId → ℤ → List WaiverRow → List WaiverRow
with_end id day waivers = end_found (position (has_id id) waivers) day waivers

-- the reply is kept, behind all others
abbrev pub with_reply : ReplyRow → Kept → Kept
with_reply reply kept = record kept { replies = kept.replies ++ reply ∷ [] }

-- the reply that a change keeps
abbrev pub reply_of : Change → ReplyRow
reply_of (PutFile row reply) = reply
reply_of (DropFile name reply) = reply
reply_of (Grant row reply) = reply
reply_of (Revoke id day reply) = reply
reply_of (SignOff row reply) = reply

-- what it does to the other tables
abbrev pub rows_changed : Change → Kept → Kept
rows_changed (PutFile row reply) kept = record kept { files = with_file row kept.files }
rows_changed (DropFile name reply) kept = record kept { files = without_file name kept.files }
rows_changed (Grant row reply) kept = record kept { waivers = kept.waivers ++ row ∷ [] }
rows_changed (Revoke id day reply) kept = record kept { waivers = with_end id day kept.waivers }
rows_changed (SignOff row reply) kept = record kept { signoffs = kept.signoffs ++ row ∷ [] }

-- the tables after a change: its row is in its table, and its reply is kept
abbrev pub changed : Change → Kept → Kept
changed change kept = rows_changed change (with_reply (reply_of change) kept)
