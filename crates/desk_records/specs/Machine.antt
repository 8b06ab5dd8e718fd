-- What each request comes to by what is kept: the checks in their order.
-- Worked examples: crates/desk_records/proofs/Example.antt.
use Rattle.std.specs.Prelude.{ℕ, ℤ, ◌+◌, Bool, false, not, ◌&&◌, ◌||◌, nat_le, nat_lt, bytes_eq, codes, List, length, find, option_map, Option, Some, None, if◌then◌else◌}
use Rattle.sha2.specs.Sha256.{sha256}
use Rattle.desk_tables.specs.Changes.{has_id, has_name, without_file}
use Rattle.desk_tables.specs.Rules.{all_bytes}
use Rattle.desk_tables.specs.Tables.{Kept}
use Rattle.desk_tables.specs.declared.change.Change.TheVariants as change
use Rattle.desk_tables.specs.declared.rows.FileRow.{FileRow}
use Rattle.desk_tables.specs.declared.rows.ReplyRow.{ReplyRow}
use Rattle.desk_tables.specs.declared.rows.WaiverId.{WaiverId}
use Rattle.desk_tables.specs.declared.rows.WaiverRow.{WaiverRow}
use Rattle.desk_tables.specs.declared.rows.Table.{Table}
use Rattle.desk_tables.specs.declared.rows.Table.TheVariants.{Meta, Files, Waivers, SignOffs, Replies}
use Rattle.desk_tables.specs.Limits.{MAX_ALL_BYTES, MAX_FILES, MAX_REPLIES, MAX_SIGN_OFFS, MAX_WAIVERS}
use Rattle.desk_dates.specs.Dates.{date_text}
use Rattle.waiver_book.specs.Waivers.{end_by}
use Rattle.waiver_book.specs.declared.fault.RevokeFault.{RevokeFault}
use Rattle.waiver_book.specs.declared.fault.RevokeFault.TheVariants.{NoSuchWaiver, NotOwner, Ended}
use Rattle.desk_requests.specs.Requests.{changes, label_of}
use Rattle.desk_requests.specs.declared.ask.Ask.{Ask}
use Rattle.desk_requests.specs.declared.ask.Ask.TheVariants as ask
use Rattle.desk_requests.specs.declared.ask.Request.{Request}
use Rattle.desk_requests.specs.declared.reply.BodyKind.TheVariants.{Json, Plain}
use Rattle.desk_bodies.specs.Bodies.{array, edited_text, file_text, files_text, id_text, name_text, signoff_text, waiver_text}
use Rattle.desk_bodies.specs.Refusals.{conflict_with, not_found, value_line, word_line}
use Rattle.desk_records.specs.Outcomes.{Outcome, Told, Done, Open, kept_said}

-- ---- kept replies

-- the reply is to this user's request of this name
abbrev pub is_to : List ℕ → List ℕ → ReplyRow → Bool
is_to user label row = bytes_eq row.user user && bytes_eq row.request label

-- a request that comes again gets the kept reply again; another one must not have its name
abbrev pub repeat_outcome : ReplyRow → List ℕ → Outcome
repeat_outcome row digest =
    Told (if bytes_eq row.digest digest then kept_said row
    else conflict_with (word_line (codes "RequestIdReused")))

-- ---- limits

abbrev pub fills_files : Ask → List FileRow → Bool
fills_files (ask.PutFile name text) files =
    let others = without_file name files in
    nat_le MAX_FILES (length others) || nat_lt MAX_ALL_BYTES (all_bytes others + length text)
fills_files _ files = false

abbrev pub fills_waivers : Ask → ℕ → Bool
fills_waivers (ask.Waive it) count = nat_le MAX_WAIVERS count
fills_waivers _ count = false

abbrev pub fills_signoffs : Ask → ℕ → Bool
fills_signoffs (ask.SignOff top) count = nat_le MAX_SIGN_OFFS count
fills_signoffs _ count = false

-- the first table that would pass its limit, were the request accepted and its reply kept
abbrev pub full_table : Ask → Kept → Option Table
full_table it kept =
    if fills_files it kept.files then Some Files
    else (if fills_waivers it (length kept.waivers) then Some Waivers
    else (if fills_signoffs it (length kept.signoffs) then Some SignOffs
    else (if nat_le MAX_REPLIES (length kept.replies) then Some Replies else None)))

abbrev pub table_name : Table → List ℕ
table_name Meta = codes "meta"
table_name Files = codes "files"
table_name Waivers = codes "waivers"
table_name SignOffs = codes "signoffs"
table_name Replies = codes "replies"

-- the table is full
abbrev pub full_refusal : Table → Outcome
full_refusal table = Told (conflict_with (value_line (codes "Full") (table_name table)))

-- ---- files

-- the reply to a request that is kept where it is accepted
abbrev pub kept_row : Request → ℕ → List ℕ → ReplyRow
kept_row request status body =
    record {
      user = request.user;
      request = label_of request.id;
      digest = request.digest;
      status = status;
      body = body;
    }

-- the file that a user puts
abbrev pub file_row : List ℕ → List ℕ → List ℕ → FileRow
file_row name text user = record { name = name; text = text; digest = sha256 text; editor = user }

-- it is answered with these bytes of JSON
abbrev pub json_answer : List ℕ → Outcome
json_answer body = Told (record { status = 200; kind = Json; body = body })

abbrev pub file_answer : Option FileRow → Outcome
file_answer None = Told not_found
file_answer (Some row) = json_answer (edited_text row)

-- the text of a file, as it is
abbrev pub text_answer : Option FileRow → Outcome
text_answer None = Told not_found
text_answer (Some row) = Told (record { status = 200; kind = Plain; body = row.text })

abbrev pub drop_outcome : Option FileRow → List ℕ → Request → Outcome
drop_outcome None name request = Told not_found
drop_outcome (Some row) name request =
    Done (change.DropFile name (kept_row request 200 (name_text name)))

abbrev pub put_outcome : FileRow → Request → Outcome
put_outcome row request = Done (change.PutFile row (kept_row request 200 (file_text row)))

-- ---- revocations

-- why a waiver isn't revoked: there is none, another user answers for it, or it stands no more
abbrev pub revocation : Option WaiverRow → List ℕ → ℤ → Option RevokeFault
revocation None who today = Some NoSuchWaiver
revocation (Some row) who today =
    if not (bytes_eq row.owner who) then Some (NotOwner row.owner)
    else option_map Ended (end_by today row.last_day row.ended)

abbrev pub revoke_refusal : RevokeFault → Outcome
revoke_refusal NoSuchWaiver = Told not_found
revoke_refusal (NotOwner owner) = Told (conflict_with (value_line (codes "NotOwner") owner))
revoke_refusal (Ended day) = Told (conflict_with (value_line (codes "Ended") (date_text day)))

abbrev pub revoke_outcome : Option RevokeFault → WaiverId → Request → ℤ → Outcome
revoke_outcome None id request today = Done (change.Revoke id today (kept_row request 200 (id_text id.0)))
revoke_outcome (Some fault) id request today = revoke_refusal fault

-- ---- requests

-- what a request comes to by itself, where the tables alone settle it
abbrev pub by_tables : Ask → Request → ℤ → Kept → Outcome
by_tables (ask.PutFile name text) request today kept = put_outcome (file_row name text request.user) request
by_tables (ask.GetFile name) request today kept = file_answer (find (has_name name) kept.files)
by_tables (ask.FileText name) request today kept = text_answer (find (has_name name) kept.files)
by_tables ask.Files request today kept = json_answer (files_text kept.files)
by_tables (ask.DropFile name) request today kept =
    drop_outcome (find (has_name name) kept.files) name request
by_tables ask.SignOffs request today kept = json_answer (array signoff_text kept.signoffs)
by_tables ask.Waivers request today kept = json_answer (array waiver_text kept.waivers)
by_tables (ask.Revoke id) request today kept =
    revoke_outcome (revocation (find (has_id id) kept.waivers) request.user today) id request today
by_tables _ request today kept = Open

abbrev pub unless_full : Option Table → Outcome → Outcome
unless_full None it = it
unless_full (Some table) it = full_refusal table

abbrev pub unless_kept : Option ReplyRow → List ℕ → Outcome → Outcome
unless_kept None digest it = it
unless_kept (Some row) digest it = repeat_outcome row digest

-- a request that changes the tables: its kept reply where there is one; else a full table; else
-- what it comes to by itself
abbrev pub change_outcome : Request → ℤ → Kept → Outcome
change_outcome request today kept =
    unless_kept (find (is_to request.user (label_of request.id)) kept.replies) request.digest
    (unless_full (full_table request.ask kept) (by_tables request.ask request today kept))

-- what a request comes to by what is kept, on a day
abbrev pub request_outcome : Request → ℤ → Kept → Outcome
request_outcome request today kept =
    if changes request.ask then change_outcome request today kept
    else by_tables request.ask request today kept
