-- A request is always settled, its reply has one of the statuses, and what it makes is sound.
use Rattle.std.proofs.Common.{◌≡◌, Bool, true, false, ℕ, List, Option, Some, None, refl, sym, subst}
use Rattle.std.specs.Prelude.{⊤, ℤ, bytes_eq, codes, find, nat_lt, if◌then◌else◌}
use Rattle.desk_tables.specs.Changes.{has_id, has_name, reply_of}
use Rattle.desk_tables.specs.Tables.{Kept}
use Rattle.desk_tables.specs.declared.change.Change.{Change}
use Rattle.desk_tables.specs.declared.rows.FileRow.{FileRow}
use Rattle.desk_tables.specs.declared.rows.ReplyRow.{ReplyRow}
use Rattle.desk_tables.specs.declared.rows.SignOffRow.{SignOffRow}
use Rattle.desk_tables.specs.declared.rows.Table.{Table}
use Rattle.desk_tables.specs.declared.rows.WaiverId.{WaiverId}
use Rattle.desk_tables.specs.declared.rows.WaiverRow.{WaiverRow}
use Rattle.source_file.specs.declared.SourceFile.{SourceFile}
use Rattle.waiver_book.specs.declared.fault.RevokeFault.{RevokeFault}
use Rattle.waiver_book.specs.declared.fault.RevokeFault.TheVariants.{NoSuchWaiver, NotOwner, Ended}
use Rattle.waiver_book.specs.declared.fault.WaiveFault.{WaiveFault}
use Rattle.desk_requests.specs.Replies.{Said}
use Rattle.desk_requests.specs.Requests.{changes, label_of}
use Rattle.desk_requests.specs.declared.ask.Ask.{Ask}
use Rattle.desk_requests.specs.declared.ask.Ask.TheVariants as ask
use Rattle.desk_requests.specs.declared.ask.Request.{Request}
use Rattle.desk_requests.specs.declared.ask.WaiverAsk.{WaiverAsk}
use Rattle.desk_service.specs.Service.{is_accepted, is_answered, IsShort}
use Rattle.desk_records.specs.Machine.{by_tables, change_outcome, drop_outcome, file_answer, full_table, is_to, request_outcome, revocation, revoke_outcome, revoke_refusal, text_answer, unless_full, unless_kept}
use Rattle.desk_bodies.specs.Refusals.{conflict_with, word_line}
use Rattle.desk_records.specs.Outcomes.{Outcome, Told, Done, Open, kept_said}
use Rattle.desk_rulings.specs.Grants.{asked_site, grant_unless, refused_at, waive_at, waive_outcome, waiver_row}
use Rattle.desk_rulings.specs.Rulings.{Site, Verdict, left_of, standing_of}
use Rattle.desk_rulings.specs.SignOffs.{accepted, edited_by, findings_stand, rows_of, signoff_outcome, signoff_row, unless_edited}
use Rattle.design_db.specs.desk_memo.declared.answer.Answer.TheVariants.{Ruled, Refused}
use Rattle.design_db.specs.Answers.{Answer}
use Rattle.desk_core.specs.Outcomes.{IsJudgedFor, IsOpened, IsOutcome, IsSettled, top_of, with_answer}
use Rattle.desk_core.specs.Reaches.{reach_asked, reach_with}
use Rattle.desk_core.specs.Machine.{AreAccepted}
use Rattle.desk_core.specs.Reports.{telling, verdict_in}
use Rattle.desk_core.proofs.Accepted.{accepted_answered, found_accepted}
use Rattle.desk_core.specs.Steps.{IsShortChange}

-- ---- by the tables

-- a change that may be made: a file that it puts is short, and its reply is to what was accepted
pub record IsSoundChange (change : Change) : Type 0 where
  pub short : IsShortChange change
  pub accepted : is_accepted (reply_of change).status ≡ true

-- what is made is sound, and what is told has one of the statuses
abbrev Sound : Outcome → Type 0
Sound (Told answer) = is_answered answer.status ≡ true
Sound (Done change) = IsSoundChange change
Sound Open = ⊤

got_sound : (found : Option FileRow) → Sound (file_answer found)
got_sound None = refl
got_sound (Some row) = refl

text_sound : (found : Option FileRow) → Sound (text_answer found)
text_sound None = refl
text_sound (Some row) = refl

dropped_sound : (found : Option FileRow) (name : List ℕ) (request : Request) → Sound (drop_outcome found name request)
dropped_sound None name request = refl
dropped_sound (Some row) name request = record { short = tt; accepted = refl }

fault_sound : (fault : RevokeFault) → Sound (revoke_refusal fault)
fault_sound NoSuchWaiver = refl
fault_sound (NotOwner owner) = refl
fault_sound (Ended day) = refl

revoked_sound : (why : Option RevokeFault) (id : WaiverId) (request : Request) (today : ℤ) → Sound (revoke_outcome why id request today)
revoked_sound None id request today = record { short = tt; accepted = refl }
revoked_sound (Some fault) id request today = fault_sound fault

tables_sound : (it : Ask) (request : Request) (today : ℤ) (kept : Kept) → IsShort it → Sound (by_tables it request today kept)
tables_sound (ask.PutFile name text) request today kept short =
    record { short = short; accepted = refl }
tables_sound (ask.GetFile name) request today kept short = got_sound (find (has_name name) kept.files)
tables_sound (ask.FileText name) request today kept short = text_sound (find (has_name name) kept.files)
tables_sound ask.Files request today kept short = refl
tables_sound (ask.DropFile name) request today kept short =
    dropped_sound (find (has_name name) kept.files) name request
tables_sound (ask.Ruling top) request today kept short = tt
tables_sound (ask.Reach top) request today kept short = tt
tables_sound (ask.SignOff top) request today kept short = tt
tables_sound ask.SignOffs request today kept short = refl
tables_sound (ask.Waive it) request today kept short = tt
tables_sound ask.Waivers request today kept short = refl
tables_sound (ask.Revoke id) request today kept short =
    revoked_sound (revocation (find (has_id id) kept.waivers) request.user today) id request today

unfull_sound : (full : Option Table) (it : Outcome) → Sound it → Sound (unless_full full it)
unfull_sound None it sound = sound
unfull_sound (Some table) it sound = refl

repeated_sound : (same : Bool) (row : ReplyRow) → is_accepted row.status ≡ true → Sound (Told (if same then kept_said row else conflict_with (word_line (codes "RequestIdReused"))))
repeated_sound true row is = accepted_answered row.status is
repeated_sound false row is = refl

unkept_sound : (found : Option ReplyRow) (digest : List ℕ) (it : Outcome) → ((row : ReplyRow) → found ≡ Some row → is_accepted row.status ≡ true) → Sound it → Sound (unless_kept found digest it)
unkept_sound None digest it accepted sound = sound
unkept_sound (Some row) digest it accepted sound =
    repeated_sound (bytes_eq row.digest digest) row (accepted row refl)

changed_sound : (request : Request) (today : ℤ) (kept : Kept) → AreAccepted kept.replies → IsShort request.ask → Sound (change_outcome request today kept)
changed_sound request today kept all short =
    let test = is_to request.user (label_of request.id) in
    unkept_sound (find test kept.replies) request.digest
    (unless_full (full_table request.ask kept) (by_tables request.ask request today kept))
    (λ row found. found_accepted test kept.replies row all found)
    (unfull_sound (full_table request.ask kept) (by_tables request.ask request today kept)
    (tables_sound request.ask request today kept short))

request_sound : (does : Bool) (request : Request) (today : ℤ) (kept : Kept) → AreAccepted kept.replies → IsShort request.ask → Sound (if does then change_outcome request today kept else by_tables request.ask request today kept)
request_sound true request today kept all short = changed_sound request today kept all short
request_sound false request today kept all short = tables_sound request.ask request today kept short

-- ---- with an answer

-- it is settled too
abbrev Settles : Outcome → Type 0
Settles (Told answer) = is_answered answer.status ≡ true
Settles (Done change) = IsSoundChange change
Settles Open = ⊥

granted : (fault : Option WaiveFault) (row : WaiverRow) (request : Request) → Settles (grant_unless fault row request)
granted None row request = record { short = tt; accepted = refl }
granted (Some fault) row request = refl

waived_at : (site : Option Site) (asked : WaiverAsk) (request : Request) (today : ℤ) (rows : List WaiverRow) → Settles (waive_at site asked request today rows)
waived_at None asked request today rows = refl
waived_at (Some site) asked request today rows =
    granted (refused_at site asked request today rows) (waiver_row site asked request rows) request

waived : (asked : WaiverAsk) (request : Request) (today : ℤ) (kept : Kept) (verdict : Verdict) → Settles (waive_outcome asked request today kept verdict)
waived asked request today kept verdict =
    waived_at (asked_site kept verdict asked) asked request today kept.waivers

unedited : (found : Option FileRow) (row : SignOffRow) (request : Request) → Settles (unless_edited found (accepted row request))
unedited None row request = record { short = tt; accepted = refl }
unedited (Some found) row request = refl

signed_by : (stand : Bool) (left : ℕ) (found : Option FileRow) (row : SignOffRow) (request : Request) → Settles (if stand then findings_stand left else unless_edited found (accepted row request))
signed_by true left found row request = refl
signed_by false left found row request = unedited found row request

signed : (top : List ℕ) (request : Request) (today : ℤ) (kept : Kept) (verdict : Verdict) → Settles (signoff_outcome top request today kept verdict)
signed top request today kept verdict =
    let left : ℕ = left_of (standing_of today kept verdict) in
    signed_by (nat_lt 0 left) left (edited_by request.user (rows_of kept.files verdict.reached))
    (signoff_row top request today kept verdict) request

ruled : (refused : Bool) → is_answered (if refused then 422 else 200) ≡ true
ruled true = refl
ruled false = refl

answered : (it : Ask) (top : List ℕ) (request : Request) (today : ℤ) (kept : Kept) (files : List SourceFile) (answer : Answer) → top_of it ≡ Some top → Settles (with_answer it request today kept files answer)
answered (ask.PutFile name text) top request today kept files answer looks = absurd (cc)
answered (ask.GetFile name) top request today kept files answer looks = absurd (cc)
answered (ask.FileText name) top request today kept files answer looks = absurd (cc)
answered ask.Files top request today kept files answer looks = absurd (cc)
answered (ask.DropFile name) top request today kept files answer looks = absurd (cc)
answered (ask.Ruling it) top request today kept files answer looks =
    ruled (telling it today kept files answer).refused
answered (ask.Reach it) top request today kept files answer looks = absurd (cc)
answered (ask.SignOff it) top request today kept files (Ruled made reached) looks =
    signed it request today kept (verdict_in files made reached.items)
answered (ask.SignOff it) top request today kept files (Refused line) looks = refl
answered ask.SignOffs top request today kept files answer looks = absurd (cc)
answered (ask.Waive it) top request today kept files (Ruled made reached) looks =
    waived it request today kept (verdict_in files made reached.items)
answered (ask.Waive it) top request today kept files (Refused line) looks = refl
answered ask.Waivers top request today kept files answer looks = absurd (cc)
answered (ask.Revoke id) top request today kept files answer looks = absurd (cc)

reached : (top : List ℕ) (kept : Kept) (answer : Option Answer) → Settles (reach_with top kept answer)
reached top kept None = refl
reached top kept (Some (Ruled made names)) = refl
reached top kept (Some (Refused line)) = refl

-- ---- either

judged : (request : Request) (today : ℤ) (kept : Kept) (found : Option (List ℕ)) (outcome : Outcome) → top_of request.ask ≡ found → IsJudgedFor request today kept found outcome → Settles outcome
judged request today kept None outcome looks is = absurd is
judged request today kept (Some top) outcome looks is =
    subst Settles (sym is.is) (answered request.ask top request today kept is.files is.answer looks)

opened : (request : Request) (today : ℤ) (kept : Kept) (asked looks : Option (List ℕ)) (outcome : Outcome) → top_of request.ask ≡ looks → IsOpened request today kept asked looks outcome → Settles outcome
opened request today kept None looks outcome same is = judged request today kept looks outcome same is
opened request today kept (Some top) looks outcome same is =
    subst Settles (sym is.is) (reached top kept is.answer)

told_settles : (answer : Said) (outcome : Outcome) → is_answered answer.status ≡ true → outcome ≡ Told answer → Settles outcome
told_settles answer outcome sound is = subst Settles (sym is) sound

done_settles : (change : Change) (outcome : Outcome) → IsSoundChange change → outcome ≡ Done change → Settles outcome
done_settles change outcome sound is = subst Settles (sym is) sound

by : (request : Request) (today : ℤ) (kept : Kept) (settled outcome : Outcome) → Sound settled → IsSettled request today kept settled outcome → Settles outcome
by request today kept (Told answer) outcome sound is = told_settles answer outcome sound is
by request today kept (Done change) outcome sound is = done_settles change outcome sound is
by request today kept Open outcome sound is =
    opened request today kept (reach_asked request.ask) (top_of request.ask) outcome refl is

settles : (request : Request) (today : ℤ) (kept : Kept) (outcome : Outcome) → AreAccepted kept.replies → IsShort request.ask → IsOutcome request today kept outcome → Settles outcome
settles request today kept outcome all short is =
    by request today kept (request_outcome request today kept) outcome
    (request_sound (changes request.ask) request today kept all short) is

pub never_open : (request : Request) (today : ℤ) (kept : Kept) → AreAccepted kept.replies → IsShort request.ask → IsOutcome request today kept Open → ⊥
never_open request today kept all short is = settles request today kept Open all short is

pub sound_change : (request : Request) (today : ℤ) (kept : Kept) (change : Change) → AreAccepted kept.replies → IsShort request.ask → IsOutcome request today kept (Done change) → IsSoundChange change
sound_change request today kept change all short is =
    settles request today kept (Done change) all short is

pub told_status : (request : Request) (today : ℤ) (kept : Kept) (answer : Said) → AreAccepted kept.replies → IsShort request.ask → IsOutcome request today kept (Told answer) → is_answered answer.status ≡ true
told_status request today kept answer all short is =
    settles request today kept (Told answer) all short is
