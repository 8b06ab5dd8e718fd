-- No answer to a request has the status of a failure, and what a change keeps as its reply was accepted.
use Rattle.std.proofs.Common.{◌≡◌, ℕ, Bool, true, false, List, Option, Some, None, nat_lt, inl, inr, refl, sym, subst, eqb-true}
use Rattle.std.specs.Prelude.{⊤, ◌==◌, ℤ, bytes_eq, codes, find, if◌then◌else◌}
use Rattle.std.proofs.lemmas.Bool.{or_cases}
use Rattle.desk_tables.specs.Changes.{has_id, has_name, reply_of}
use Rattle.desk_tables.specs.Tables.{Kept}
use Rattle.desk_tables.specs.declared.change.Change.{Change}
use Rattle.desk_tables.specs.declared.rows.FileRow.{FileRow}
use Rattle.desk_tables.specs.declared.rows.ReplyRow.{ReplyRow}
use Rattle.desk_tables.specs.declared.rows.SignOffRow.{SignOffRow}
use Rattle.desk_tables.specs.declared.rows.Table.{Table}
use Rattle.desk_tables.specs.declared.rows.WaiverId.{WaiverId}
use Rattle.desk_tables.specs.declared.rows.WaiverRow.{WaiverRow}
use Rattle.source_file.specs.declared.SourceFile.{SourceFile}
use Rattle.waiver_book.specs.declared.fault.RevokeFault.{RevokeFault}
use Rattle.waiver_book.specs.declared.fault.RevokeFault.TheVariants.{NoSuchWaiver, NotOwner, Ended}
use Rattle.waiver_book.specs.declared.fault.WaiveFault.{WaiveFault}
use Rattle.desk_requests.specs.Replies.{Said}
use Rattle.desk_requests.specs.Requests.{changes, label_of}
use Rattle.desk_requests.specs.declared.ask.Ask.{Ask}
use Rattle.desk_requests.specs.declared.ask.Ask.TheVariants as ask
use Rattle.desk_requests.specs.declared.ask.Request.{Request}
use Rattle.desk_requests.specs.declared.ask.WaiverAsk.{WaiverAsk}
use Rattle.desk_service.specs.Service.{is_accepted}
use Rattle.desk_bodies.specs.Refusals.{conflict_with, word_line}
use Rattle.desk_records.specs.Machine.{by_tables, change_outcome, drop_outcome, file_answer, full_table, is_to, request_outcome, revocation, revoke_outcome, revoke_refusal, text_answer, unless_full, unless_kept}
use Rattle.desk_records.specs.Outcomes.{Outcome, Told, Done, Open, kept_said}
use Rattle.desk_rulings.specs.Grants.{asked_site, grant_unless, refused_at, waive_at, waive_outcome, waiver_row}
use Rattle.desk_rulings.specs.Rulings.{Site, Verdict, left_of, standing_of}
use Rattle.desk_rulings.specs.SignOffs.{accepted, edited_by, findings_stand, rows_of, signoff_outcome, signoff_row, unless_edited}
use Rattle.design_db.specs.desk_memo.declared.answer.Answer.TheVariants.{Ruled, Refused}
use Rattle.design_db.specs.Answers.{Answer}
use Rattle.desk_core.specs.Machine.{AreAccepted}
use Rattle.desk_core.specs.Outcomes.{IsJudgedFor, IsOpened, IsOutcome, IsSettled, top_of, with_answer}
use Rattle.desk_core.specs.Reaches.{reach_asked, reach_with}
use Rattle.desk_core.specs.Reports.{telling, verdict_in}
use Rattle.desk_core.proofs.Accepted.{found_accepted}

-- ---- by the tables

pub accepted_plain : (status : ℕ) → is_accepted status ≡ true → (status == 503) ≡ false
accepted_plain status is =
    let P : ℕ → Type 0 = λ (it : ℕ). (it == 503) ≡ false in
    elim (or_cases (status == 200) (status == 201) is) [
      | inl same ↦ subst P (sym (eqb-true status 200 same)) refl
      | inr same ↦ subst P (sym (eqb-true status 201 same)) refl
    ]

-- what is told hasn't the status of a failure, and what is made keeps a reply to what was accepted
abbrev Sound : Outcome → Type 0
Sound (Told answer) = (answer.status == 503) ≡ false
Sound (Done change) = is_accepted (reply_of change).status ≡ true
Sound Open = ⊤

got_sound : (found : Option FileRow) → Sound (file_answer found)
got_sound None = refl
got_sound (Some row) = refl

text_sound : (found : Option FileRow) → Sound (text_answer found)
text_sound None = refl
text_sound (Some row) = refl

dropped_sound : (found : Option FileRow) (name : List ℕ) (request : Request) → Sound (drop_outcome found name request)
dropped_sound None name request = refl
dropped_sound (Some row) name request = refl

fault_sound : (fault : RevokeFault) → Sound (revoke_refusal fault)
fault_sound NoSuchWaiver = refl
fault_sound (NotOwner owner) = refl
fault_sound (Ended day) = refl

revoked_sound : (why : Option RevokeFault) (id : WaiverId) (request : Request) (today : ℤ) → Sound (revoke_outcome why id request today)
revoked_sound None id request today = refl
revoked_sound (Some fault) id request today = fault_sound fault

tables_sound : (it : Ask) (request : Request) (today : ℤ) (kept : Kept) → Sound (by_tables it request today kept)
tables_sound (ask.PutFile name text) request today kept = refl
tables_sound (ask.GetFile name) request today kept = got_sound (find (has_name name) kept.files)
tables_sound (ask.FileText name) request today kept = text_sound (find (has_name name) kept.files)
tables_sound ask.Files request today kept = refl
tables_sound (ask.DropFile name) request today kept =
    dropped_sound (find (has_name name) kept.files) name request
tables_sound (ask.Ruling top) request today kept = tt
tables_sound (ask.Reach top) request today kept = tt
tables_sound (ask.SignOff top) request today kept = tt
tables_sound ask.SignOffs request today kept = refl
tables_sound (ask.Waive it) request today kept = tt
tables_sound ask.Waivers request today kept = refl
tables_sound (ask.Revoke id) request today kept =
    revoked_sound (revocation (find (has_id id) kept.waivers) request.user today) id request today

unfull_sound : (full : Option Table) (it : Outcome) → Sound it → Sound (unless_full full it)
unfull_sound None it sound = sound
unfull_sound (Some table) it sound = refl

repeated_sound : (same : Bool) (row : ReplyRow) → is_accepted row.status ≡ true → Sound (Told (if same then kept_said row else conflict_with (word_line (codes "RequestIdReused"))))
repeated_sound true row is = accepted_plain row.status is
repeated_sound false row is = refl

unkept_sound : (found : Option ReplyRow) (digest : List ℕ) (it : Outcome) → ((row : ReplyRow) → found ≡ Some row → is_accepted row.status ≡ true) → Sound it → Sound (unless_kept found digest it)
unkept_sound None digest it accepted sound = sound
unkept_sound (Some row) digest it accepted sound =
    repeated_sound (bytes_eq row.digest digest) row (accepted row refl)

changed_sound : (request : Request) (today : ℤ) (kept : Kept) → AreAccepted kept.replies → Sound (change_outcome request today kept)
changed_sound request today kept all =
    let test = is_to request.user (label_of request.id) in
    unkept_sound (find test kept.replies) request.digest
    (unless_full (full_table request.ask kept) (by_tables request.ask request today kept))
    (λ row found. found_accepted test kept.replies row all found)
    (unfull_sound (full_table request.ask kept) (by_tables request.ask request today kept)
    (tables_sound request.ask request today kept))

request_sound : (does : Bool) (request : Request) (today : ℤ) (kept : Kept) → AreAccepted kept.replies → Sound (if does then change_outcome request today kept else by_tables request.ask request today kept)
request_sound true request today kept all = changed_sound request today kept all
request_sound false request today kept all = tables_sound request.ask request today kept

-- ---- with an answer

granted : (fault : Option WaiveFault) (row : WaiverRow) (request : Request) → Sound (grant_unless fault row request)
granted None row request = refl
granted (Some fault) row request = refl

waived_at : (site : Option Site) (asked : WaiverAsk) (request : Request) (today : ℤ) (rows : List WaiverRow) → Sound (waive_at site asked request today rows)
waived_at None asked request today rows = refl
waived_at (Some site) asked request today rows =
    granted (refused_at site asked request today rows) (waiver_row site asked request rows) request

waived : (asked : WaiverAsk) (request : Request) (today : ℤ) (kept : Kept) (verdict : Verdict) → Sound (waive_outcome asked request today kept verdict)
waived asked request today kept verdict =
    waived_at (asked_site kept verdict asked) asked request today kept.waivers

unedited : (found : Option FileRow) (row : SignOffRow) (request : Request) → Sound (unless_edited found (accepted row request))
unedited None row request = refl
unedited (Some found) row request = refl

signed_by : (stand : Bool) (left : ℕ) (found : Option FileRow) (row : SignOffRow) (request : Request) → Sound (if stand then findings_stand left else unless_edited found (accepted row request))
signed_by true left found row request = refl
signed_by false left found row request = unedited found row request

signed : (top : List ℕ) (request : Request) (today : ℤ) (kept : Kept) (verdict : Verdict) → Sound (signoff_outcome top request today kept verdict)
signed top request today kept verdict =
    let left : ℕ = left_of (standing_of today kept verdict) in
    signed_by (nat_lt 0 left) left (edited_by request.user (rows_of kept.files verdict.reached))
    (signoff_row top request today kept verdict) request

ruled : (refused : Bool) → ((if refused then 422 else 200) == 503) ≡ false
ruled true = refl
ruled false = refl

answered : (it : Ask) (request : Request) (today : ℤ) (kept : Kept) (files : List SourceFile) (answer : Answer) → Sound (with_answer it request today kept files answer)
answered (ask.PutFile name text) request today kept files (Ruled made reached) = tt
answered (ask.PutFile name text) request today kept files (Refused line) = refl
answered (ask.GetFile name) request today kept files (Ruled made reached) = tt
answered (ask.GetFile name) request today kept files (Refused line) = refl
answered (ask.FileText name) request today kept files (Ruled made reached) = tt
answered (ask.FileText name) request today kept files (Refused line) = refl
answered ask.Files request today kept files (Ruled made reached) = tt
answered ask.Files request today kept files (Refused line) = refl
answered (ask.DropFile name) request today kept files (Ruled made reached) = tt
answered (ask.DropFile name) request today kept files (Refused line) = refl
answered (ask.Ruling it) request today kept files answer =
    ruled (telling it today kept files answer).refused
answered (ask.Reach it) request today kept files (Ruled made reached) = tt
answered (ask.Reach it) request today kept files (Refused line) = refl
answered (ask.SignOff it) request today kept files (Ruled made reached) =
    signed it request today kept (verdict_in files made reached.items)
answered (ask.SignOff it) request today kept files (Refused line) = refl
answered ask.SignOffs request today kept files (Ruled made reached) = tt
answered ask.SignOffs request today kept files (Refused line) = refl
answered (ask.Waive it) request today kept files (Ruled made reached) =
    waived it request today kept (verdict_in files made reached.items)
answered (ask.Waive it) request today kept files (Refused line) = refl
answered ask.Waivers request today kept files (Ruled made reached) = tt
answered ask.Waivers request today kept files (Refused line) = refl
answered (ask.Revoke id) request today kept files (Ruled made reached) = tt
answered (ask.Revoke id) request today kept files (Refused line) = refl

reached : (top : List ℕ) (kept : Kept) (answer : Option Answer) → Sound (reach_with top kept answer)
reached top kept None = refl
reached top kept (Some (Ruled made names)) = refl
reached top kept (Some (Refused line)) = refl

-- ---- either

judged : (request : Request) (today : ℤ) (kept : Kept) (found : Option (List ℕ)) (outcome : Outcome) → IsJudgedFor request today kept found outcome → Sound outcome
judged request today kept None outcome is = absurd is
judged request today kept (Some top) outcome is =
    subst Sound (sym is.is) (answered request.ask request today kept is.files is.answer)

opened : (request : Request) (today : ℤ) (kept : Kept) (asked looks : Option (List ℕ)) (outcome : Outcome) → IsOpened request today kept asked looks outcome → Sound outcome
opened request today kept None looks outcome is = judged request today kept looks outcome is
opened request today kept (Some top) looks outcome is =
    subst Sound (sym is.is) (reached top kept is.answer)

by : (request : Request) (today : ℤ) (kept : Kept) (settled outcome : Outcome) → Sound settled → IsSettled request today kept settled outcome → Sound outcome
by request today kept (Told answer) outcome sound is = subst Sound (sym is) sound
by request today kept (Done change) outcome sound is = subst Sound (sym is) sound
by request today kept Open outcome sound is =
    opened request today kept (reach_asked request.ask) (top_of request.ask) outcome is

sound : (request : Request) (today : ℤ) (kept : Kept) (outcome : Outcome) → AreAccepted kept.replies → IsOutcome request today kept outcome → Sound outcome
sound request today kept outcome all is =
    by request today kept (request_outcome request today kept) outcome
    (request_sound (changes request.ask) request today kept all) is

pub told_plain : (request : Request) (today : ℤ) (kept : Kept) (answer : Said) → AreAccepted kept.replies → IsOutcome request today kept (Told answer) → (answer.status == 503) ≡ false
told_plain request today kept answer all is = sound request today kept (Told answer) all is

pub made_accepted : (request : Request) (today : ℤ) (kept : Kept) (change : Change) → AreAccepted kept.replies → IsOutcome request today kept (Done change) → is_accepted (reply_of change).status ≡ true
made_accepted request today kept change all is = sound request today kept (Done change) all is
