-- What is accepted keeps a reply to its request.
use Rattle.std.proofs.Common.{◌≡◌, Bool, true, false, List, ℕ, Option, Some, None, refl, subst}
use Rattle.std.specs.Prelude.{⊤, ℤ, nat_lt, if◌then◌else◌}
use Rattle.desk_tables.specs.Changes.{reply_of}
use Rattle.desk_tables.specs.Tables.{Kept}
use Rattle.desk_tables.specs.declared.change.Change.{Change}
use Rattle.desk_tables.specs.declared.rows.FileRow.{FileRow}
use Rattle.desk_tables.specs.declared.rows.SignOffRow.{SignOffRow}
use Rattle.desk_tables.specs.declared.rows.WaiverRow.{WaiverRow}
use Rattle.waiver_book.specs.declared.fault.WaiveFault.{WaiveFault}
use Rattle.desk_requests.specs.declared.ask.Request.{Request}
use Rattle.desk_requests.specs.declared.ask.WaiverAsk.{WaiverAsk}
use Rattle.desk_records.specs.Outcomes.{Outcome, Told, Done, Open}
use Rattle.desk_records.specs.Repeats.{IsReplyTo}
use Rattle.desk_rulings.specs.Grants.{asked_site, grant_unless, refused_at, waive_at, waive_outcome, waiver_row}
use Rattle.desk_rulings.specs.Rulings.{Site, Verdict, left_of, standing_of}
use Rattle.desk_rulings.specs.SignOffs.{accepted, edited_by, findings_stand, rows_of, signoff_outcome, signoff_row, unless_edited}

-- a change keeps a reply to this request
abbrev Keeps : Request → Outcome → Type 0
Keeps request (Told answer) = ⊤
Keeps request (Done change) = IsReplyTo request (reply_of change)
Keeps request Open = ⊤

grant_keeps : (fault : Option WaiveFault) (row : WaiverRow) (request : Request) → Keeps request (grant_unless fault row request)
grant_keeps None row request = record { user = refl; name = refl; digest = refl }
grant_keeps (Some fault) row request = tt

waive_keeps : (site : Option Site) (ask : WaiverAsk) (request : Request) (today : ℤ) (rows : List WaiverRow) → Keeps request (waive_at site ask request today rows)
waive_keeps None ask request today rows = tt
waive_keeps (Some site) ask request today rows =
    grant_keeps (refused_at site ask request today rows) (waiver_row site ask request rows) request

pub granted_reply : (ask : WaiverAsk) (request : Request) (today : ℤ) (kept : Kept) (verdict : Verdict) (change : Change) → waive_outcome ask request today kept verdict ≡ Done change → IsReplyTo request (reply_of change)
granted_reply ask request today kept verdict change is =
    subst (Keeps request) is (waive_keeps (asked_site kept verdict ask) ask request today kept.waivers)

edited_keeps : (found : Option FileRow) (row : SignOffRow) (request : Request) → Keeps request (unless_edited found (accepted row request))
edited_keeps None row request = record { user = refl; name = refl; digest = refl }
edited_keeps (Some found) row request = tt

sign_keeps : (stand : Bool) (left : ℕ) (found : Option FileRow) (row : SignOffRow) (request : Request) → Keeps request (if stand then findings_stand left else unless_edited found (accepted row request))
sign_keeps true left found row request = tt
sign_keeps false left found row request = edited_keeps found row request

pub signed_reply : (top : List ℕ) (request : Request) (today : ℤ) (kept : Kept) (verdict : Verdict) (change : Change) → signoff_outcome top request today kept verdict ≡ Done change → IsReplyTo request (reply_of change)
signed_reply top request today kept verdict change is =
    let left : ℕ = left_of (standing_of today kept verdict) in
    subst (Keeps request) is
    (sign_keeps (nat_lt 0 left) left (edited_by request.user (rows_of kept.files verdict.reached)) (signoff_row top request today kept verdict) request)
