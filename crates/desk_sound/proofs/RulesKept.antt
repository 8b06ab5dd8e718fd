-- Tables that break no rule break none after what is accepted.
use Rattle.std.proofs.Common.{◌≡◌, ◌∙◌, ℕ, ◌<◌, true, false, List, [], ◌∷◌, ◌++◌, length, Option, Some, None, refl, sym, ap, subst, inl, inr}
use Rattle.std.specs.Prelude.{⊤, ℤ, find}
use Rattle.std.specs.Str.{is_utf8}
use Rattle.std.proofs.lemmas.Bool.{and_from, cases_Bool, cond-false, leb-false}
use Rattle.desk_tables.specs.Changes.{changed, has_name, reply_of}
use Rattle.desk_tables.specs.Editions.{VERSION, version_of}
use Rattle.desk_tables.specs.Migrations.{AreReady}
use Rattle.desk_tables.specs.Rules.{broken_row, first_broken, reply_breaks}
use Rattle.desk_tables.specs.Tables.{Kept}
use Rattle.desk_tables.specs.declared.change.Change.{Change}
use Rattle.desk_tables.specs.declared.change.Change.TheVariants.{PutFile, DropFile, Grant, Revoke, SignOff}
use Rattle.desk_tables.specs.declared.rows.FileRow.{FileRow}
use Rattle.desk_tables.specs.declared.rows.ReplyRow.{ReplyRow}
use Rattle.desk_tables.specs.Limits.{MAX_SIGN_OFFS, MAX_WAIVERS}
use Rattle.desk_requests.specs.Requests.{changes, label_of}
use Rattle.desk_requests.specs.declared.ask.Ask.{Ask}
use Rattle.desk_requests.specs.declared.ask.Ask.TheVariants as ask
use Rattle.desk_requests.specs.declared.ask.Request.{Request}
use Rattle.desk_requests.specs.declared.ask.WaiverAsk.{WaiverAsk}
use Rattle.desk_records.specs.Machine.{by_tables, file_answer, fills_signoffs, fills_waivers, kept_row, request_outcome, text_answer}
use Rattle.desk_records.specs.Outcomes.{Outcome, Told, Done, Open}
use Rattle.desk_rulings.specs.Rulings.{Verdict}
use Rattle.desk_rulings.specs.Grants.{waive_outcome}
use Rattle.desk_rulings.specs.SignOffs.{signoff_outcome}
use Rattle.desk_sound.specs.Lawful.{IsAccepted, ByTables, Waived, SignedOff, IsLawful, IsLawfulAsk}
use Rattle.desk_sound.proofs.Accepted.{Holds, IsNew, IsReply, new_from, signoff_holds, tables_hold, waive_holds}
use Rattle.desk_sound.proofs.RowsKept.{reply_more}
use Rattle.desk_sound.proofs.Tables.{AreSound, sound_after, sound_from, sound_to}

reply_kept : (request : Request) (today : ℤ) (kept : Kept) (outcome : Outcome) (reply : ReplyRow) → is_utf8 (label_of request.id) ≡ true → IsNew request today kept outcome → IsReply request reply → first_broken reply_breaks [] kept.replies ≡ None → first_broken reply_breaks [] (kept.replies ++ reply ∷ []) ≡ None
reply_kept request today kept outcome reply label new is none =
    subst (λ it. first_broken reply_breaks [] (kept.replies ++ it ∷ []) ≡ None) (sym is.is)
    (reply_more kept.replies (kept_row request is.status is.body) (and_from _ _ label is.good) new.room.replies new.none none)

kept_by : (request : Request) (today : ℤ) (kept : Kept) (outcome : Outcome) (change : Change) → IsLawful request → AreSound kept → IsNew request today kept outcome → Holds kept request (Done change) → broken_row (changed change kept) ≡ None
kept_by request today kept outcome change lawful sound new holds =
    sound_to (changed change kept)
    (sound_after change kept sound holds.0
    (reply_kept request today kept outcome (reply_of change) lawful.label new holds.1 sound.replies))

-- ---- what changes no table is no change

abbrev IsNoChange : Outcome → Type 0
IsNoChange (Told answer) = ⊤
IsNoChange (Done change) = ⊥
IsNoChange Open = ⊤

got_no_change : (found : Option FileRow) → IsNoChange (file_answer found)
got_no_change None = tt
got_no_change (Some row) = tt

text_no_change : (found : Option FileRow) → IsNoChange (text_answer found)
text_no_change None = tt
text_no_change (Some row) = tt

no_change : (it : Ask) (request : Request) (today : ℤ) (kept : Kept) → changes it ≡ false → IsNoChange (by_tables it request today kept)
no_change (ask.PutFile name text) request today kept isnt = absurd (cc)
no_change (ask.GetFile name) request today kept isnt = got_no_change (find (has_name name) kept.files)
no_change (ask.FileText name) request today kept isnt = text_no_change (find (has_name name) kept.files)
no_change ask.Files request today kept isnt = tt
no_change (ask.DropFile name) request today kept isnt = absurd (cc)
no_change (ask.Ruling top) request today kept isnt = tt
no_change (ask.Reach top) request today kept isnt = tt
no_change (ask.SignOff top) request today kept isnt = absurd (cc)
no_change ask.SignOffs request today kept isnt = tt
no_change (ask.Waive it) request today kept isnt = absurd (cc)
no_change ask.Waivers request today kept isnt = tt
no_change (ask.Revoke id) request today kept isnt = absurd (cc)

does_change : (request : Request) (today : ℤ) (kept : Kept) (change : Change) → request_outcome request today kept ≡ Done change → changes request.ask ≡ true
does_change request today kept change is =
    elim (cases_Bool (changes request.ask)) [
      | inl does ↦ does
      | inr doesnt ↦
          absurd (subst IsNoChange (sym (cond-false _ _ _ doesnt) ∙ is) (no_change request.ask request today kept doesnt))
    ]

-- ---- each way to be accepted

by_tables_kept : (request : Request) (today : ℤ) (kept : Kept) (change : Change) → IsLawful request → AreSound kept → request_outcome request today kept ≡ Done change → broken_row (changed change kept) ≡ None
by_tables_kept request today kept change lawful sound is =
    let new : IsNew request today kept (Done change) = new_from request today kept (Done change) tt (does_change request today kept change is) is in
    kept_by request today kept (Done change) change lawful sound new
    (subst (Holds kept request) new.made (tables_hold request.ask request today kept sound lawful.asks new.room))

waived_kept : (request : Request) (today : ℤ) (kept : Kept) (change : Change) (it : WaiverAsk) (verdict : Verdict) → IsLawful request → AreSound kept → request.ask ≡ ask.Waive it → request_outcome request today kept ≡ Open → waive_outcome it request today kept verdict ≡ Done change → broken_row (changed change kept) ≡ None
waived_kept request today kept change it verdict lawful sound asks is granted =
    let new : IsNew request today kept Open = new_from request today kept Open tt (ap changes asks) is in
    let room : length kept.waivers < MAX_WAIVERS =
    leb-false MAX_WAIVERS (length kept.waivers) (ap (λ its. fills_waivers its (length kept.waivers)) (sym asks) ∙ new.room.waivers) in
    kept_by request today kept Open change lawful sound new
    (subst (Holds kept request) granted
    (waive_holds it request today kept verdict sound (subst IsLawfulAsk asks lawful.asks) room))

signed_kept : (request : Request) (today : ℤ) (kept : Kept) (change : Change) (top : List ℕ) (verdict : Verdict) → IsLawful request → version_of kept.meta ≡ VERSION → AreSound kept → request.ask ≡ ask.SignOff top → request_outcome request today kept ≡ Open → signoff_outcome top request today kept verdict ≡ Done change → broken_row (changed change kept) ≡ None
signed_kept request today kept change top verdict lawful version sound asks is signed =
    let new : IsNew request today kept Open = new_from request today kept Open tt (ap changes asks) is in
    let room : length kept.signoffs < MAX_SIGN_OFFS =
    leb-false MAX_SIGN_OFFS (length kept.signoffs) (ap (λ its. fills_signoffs its (length kept.signoffs)) (sym asks) ∙ new.room.signoffs) in
    kept_by request today kept Open change lawful sound new
    (subst (Holds kept request) signed
    (signoff_holds top request today kept verdict version sound (subst IsLawfulAsk asks lawful.asks) room))

unbroken : (request : Request) (today : ℤ) (kept : Kept) (change : Change) → IsLawful request → AreReady kept → IsAccepted request today kept change → broken_row (changed change kept) ≡ None
unbroken request today kept change lawful ready (ByTables is) =
    by_tables_kept request today kept change lawful (sound_from kept ready.sound) is
unbroken request today kept change lawful ready (Waived it verdict asks is granted) =
    waived_kept request today kept change it verdict lawful (sound_from kept ready.sound) asks is granted
unbroken request today kept change lawful ready (SignedOff top verdict asks is signed) =
    signed_kept request today kept change top verdict lawful ready.version (sound_from kept ready.sound) asks is signed

-- the version stays
same_version : (change : Change) (kept : Kept) → version_of (changed change kept).meta ≡ version_of kept.meta
same_version (PutFile row reply) kept = refl
same_version (DropFile name reply) kept = refl
same_version (Grant row reply) kept = refl
same_version (Revoke id day reply) kept = refl
same_version (SignOff row reply) kept = refl

pub rules_kept : (request : Request) (today : ℤ) (kept : Kept) (change : Change) → IsLawful request → AreReady kept → IsAccepted request today kept change → AreReady (changed change kept)
rules_kept request today kept change lawful ready is = record {
  version = same_version change kept ∙ ready.version;
  sound = unbroken request today kept change lawful ready is;
}
