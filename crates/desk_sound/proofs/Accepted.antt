-- What is accepted is new, has room, and brings rows that break no rule.
use Rattle.std.proofs.Common.{◌≡◌, ◌∙◌, ℕ, ◌+◌, ◌<◌, Bool, true, false, not, ◌||◌, cond, List, [], ◌∷◌, length, Option, Some, None, refl, sym, ap, subst}
use Rattle.std.specs.Prelude.{⊤, ℤ, nat_le, nat_lt, bytes_eq, find, int_lt, is_some, option_map, ◌-ℤ◌}
use Rattle.std.specs.Bool.{◌==◌}
use Rattle.std.specs.Str.{is_utf8}
use Rattle.std.proofs.lemmas.Bool.{and_from, cond-true, le-leb, leb-false, ltb-false, not_from_false, or_parts}
use Rattle.std.proofs.lemmas.Slice.Eq.{bytes_eq-Decides}
use Rattle.desk_tables.specs.Limits.{MAX_BYTES, MAX_ALL_BYTES, MAX_FILES, MAX_REPLIES, MAX_SIGN_OFFS, MAX_WAIVERS}
use Rattle.sha2.specs.Sha256.{sha256}
use Rattle.rtl_rule.proofs.Rules.{coded}
use Rattle.rtl_rule.specs.Rows.{row_of, rule_with}
use Rattle.rtl_rule.specs.declared.rule.Rule.{Rule}
use Rattle.waiver_book.specs.Books.{refusal, standing, term, MAX_TERM}
use Rattle.waiver_book.specs.Waivers.{has_key, Waiver}
use Rattle.waiver_book.specs.declared.fault.WaiveFault.TheVariants.{NotWaivable, NoSuchFinding, TermPast, TermTooLong, OwnerIsAsker, Already}
use Rattle.waiver_book.specs.declared.fault.WaiveFault.{WaiveFault}
use Rattle.waiver_book.specs.declared.fault.RevokeFault.{RevokeFault}
use Rattle.waiver_book.specs.declared.fault.RevokeFault.TheVariants.{NoSuchWaiver, NotOwner, Ended}
use Rattle.desk_tables.specs.Changes.{has_id, has_name, reply_of, without_file}
use Rattle.desk_tables.specs.Editions.{EDITION, VERSION, is_edition, version_of}
use Rattle.desk_tables.specs.Grades.{grade_word, is_grade_word}
use Rattle.desk_tables.specs.Rules.{all_bytes, is_sound_waiver}
use Rattle.desk_tables.specs.Tables.{Kept}
use Rattle.desk_tables.specs.declared.change.Change.TheVariants as change
use Rattle.desk_tables.specs.declared.rows.FileRow.{FileRow}
use Rattle.desk_tables.specs.declared.rows.Grade.{Grade}
use Rattle.desk_tables.specs.declared.rows.Grade.TheVariants.{Clean, Waived}
use Rattle.desk_tables.specs.declared.rows.ReplyRow.{ReplyRow}
use Rattle.desk_tables.specs.declared.rows.Table.{Table}
use Rattle.desk_tables.specs.declared.rows.WaiverId.{WaiverId}
use Rattle.desk_requests.specs.Requests.{changes, label_of}
use Rattle.desk_requests.specs.declared.ask.Ask.{Ask}
use Rattle.desk_requests.specs.declared.ask.Ask.TheVariants as ask
use Rattle.desk_requests.specs.declared.ask.Request.{Request}
use Rattle.desk_requests.specs.declared.ask.WaiverAsk.{WaiverAsk}
use Rattle.desk_bodies.specs.Bodies.{file_text}
use Rattle.desk_records.specs.Machine.{by_tables, change_outcome, drop_outcome, file_answer, file_row, fills_files, fills_signoffs, fills_waivers, full_table, is_to, kept_row, request_outcome, revocation, revoke_outcome, revoke_refusal, text_answer, unless_full, unless_kept}
use Rattle.desk_records.specs.Outcomes.{Outcome, Told, Done, Open}
use Rattle.desk_rulings.specs.Rulings.{Site, Verdict, left_of, standing_in, standing_of}
use Rattle.desk_rulings.specs.Grants.{asked_site, grant_unless, refused_at, waive_at, waive_outcome, waiver_of, waiver_row}
use Rattle.desk_rulings.specs.SignOffs.{accepted, edited_by, findings_stand, grade_of, rows_of, signoff_outcome, signoff_row, unless_edited}
use Rattle.desk_sound.specs.Lawful.{IsLawfulAsk, IsLawfulWaiver}
use Rattle.desk_sound.proofs.FilesKept.{put_kept}
use Rattle.desk_sound.proofs.RowsKept.{signoff_more, waiver_more}
use Rattle.desk_sound.proofs.Sites.{IfSite, IsSiteOf, asked_kept}
use Rattle.desk_sound.proofs.Tables.{AreSound, RowsHold, or_else_none}
use Rattle.desk_sound.proofs.Unbroken.{none_unless}

-- ---- new, with room

-- no table would pass its limit
pub record HasRoom (it : Ask) (kept : Kept) : Type 0 where
  pub files : fills_files it kept.files ≡ false
  pub waivers : fills_waivers it (length kept.waivers) ≡ false
  pub signoffs : fills_signoffs it (length kept.signoffs) ≡ false
  pub replies : length kept.replies < MAX_REPLIES

room_from : (it : Ask) (kept : Kept) → full_table it kept ≡ None → HasRoom it kept
room_from it kept none =
    let files = none_unless (fills_files it kept.files) _ _ none in
    let waivers = none_unless (fills_waivers it (length kept.waivers)) _ _ files.1 in
    let signoffs = none_unless (fills_signoffs it (length kept.signoffs)) _ _ waivers.1 in
    let replies = none_unless (nat_le MAX_REPLIES (length kept.replies)) _ _ signoffs.1 in
    record {
      files = files.0;
      waivers = waivers.0;
      signoffs = signoffs.0;
      replies = leb-false MAX_REPLIES (length kept.replies) replies.0;
    }

-- no answer alone
abbrev pub IsNoAnswer : Outcome → Type 0
IsNoAnswer (Told answer) = ⊥
IsNoAnswer (Done change) = ⊤
IsNoAnswer Open = ⊤

unless_kept_none : (found : Option ReplyRow) (digest : List ℕ) (it outcome : Outcome) → IsNoAnswer outcome → unless_kept found digest it ≡ outcome → (found ≡ None) × (it ≡ outcome)
unless_kept_none None digest it outcome settles is = (refl, is)
unless_kept_none (Some row) digest it outcome settles is = absurd (subst IsNoAnswer (sym is) settles)

unless_full_none : (table : Option Table) (it outcome : Outcome) → IsNoAnswer outcome → unless_full table it ≡ outcome → (table ≡ None) × (it ≡ outcome)
unless_full_none None it outcome settles is = (refl, is)
unless_full_none (Some table) it outcome settles is = absurd (subst IsNoAnswer (sym is) settles)

-- no reply is kept for the request, there is room, and it comes to this by itself
pub record IsNew (request : Request) (today : ℤ) (kept : Kept) (outcome : Outcome) : Type 0 where
  pub none : find (is_to request.user (label_of request.id)) kept.replies ≡ None
  pub room : HasRoom request.ask kept
  pub made : by_tables request.ask request today kept ≡ outcome

pub new_from : (request : Request) (today : ℤ) (kept : Kept) (outcome : Outcome) → IsNoAnswer outcome → changes request.ask ≡ true → request_outcome request today kept ≡ outcome → IsNew request today kept outcome
new_from request today kept outcome settles does is =
    let changed : change_outcome request today kept ≡ outcome = sym (cond-true _ _ _ does) ∙ is in
    let unkept = unless_kept_none (find (is_to request.user (label_of request.id)) kept.replies) request.digest (unless_full (full_table request.ask kept) (by_tables request.ask request today kept)) outcome settles changed in
    let unfilled = unless_full_none (full_table request.ask kept) (by_tables request.ask request today kept) outcome settles unkept.1 in
    record { none = unkept.0; room = room_from request.ask kept unfilled.0; made = unfilled.1 }

-- ---- what its rows and its reply keep

-- the reply is one that is kept for the request
pub record IsReply (request : Request) (reply : ReplyRow) : Type 0 where
  pub status : ℕ
  pub body : List ℕ
  pub is : reply ≡ kept_row request status body
  pub good : (status == 200 || status == 201) ≡ true

-- where a change comes of it, its rows and its reply are well
abbrev pub Holds : Kept → Request → Outcome → Type 0
Holds kept request (Told answer) = ⊤
Holds kept request (Done change) = RowsHold change kept × IsReply request (reply_of change)
Holds kept request Open = ⊤

reply_200 : (request : Request) (its_body : List ℕ) → IsReply request (kept_row request 200 its_body)
reply_200 request its_body = record { status = 200; body = its_body; is = refl; good = refl }

reply_201 : (request : Request) (its_body : List ℕ) → IsReply request (kept_row request 201 its_body)
reply_201 request its_body = record { status = 201; body = its_body; is = refl; good = refl }

got_holds : (kept : Kept) (request : Request) (found : Option FileRow) → Holds kept request (file_answer found)
got_holds kept request None = tt
got_holds kept request (Some row) = tt

text_holds : (kept : Kept) (request : Request) (found : Option FileRow) → Holds kept request (text_answer found)
text_holds kept request None = tt
text_holds kept request (Some row) = tt

dropped_holds : (kept : Kept) (request : Request) (found : Option FileRow) (name : List ℕ) → Holds kept request (drop_outcome found name request)
dropped_holds kept request None name = tt
dropped_holds kept request (Some row) name = (tt, reply_200 request _)

fault_holds : (kept : Kept) (request : Request) (fault : RevokeFault) → Holds kept request (revoke_refusal fault)
fault_holds kept request NoSuchWaiver = tt
fault_holds kept request (NotOwner owner) = tt
fault_holds kept request (Ended day) = tt

revoked_holds : (kept : Kept) (request : Request) (why : Option RevokeFault) (id : WaiverId) (today : ℤ) → Holds kept request (revoke_outcome why id request today)
revoked_holds kept request None id today = (tt, reply_200 request _)
revoked_holds kept request (Some fault) id today = fault_holds kept request fault

put_holds : (name text : List ℕ) (kept : Kept) (request : Request) → AreSound kept → IsLawfulAsk (ask.PutFile name text) → HasRoom (ask.PutFile name text) kept → RowsHold (change.PutFile (file_row name text request.user) (kept_row request 200 (file_text (file_row name text request.user)))) kept
put_holds name text kept request sound lawful room =
    let fills = or_parts _ _ room.files in
    put_kept (file_row name text request.user) kept.files
    (and_from _ _ (and_from _ _ lawful.named (le-leb (length text) MAX_BYTES lawful.short)) ((bytes_eq-Decides (sha256 text) (sha256 text)).1 refl))
    (leb-false MAX_FILES (length (without_file name kept.files)) fills.0)
    (ltb-false MAX_ALL_BYTES (all_bytes (without_file name kept.files) + length text) fills.1)
    sound.files

pub tables_hold : (it : Ask) (request : Request) (today : ℤ) (kept : Kept) → AreSound kept → IsLawfulAsk it → HasRoom it kept → Holds kept request (by_tables it request today kept)
tables_hold (ask.PutFile name text) request today kept sound lawful room =
    (put_holds name text kept request sound lawful room, reply_200 request _)
tables_hold (ask.GetFile name) request today kept sound lawful room =
    got_holds kept request (find (has_name name) kept.files)
tables_hold (ask.FileText name) request today kept sound lawful room =
    text_holds kept request (find (has_name name) kept.files)
tables_hold ask.Files request today kept sound lawful room = tt
tables_hold (ask.DropFile name) request today kept sound lawful room =
    dropped_holds kept request (find (has_name name) kept.files) name
tables_hold (ask.Ruling top) request today kept sound lawful room = tt
tables_hold (ask.Reach top) request today kept sound lawful room = tt
tables_hold (ask.SignOff top) request today kept sound lawful room = tt
tables_hold ask.SignOffs request today kept sound lawful room = tt
tables_hold (ask.Waive it) request today kept sound lawful room = tt
tables_hold ask.Waivers request today kept sound lawful room = tt
tables_hold (ask.Revoke id) request today kept sound lawful room =
    revoked_holds kept request (revocation (find (has_id id) kept.waivers) request.user today) id today

-- ---- waivers

-- a rule is found by its code
known : (it : Rule) → is_some (rule_with (row_of it).code) ≡ true
known it = ap is_some (coded it)

-- where none of these tests passes, the last doesn't
last_fails : (a b c d e : Bool) (v w x y z : WaiveFault) (rest : Option WaiveFault) → cond a (Some v) (cond b (Some w) (cond c (Some x) (cond d (Some y) (cond e (Some z) rest)))) ≡ None → e ≡ false
last_fails a b c d e v w x y z rest none =
    let first = none_unless a v _ none in
    let second = none_unless b w _ first.1 in
    let third = none_unless c x _ second.1 in
    let fourth = none_unless d y _ third.1 in
    (none_unless e z rest fourth.1).0

-- who asks for a waiver doesn't answer for it
other_owner : (site : Site) (it : WaiverAsk) (request : Request) (today : ℤ) (kept : Kept) → refused_at site it request today kept.waivers ≡ None → bytes_eq it.owner request.user ≡ false
other_owner site it request today kept none =
    let waiver : Waiver = waiver_of it site in
    let refused : refusal waiver (site.key ∷ []) today request.user [] ≡ None =
    (or_else_none (refusal waiver (site.key ∷ []) today request.user []) (option_map (λ found. Already found.0) (standing_in today kept.waivers site)) none).0 in
    last_fails (not (row_of waiver.key.rule).waivable) (not (has_key waiver.key (site.key ∷ []))) (int_lt waiver.last_day today) (int_lt MAX_TERM (waiver.last_day -ℤ today)) (bytes_eq waiver.owner request.user)
    (NotWaivable waiver.key.rule) NoSuchFinding (TermPast waiver.last_day) (TermTooLong (term today waiver.last_day)) OwnerIsAsker
    (option_map Already (standing waiver.key waiver.digest today [])) refused

granted_holds : (site : Site) (it : WaiverAsk) (request : Request) (today : ℤ) (kept : Kept) (fault : Option WaiveFault) → AreSound kept → IsLawfulWaiver it → length kept.waivers < MAX_WAIVERS → IsSiteOf it.target site → refused_at site it request today kept.waivers ≡ fault → Holds kept request (grant_unless fault (waiver_row site it request kept.waivers) request)
granted_holds site it request today kept (Some fault) sound lawful room at refused = tt
granted_holds site it request today kept None sound lawful room at refused =
    let target : is_utf8 site.key.target ≡ true = ap is_utf8 at.targets ∙ lawful.target in
    let whole : is_sound_waiver (waiver_row site it request kept.waivers) ≡ true =
    and_from _ _
    (and_from _ _
    (and_from _ _ (and_from _ _ (and_from _ _ lawful.top target) at.named) lawful.reason)
    (known site.key.rule))
    (not_from_false _ (other_owner site it request today kept refused)) in (
      waiver_more kept.waivers (waiver_row site it request kept.waivers) whole room refl sound.waivers,
      reply_201 request _,
    )

waived_holds : (it : WaiverAsk) (request : Request) (today : ℤ) (kept : Kept) (site : Option Site) → AreSound kept → IsLawfulWaiver it → length kept.waivers < MAX_WAIVERS → IfSite it.target site → Holds kept request (waive_at site it request today kept.waivers)
waived_holds it request today kept None sound lawful room at = tt
waived_holds it request today kept (Some site) sound lawful room at =
    granted_holds site it request today kept (refused_at site it request today kept.waivers) sound lawful room at refl

pub waive_holds : (it : WaiverAsk) (request : Request) (today : ℤ) (kept : Kept) (verdict : Verdict) → AreSound kept → IsLawfulWaiver it → length kept.waivers < MAX_WAIVERS → Holds kept request (waive_outcome it request today kept verdict)
waive_holds it request today kept verdict sound lawful room =
    waived_holds it request today kept (asked_site kept verdict it) sound lawful room
    (asked_kept kept.files verdict.files it verdict.rows sound.files)

-- ---- sign-offs

-- a grade's word is one
worded : (grade : Grade) → is_grade_word (grade_word grade) ≡ true
worded Clean = refl
worded Waived = refl

-- the desk's edition is one that a sign-off of version 2 may say
own_edition : (version : ℕ) → version ≡ VERSION → is_edition version (Some EDITION) ≡ true
own_edition version is = ap (λ it. is_edition it (Some EDITION)) is

signed_holds : (top : List ℕ) (request : Request) (today : ℤ) (kept : Kept) (verdict : Verdict) → version_of kept.meta ≡ VERSION → (edited : Option FileRow) → AreSound kept → is_utf8 top ≡ true → length kept.signoffs < MAX_SIGN_OFFS → Holds kept request (unless_edited edited (accepted (signoff_row top request today kept verdict) request))
signed_holds top request today kept verdict version (Some row) sound utf8 room = tt
signed_holds top request today kept verdict version None sound utf8 room = (
  signoff_more (version_of kept.meta) kept.signoffs (signoff_row top request today kept verdict)
      (and_from _ _ (and_from _ _ utf8 (worded (grade_of verdict.rows))) (own_edition (version_of kept.meta) version)) room refl sound.signoffs,
  reply_201 request _,
)

left_or_signed : (left : ℕ) (stand : Bool) (kept : Kept) (request : Request) (it : Outcome) → Holds kept request it → Holds kept request (cond stand (findings_stand left) it)
left_or_signed left true kept request it holds = tt
left_or_signed left false kept request it holds = holds

pub signoff_holds : (top : List ℕ) (request : Request) (today : ℤ) (kept : Kept) (verdict : Verdict) → version_of kept.meta ≡ VERSION → AreSound kept → is_utf8 top ≡ true → length kept.signoffs < MAX_SIGN_OFFS → Holds kept request (signoff_outcome top request today kept verdict)
signoff_holds top request today kept verdict version sound utf8 room =
    let left : ℕ = left_of (standing_of today kept verdict) in
    left_or_signed left (nat_lt 0 left) kept request _
    (signed_holds top request today kept verdict version (edited_by request.user (rows_of kept.files verdict.reached)) sound utf8 room)
