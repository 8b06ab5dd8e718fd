-- What is accepted keeps its own reply, and is new: no reply was kept for its user and name.
use Rattle.std.proofs.Common.{◌≡◌, Bool, true, false, List, ℕ, Option, Some, None, refl, subst}
use Rattle.std.specs.Prelude.{⊤, ℤ, find, if◌then◌else◌}
use Rattle.desk_tables.specs.Changes.{changed, has_id, has_name, reply_of}
use Rattle.desk_tables.specs.Tables.{Kept}
use Rattle.desk_tables.specs.declared.change.Change.{Change}
use Rattle.desk_tables.specs.declared.rows.FileRow.{FileRow}
use Rattle.desk_tables.specs.declared.rows.ReplyRow.{ReplyRow}
use Rattle.desk_tables.specs.declared.rows.Table.{Table}
use Rattle.desk_tables.specs.declared.rows.WaiverId.{WaiverId}
use Rattle.waiver_book.specs.declared.fault.RevokeFault.{RevokeFault}
use Rattle.waiver_book.specs.declared.fault.RevokeFault.TheVariants.{NoSuchWaiver, NotOwner, Ended}
use Rattle.desk_requests.specs.Requests.{changes, label_of}
use Rattle.desk_requests.specs.declared.ask.Ask.{Ask}
use Rattle.desk_requests.specs.declared.ask.Ask.TheVariants as ask
use Rattle.desk_requests.specs.declared.ask.Request.{Request}
use Rattle.desk_records.specs.Machine.{by_tables, change_outcome, drop_outcome, file_answer, full_table, is_to, request_outcome, revocation, revoke_outcome, revoke_refusal, text_answer, unless_full, unless_kept}
use Rattle.desk_records.specs.Outcomes.{Outcome, Told, Done, Open, kept_said}
use Rattle.desk_records.specs.Repeats.{IsReplyTo, after}
use Rattle.desk_records.proofs.Repeats.{repeats}

-- a change is accepted for this request, where P holds
abbrev Makes : Type 0 → Request → Outcome → Type 0
Makes P request (Told answer) = ⊤
Makes P request (Done change) = P × IsReplyTo request (reply_of change)
Makes P request Open = ⊤

abbrev IsTold : Outcome → Type 0
IsTold (Told answer) = ⊤
IsTold (Done change) = ⊥
IsTold Open = ⊤

makes_none : (P : Type 0) (request : Request) (it : Outcome) → IsTold it → Makes P request it
makes_none P request (Told answer) told = tt
makes_none P request (Done change) told = absurd told
makes_none P request Open told = tt

got_told : (found : Option FileRow) → IsTold (file_answer found)
got_told None = tt
got_told (Some row) = tt

text_told : (found : Option FileRow) → IsTold (text_answer found)
text_told None = tt
text_told (Some row) = tt

dropped_makes : (P : Type 0) (request : Request) (found : Option FileRow) (name : List ℕ) → P → Makes P request (drop_outcome found name request)
dropped_makes P request None name is = tt
dropped_makes P request (Some row) name is =
    (is, record { user = refl; name = refl; digest = refl })

fault_makes : (P : Type 0) (request : Request) (fault : RevokeFault) → Makes P request (revoke_refusal fault)
fault_makes P request NoSuchWaiver = tt
fault_makes P request (NotOwner owner) = tt
fault_makes P request (Ended day) = tt

revoked_makes : (P : Type 0) (request : Request) (why : Option RevokeFault) (id : WaiverId) (today : ℤ) → P → Makes P request (revoke_outcome why id request today)
revoked_makes P request None id today is = (is, record { user = refl; name = refl; digest = refl })
revoked_makes P request (Some fault) id today is = fault_makes P request fault

by_tables_makes : (P : Type 0) (it : Ask) (request : Request) (today : ℤ) (kept : Kept) → P → Makes P request (by_tables it request today kept)
by_tables_makes P (ask.PutFile name text) request today kept is =
    (is, record { user = refl; name = refl; digest = refl })
by_tables_makes P (ask.GetFile name) request today kept is =
    makes_none P request (file_answer (find (has_name name) kept.files))
    (got_told (find (has_name name) kept.files))
by_tables_makes P (ask.FileText name) request today kept is =
    makes_none P request (text_answer (find (has_name name) kept.files))
    (text_told (find (has_name name) kept.files))
by_tables_makes P ask.Files request today kept is = tt
by_tables_makes P (ask.DropFile name) request today kept is =
    dropped_makes P request (find (has_name name) kept.files) name is
by_tables_makes P (ask.Ruling top) request today kept is = tt
by_tables_makes P (ask.Reach top) request today kept is = tt
by_tables_makes P (ask.SignOff top) request today kept is = tt
by_tables_makes P ask.SignOffs request today kept is = tt
by_tables_makes P (ask.Waive it) request today kept is = tt
by_tables_makes P ask.Waivers request today kept is = tt
by_tables_makes P (ask.Revoke id) request today kept is =
    revoked_makes P request (revocation (find (has_id id) kept.waivers) request.user today) id today is

-- what changes no table is no change
unchanged_told : (it : Ask) (request : Request) (today : ℤ) (kept : Kept) → changes it ≡ false → IsTold (by_tables it request today kept)
unchanged_told (ask.PutFile name text) request today kept isnt = absurd (cc)
unchanged_told (ask.GetFile name) request today kept isnt = got_told (find (has_name name) kept.files)
unchanged_told (ask.FileText name) request today kept isnt = text_told (find (has_name name) kept.files)
unchanged_told ask.Files request today kept isnt = tt
unchanged_told (ask.DropFile name) request today kept isnt = absurd (cc)
unchanged_told (ask.Ruling top) request today kept isnt = tt
unchanged_told (ask.Reach top) request today kept isnt = tt
unchanged_told (ask.SignOff top) request today kept isnt = absurd (cc)
unchanged_told ask.SignOffs request today kept isnt = tt
unchanged_told (ask.Waive it) request today kept isnt = absurd (cc)
unchanged_told ask.Waivers request today kept isnt = tt
unchanged_told (ask.Revoke id) request today kept isnt = absurd (cc)

-- no reply is kept for the request, and it changes the tables where it is accepted
abbrev IsNew : Request → Kept → Type 0
IsNew request kept =
    (changes request.ask ≡ true) × (find (is_to request.user (label_of request.id)) kept.replies ≡ None)

unless_full_makes : (P : Type 0) (request : Request) (table : Option Table) (it : Outcome) → Makes P request it → Makes P request (unless_full table it)
unless_full_makes P request None it makes = makes
unless_full_makes P request (Some table) it makes = tt

unless_kept_makes : (request : Request) (kept : Kept) (found : Option ReplyRow) (it : Outcome) → changes request.ask ≡ true → find (is_to request.user (label_of request.id)) kept.replies ≡ found → (IsNew request kept → Makes (IsNew request kept) request it) → Makes (IsNew request kept) request (unless_kept found request.digest it)
unless_kept_makes request kept None it does none makes = makes (does, none)
unless_kept_makes request kept (Some row) it does found makes = tt

once_makes : (request : Request) (today : ℤ) (kept : Kept) → changes request.ask ≡ true → Makes (IsNew request kept) request (change_outcome request today kept)
once_makes request today kept does =
    unless_kept_makes request kept (find (is_to request.user (label_of request.id)) kept.replies)
    (unless_full (full_table request.ask kept) (by_tables request.ask request today kept)) does refl
    (λ is. unless_full_makes (IsNew request kept) request (full_table request.ask kept)
    (by_tables request.ask request today kept)
    (by_tables_makes (IsNew request kept) request.ask request today kept is))

settled_makes : (request : Request) (today : ℤ) (kept : Kept) (does : Bool) → changes request.ask ≡ does → Makes (IsNew request kept) request (if does then change_outcome request today kept else by_tables request.ask request today kept)
settled_makes request today kept true does = once_makes request today kept does
settled_makes request today kept false doesnt =
    makes_none (IsNew request kept) request (by_tables request.ask request today kept)
    (unchanged_told request.ask request today kept doesnt)

pub accepted_once : (request : Request) (change : Change) (later : List Change) (day today : ℤ) (kept : Kept) → request_outcome request day kept ≡ Done change → request_outcome request today (after later (changed change kept)) ≡ Told (kept_said (reply_of change))
accepted_once request change later day today kept accepted =
    let made : Makes (IsNew request kept) request (Done change) = subst (Makes (IsNew request kept) request) accepted (settled_makes request day kept (changes request.ask) refl) in
    repeats request change later today kept made.0.0 made.0.1 made.1
