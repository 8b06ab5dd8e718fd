-- Where a ruling was asked for, the answer of its module is known.
use Rattle.std.proofs.Common.{◌≡◌, ◌∙◌, ◌⊎◌, inl, inr, ℕ, List, Option, Some, ap, arith, refl, subst, sym}
use Rattle.std.specs.Prelude.{ℤ, IsSome, OnOk, Result, Ok, Err, if◌then◌else◌}
use Rattle.desk_tables.specs.Tables.{Kept}
use Rattle.desk_tables.specs.declared.change.Change.{Change}
use Rattle.desk_requests.specs.Replies.{Said}
use Rattle.desk_requests.specs.Requests.{changes}
use Rattle.desk_requests.specs.declared.ask.Ask.{Ask}
use Rattle.desk_requests.specs.declared.ask.Ask.TheVariants as ask
use Rattle.desk_requests.specs.declared.ask.Request.{Request}
use Rattle.desk_service.specs.Service.{no_memory}
use Rattle.desk_records.specs.Machine.{by_tables, change_outcome, request_outcome}
use Rattle.desk_records.specs.Outcomes.{Outcome, Told, Done, Open}
use Rattle.design_db.specs.Answers.{Answer}
use Rattle.design_db.specs.Stores.{Store, answer_of}
use Rattle.desk_core.specs.Machine.{IsKnown}
use Rattle.desk_core.specs.Outcomes.{IsJudgedFor, IsOpened, IsOutcome, IsSettled, top_of, with_answer}
use Rattle.desk_core.specs.Reaches.{reach_asked}

-- an answer that is found is there
pub is_there : (answer : Answer) (found : Option Answer) → Some answer ≡ found → IsSome found
is_there answer found is = subst (λ (it : Option Answer). IsSome it) is refl

-- what holds, holds where the call is done
pub on_ok : {T E : Type 0} {P : Type 0} (result : Result T E) → P → OnOk result P
on_ok (Ok done) holds = holds
on_ok (Err error) holds = tt

-- it is known where the module is that the request looks at
pub known_by : (it : Ask) (top : List ℕ) (store : Store) → Some top ≡ top_of it → IsSome (answer_of store top) → IsKnown it store
known_by (ask.Ruling other) top store is some =
    let same : top ≡ other = cc in subst (λ (name : List ℕ). IsSome (answer_of store name)) same some
known_by (ask.PutFile name text) top store is some = tt
known_by (ask.GetFile name) top store is some = tt
known_by (ask.FileText name) top store is some = tt
known_by ask.Files top store is some = tt
known_by (ask.DropFile name) top store is some = tt
known_by (ask.Reach name) top store is some = tt
known_by (ask.SignOff name) top store is some = tt
known_by ask.SignOffs top store is some = tt
known_by (ask.Waive it) top store is some = tt
known_by ask.Waivers top store is some = tt
known_by (ask.Revoke id) top store is some = tt

-- the tables settle no ruling
open_ruling : (request : Request) (today : ℤ) (kept : Kept) (top : List ℕ) → request.ask ≡ ask.Ruling top → request_outcome request today kept ≡ Open
open_ruling request today kept top asks =
    ap (λ (it : Ask). if changes it then change_outcome request today kept else by_tables it request today kept) asks

settled_known : (request : Request) (today : ℤ) (kept : Kept) (it : Ask) (store : Store) → request.ask ≡ it → (request_outcome request today kept ≡ Open → ⊥) → IsKnown it store
settled_known request today kept (ask.Ruling top) store asks never = absurd (never (open_ruling request today kept top asks))
settled_known request today kept (ask.PutFile name text) store asks never = tt
settled_known request today kept (ask.GetFile name) store asks never = tt
settled_known request today kept (ask.FileText name) store asks never = tt
settled_known request today kept ask.Files store asks never = tt
settled_known request today kept (ask.DropFile name) store asks never = tt
settled_known request today kept (ask.Reach name) store asks never = tt
settled_known request today kept (ask.SignOff name) store asks never = tt
settled_known request today kept ask.SignOffs store asks never = tt
settled_known request today kept (ask.Waive other) store asks never = tt
settled_known request today kept ask.Waivers store asks never = tt
settled_known request today kept (ask.Revoke id) store asks never = tt

pub told_known : (request : Request) (today : ℤ) (kept : Kept) (answer : Said) (store : Store) → Told answer ≡ request_outcome request today kept → IsKnown request.ask store
told_known request today kept answer store is =
    settled_known request today kept request.ask store refl (λ still. let no : Told answer ≡ Open = is ∙ still in absurd (cc))

pub done_known : (request : Request) (today : ℤ) (kept : Kept) (change : Change) (store : Store) → Done change ≡ request_outcome request today kept → IsKnown request.ask store
done_known request today kept change store is =
    settled_known request today kept request.ask store refl (λ still. let no : Done change ≡ Open = is ∙ still in absurd (cc))

-- a ruling makes no change
ruling_told : (request : Request) (today : ℤ) (kept : Kept) (change : Change) (top : List ℕ) → request.ask ≡ ask.Ruling top → IsOutcome request today kept (Done change) → ⊥
ruling_told request today kept change top asks is =
    let unsettled : IsSettled request today kept Open (Done change) =
    subst (λ (it : Outcome). IsSettled request today kept it (Done change)) (open_ruling request today kept top asks) is in
    let judged : IsJudgedFor request today kept (Some top) (Done change) =
    subst (λ (it : Ask). IsOpened request today kept (reach_asked it) (top_of it) (Done change)) asks unsettled in
    let no : Done change ≡ with_answer (ask.Ruling top) request today kept judged.files judged.answer =
    judged.is ∙ ap (λ (it : Ask). with_answer it request today kept judged.files judged.answer) asks in
    absurd (cc)

pub made_known : (request : Request) (today : ℤ) (kept : Kept) (change : Change) (it : Ask) (store : Store) → request.ask ≡ it → IsOutcome request today kept (Done change) → IsKnown it store
made_known request today kept change (ask.Ruling top) store asks is = absurd (ruling_told request today kept change top asks is)
made_known request today kept change (ask.PutFile name text) store asks is = tt
made_known request today kept change (ask.GetFile name) store asks is = tt
made_known request today kept change (ask.FileText name) store asks is = tt
made_known request today kept change ask.Files store asks is = tt
made_known request today kept change (ask.DropFile name) store asks is = tt
made_known request today kept change (ask.Reach name) store asks is = tt
made_known request today kept change (ask.SignOff name) store asks is = tt
made_known request today kept change ask.SignOffs store asks is = tt
made_known request today kept change (ask.Waive other) store asks is = tt
made_known request today kept change ask.Waivers store asks is = tt
made_known request today kept change (ask.Revoke id) store asks is = tt

-- the want of memory answers no ruling
pub never_ruled : (answer : Said) → answer ≡ no_memory → (answer.status ≡ 200) ⊎ (answer.status ≡ 422) → ⊥
never_ruled answer is (inl status) =
    let no : 507 ≡ 200 = sym (ap (λ (it : Said). it.status) is) ∙ status in omega (arith, no)
never_ruled answer is (inr status) =
    let no : 507 ≡ 422 = sym (ap (λ (it : Said). it.status) is) ∙ status in omega (arith, no)
