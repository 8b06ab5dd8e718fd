-- What a request for a module's reach comes to.
use Rattle.std.proofs.Common.{◌≡◌, ◌∙◌, inl, ℕ, List, Option, Some, None, ap, refl, subst, sym}
use Rattle.std.specs.Prelude.{ℤ, IfOk, IfSome, OnOk, Result, Ok, Err, if◌then◌else◌}
use Rattle.text_ground.specs.declared.memory.Memory.{Memory}
use Rattle.source_file.specs.declared.SourceFile.{SourceFile}
use Rattle.desk_tables.specs.Tables.{Kept}
use Rattle.desk_tables.specs.declared.change.Change.{Change}
use Rattle.desk_requests.specs.Replies.{Said}
use Rattle.desk_requests.specs.Requests.{changes}
use Rattle.desk_requests.specs.declared.ask.Ask.{Ask}
use Rattle.desk_requests.specs.declared.ask.Ask.TheVariants as ask
use Rattle.desk_requests.specs.declared.ask.Request.{Request}
use Rattle.desk_records.specs.Machine.{by_tables, change_outcome, request_outcome}
use Rattle.desk_records.specs.Outcomes.{Outcome, Done, Open, outcome}
use Rattle.desk_records.specs.declared.decision.Decision.{Decision}
use Rattle.design_db.specs.desk_memo.declared.answer.Answer.TheVariants.{Ruled, Refused}
use Rattle.design_db.specs.Answers.{Answer, IsFresh}
use Rattle.design_db.specs.Stores.{Store, answer_of}
use Rattle.desk_core.specs.Files.{AreFilesOf}
use Rattle.desk_core.specs.Machine.{IsKnown}
use Rattle.desk_core.specs.Outcomes.{IsJudgedFor, IsOpened, IsOutcome, IsSettled, top_of}
use Rattle.desk_core.specs.Reaches.{IsReached, IsReachOf, OnlyLooks, SaysReach, reach_asked, reach_with}

-- what is told by an answer that is fresh, or by none
pub reached_by : (top : List ℕ) (kept : Kept) (files : List SourceFile) (answer : Option Answer) (result : Result Decision Memory) → AreFilesOf kept.files files → IfSome answer (IsFresh files top) → IfOk result (λ made. outcome made ≡ reach_with top kept answer) → IfOk result (λ made. IsReached top kept (outcome made))
reached_by top kept files answer (Ok made) are fresh is =
    record { files = files; are_files = are; answer = answer; fresh = fresh; is = is }
reached_by top kept files answer (Err fault) are fresh is = tt

-- the tables and the answer are those that were looked at
pub reach_seen : (top : List ℕ) (kept rows : Kept) (answer found : Option Answer) (result : Result Decision Memory) → rows ≡ kept → found ≡ answer → IfOk result (λ made. outcome made ≡ reach_with top rows found) → IfOk result (λ made. outcome made ≡ reach_with top kept answer)
reach_seen top kept rows answer found (Ok made) same seen is =
    is ∙ ap (λ it. reach_with top it found) same ∙ ap (reach_with top kept) seen
reach_seen top kept rows answer found (Err fault) same seen is = tt

-- the tables settle no reach
open_reach : (it : Ask) (top : List ℕ) (request : Request) (today : ℤ) (kept : Kept) → Some top ≡ reach_asked it → (if changes it then change_outcome request today kept else by_tables it request today kept) ≡ Open
open_reach (ask.PutFile name text) top request today kept asks = absurd (cc)
open_reach (ask.GetFile name) top request today kept asks = absurd (cc)
open_reach (ask.FileText name) top request today kept asks = absurd (cc)
open_reach ask.Files top request today kept asks = absurd (cc)
open_reach (ask.DropFile name) top request today kept asks = absurd (cc)
open_reach (ask.Ruling other) top request today kept asks = absurd (cc)
open_reach (ask.Reach other) top request today kept asks = refl
open_reach (ask.SignOff other) top request today kept asks = absurd (cc)
open_reach ask.SignOffs top request today kept asks = absurd (cc)
open_reach (ask.Waive it) top request today kept asks = absurd (cc)
open_reach ask.Waivers top request today kept asks = absurd (cc)
open_reach (ask.Revoke id) top request today kept asks = absurd (cc)

settled : (request : Request) (today : ℤ) (kept : Kept) (comes made : Outcome) → comes ≡ Open → IsOpened request today kept (reach_asked request.ask) (top_of request.ask) made → IsSettled request today kept comes made
settled request today kept comes made is opened =
    subst (λ (it : Outcome). IsSettled request today kept it made) (sym is) opened

-- so it is settled by what is told
pub reach_outcomes : (request : Request) (today : ℤ) (kept : Kept) (top : List ℕ) (result : Result Decision Memory) → Some top ≡ reach_asked request.ask → IfOk result (λ made. IsReached top kept (outcome made)) → IfOk result (λ made. IsOutcome request today kept (outcome made))
reach_outcomes request today kept top (Ok made) asks is =
    settled request today kept (request_outcome request today kept) (outcome made)
    (open_reach request.ask top request today kept asks)
    (subst (λ (it : Option (List ℕ)). IsOpened request today kept it (top_of request.ask) (outcome made)) asks is)
reach_outcomes request today kept top (Err fault) asks is = tt

-- and any other that the tables don't settle, by a ruling
pub judged_outcomes : (request : Request) (today : ℤ) (kept : Kept) (result : Result Decision Memory) → request_outcome request today kept ≡ Open → reach_asked request.ask ≡ None → IfOk result (λ made. IsJudgedFor request today kept (top_of request.ask) (outcome made)) → IfOk result (λ made. IsOutcome request today kept (outcome made))
judged_outcomes request today kept (Ok made) comes asks is =
    settled request today kept (request_outcome request today kept) (outcome made) comes
    (subst (λ (it : Option (List ℕ)). IsOpened request today kept it (top_of request.ask) (outcome made)) (sym asks) is)
judged_outcomes request today kept (Err fault) comes asks is = tt

-- no ruling is asked for where a reach is
pub reach_known : (it : Ask) (top : List ℕ) (store : Store) → Some top ≡ reach_asked it → IsKnown it store
reach_known (ask.PutFile name text) top store asks = tt
reach_known (ask.GetFile name) top store asks = tt
reach_known (ask.FileText name) top store asks = tt
reach_known ask.Files top store asks = tt
reach_known (ask.DropFile name) top store asks = tt
reach_known (ask.Ruling other) top store asks = absurd (cc)
reach_known (ask.Reach other) top store asks = tt
reach_known (ask.SignOff other) top store asks = tt
reach_known ask.SignOffs top store asks = tt
reach_known (ask.Waive it) top store asks = tt
reach_known ask.Waivers top store asks = tt
reach_known (ask.Revoke id) top store asks = tt

-- ---- what is told, and what stays

pub reach_is : (asked : Option (List ℕ)) (top : List ℕ) (kept : Kept) (store : Store) (result : Result Decision Memory) → Some top ≡ asked → IfOk result (λ made. IsReachOf (Some top) kept store (outcome made)) → IfOk result (λ made. IsReachOf asked kept store (outcome made))
reach_is asked top kept store result asks is =
    let P : Option (List ℕ) → Type 0 = λ it. IfOk result (λ made. IsReachOf it kept store (outcome made)) in
    subst P asks is

no_reach_is : (kept : Kept) (store : Store) (result : Result Decision Memory) → IfOk result (λ made. IsReachOf None kept store (outcome made))
no_reach_is kept store (Ok made) = tt
no_reach_is kept store (Err fault) = tt

pub none_is : (asked : Option (List ℕ)) (kept : Kept) (store : Store) (result : Result Decision Memory) → None ≡ asked → IfOk result (λ made. IsReachOf asked kept store (outcome made))
none_is asked kept store result asks =
    let P : Option (List ℕ) → Type 0 = λ it. IfOk result (λ made. IsReachOf it kept store (outcome made)) in
    subst P asks (no_reach_is kept store result)

pub looks_same : (asked : Option (List ℕ)) (store : Store) → OnlyLooks asked store store
looks_same None store = tt
looks_same (Some top) store = refl

pub looks_none : (asked : Option (List ℕ)) (old new : Store) → None ≡ asked → OnlyLooks asked old new
looks_none asked old new asks = subst (λ (it : Option (List ℕ)). OnlyLooks it old new) asks tt

-- a reach makes no change
pub reached_none : (change : Change) (top : List ℕ) (kept : Kept) (answer : Option Answer) → Done change ≡ reach_with top kept answer → ⊥
reached_none change top kept None is = cc
reached_none change top kept (Some (Ruled made names)) is = cc
reached_none change top kept (Some (Refused line)) is = cc

pub made_says : (asked : Option (List ℕ)) (kept kept' : Kept) (store store' : Store) (change : Change) (answer : Said) → IsReachOf asked kept store (Done change) → SaysReach asked kept' store' answer
made_says None kept kept' store store' change answer is = inl tt
made_says (Some top) kept kept' store store' change answer is =
    absurd (reached_none change top kept (answer_of store top) is)

pub made_looks : (asked : Option (List ℕ)) (kept : Kept) (store old new : Store) (change : Change) → IsReachOf asked kept store (Done change) → OnlyLooks asked old new
made_looks None kept store old new change is = tt
made_looks (Some top) kept store old new change is = absurd (reached_none change top kept (answer_of store top) is)
