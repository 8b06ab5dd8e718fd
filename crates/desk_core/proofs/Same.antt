-- What stays of the files and the answers where nothing was accepted.
use Rattle.std.proofs.Common.{◌≡◌, ℕ, List, Option, Some, None, ap, refl, subst, ◌∙◌}
use Rattle.desk_tables.specs.Changes.{reply_of}
use Rattle.desk_tables.specs.declared.change.Change.{Change}
use Rattle.desk_requests.specs.Replies.{Said}
use Rattle.desk_service.specs.Service.{is_accepted}
use Rattle.desk_records.specs.Outcomes.{kept_said}
use Rattle.std.specs.Prelude.{true, OnErr, OnOk, Result, Ok, Err}
use Rattle.design_db.specs.Stores.{Store}
use Rattle.design_db.specs.desk_memo.Rulings.{others_of}
use Rattle.desk_core.specs.Machine.{KeepsAnswers, KeepsOthers}
use Rattle.desk_core.specs.Serving.{Leaves}
use Rattle.desk_core.specs.Steps.{IsSameStore}

pub same_store : (store : Store) → IsSameStore store store
same_store store = record { files = refl; answers = λ top. refl; rulings = refl; absent = refl }

pub same_then : (old middle new : Store) → IsSameStore old middle → IsSameStore middle new → IsSameStore old new
same_then old middle new first second = record {
  files = second.files ∙ first.files;
  answers = λ top. second.answers top ∙ first.answers top;
  rulings = second.rulings ∙ first.rulings;
  absent = second.absent ∙ first.absent;
}

-- the answers that were there stay behind a change that isn't made
pub keeps_then : (old middle new : Store) → KeepsAnswers old middle → IsSameStore middle new → KeepsAnswers old new
keeps_then old middle new keeps same = λ top some. same.answers top ∙ keeps top some

-- what is made is accepted
pub never_left : (change : Change) (answer : Said) → answer ≡ kept_said (reply_of change) → is_accepted (reply_of change).status ≡ true → Leaves answer → ⊥
never_left change answer says accepted leaves =
    let same = ap (λ (it : Said). is_accepted it.status) says in cc

-- ---- what is kept of other modules

pub others_same : (looks : Option (List ℕ)) (old new : Store) → new.rulings ≡ old.rulings → new.absent ≡ old.absent → KeepsOthers looks old new
others_same None old new rulings absent = (rulings, absent)
others_same (Some top) old new rulings absent = ap (others_of top) rulings

pub others_then : (looks : Option (List ℕ)) (old middle new : Store) → KeepsOthers looks old middle → new.rulings ≡ middle.rulings → new.absent ≡ middle.absent → KeepsOthers looks old new
others_then None old middle new first rulings absent = (rulings ∙ first.0, absent ∙ first.1)
others_then (Some top) old middle new first rulings absent = ap (others_of top) rulings ∙ first

pub others_by : (looks : Option (List ℕ)) (top : List ℕ) (old new : Store) → Some top ≡ looks → others_of top new.rulings ≡ others_of top old.rulings → KeepsOthers looks old new
others_by looks top old new is same = subst (λ (it : Option (List ℕ)). KeepsOthers it old new) is same

-- they stay where a call is done, and where it fails
pub others_done : {T E : Type 0} (top : List ℕ) (old new : Store) (result : Result T E) → OnOk result (others_of top new.rulings ≡ others_of top old.rulings) → OnErr result (new ≡ old) → others_of top new.rulings ≡ others_of top old.rulings
others_done top old new (Ok done) others same = others
others_done top old new (Err error) others same = ap (λ (it : Store). others_of top it.rulings) same
