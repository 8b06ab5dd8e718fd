-- A reply that is kept is found again after all later changes.
use Rattle.std.proofs.Common.{◌≡◌, ◌∙◌, Bool, true, List, ℕ, [], ◌∷◌, ◌++◌, Some, None, ap, refl}
use Rattle.std.specs.Prelude.{ℤ, bytes_eq, find}
use Rattle.std.specs.Option.{option_or}
use Rattle.std.proofs.lemmas.Bool.{and_from, cond-true}
use Rattle.std.proofs.lemmas.List.Folds.{find-append}
use Rattle.std.proofs.lemmas.Slice.Eq.{bytes_eq-Decides}
use Rattle.desk_tables.specs.Changes.{changed, reply_of}
use Rattle.desk_tables.specs.Tables.{Kept}
use Rattle.desk_tables.specs.declared.change.Change.{Change}
use Rattle.desk_tables.specs.declared.change.Change.TheVariants.{PutFile, DropFile, Grant, Revoke, SignOff}
use Rattle.desk_tables.specs.declared.rows.ReplyRow.{ReplyRow}
use Rattle.desk_requests.specs.Requests.{changes, label_of}
use Rattle.desk_requests.specs.declared.ask.Request.{Request}
use Rattle.desk_records.specs.Machine.{by_tables, change_outcome, full_table, is_to, repeat_outcome, request_outcome, unless_full, unless_kept}
use Rattle.desk_records.specs.Outcomes.{Told, kept_said}
use Rattle.desk_records.specs.Repeats.{IsReplyTo, after}

replies_after : (change : Change) (kept : Kept) → (changed change kept).replies ≡ kept.replies ++ reply_of change ∷ []
replies_after (PutFile row reply) kept = refl
replies_after (DropFile name reply) kept = refl
replies_after (Grant row reply) kept = refl
replies_after (Revoke id day reply) kept = refl
replies_after (SignOff row reply) kept = refl

-- a reply that is found is found after one change more
found_on : (test : ReplyRow → Bool) (change : Change) (kept : Kept) (row : ReplyRow) → find test kept.replies ≡ Some row → find test (changed change kept).replies ≡ Some row
found_on test change kept row found =
    ap (find test) (replies_after change kept)
    ∙ find-append test kept.replies (reply_of change ∷ [])
    ∙ ap (λ it. option_or it (find test (reply_of change ∷ []))) found

found_after : (test : ReplyRow → Bool) (later : List Change) (kept : Kept) (row : ReplyRow) → find test kept.replies ≡ Some row → find test (after later kept).replies ≡ Some row
found_after test [] kept row found = found
found_after test (change ∷ later) kept row found =
    found_after test later (changed change kept) row (found_on test change kept row found)

-- the reply of a change is found, where there was none
found_first : (test : ReplyRow → Bool) (change : Change) (kept : Kept) → find test kept.replies ≡ None → test (reply_of change) ≡ true → find test (changed change kept).replies ≡ Some (reply_of change)
found_first test change kept none is =
    ap (find test) (replies_after change kept)
    ∙ find-append test kept.replies (reply_of change ∷ [])
    ∙ ap (λ it. option_or it (find test (reply_of change ∷ []))) none
    ∙ cond-true (test (reply_of change)) (Some (reply_of change)) None is

same_bytes : (one other : List ℕ) → one ≡ other → bytes_eq one other ≡ true
same_bytes one other same = (bytes_eq-Decides one other).1 same

to_it : (request : Request) (reply : ReplyRow) → IsReplyTo request reply → is_to request.user (label_of request.id) reply ≡ true
to_it request reply is =
    and_from (bytes_eq reply.user request.user) (bytes_eq reply.request (label_of request.id))
    (same_bytes reply.user request.user is.user)
    (same_bytes reply.request (label_of request.id) is.name)

same_again : (request : Request) (reply : ReplyRow) → IsReplyTo request reply → repeat_outcome reply request.digest ≡ Told (kept_said reply)
same_again request reply is =
    ap Told (cond-true (bytes_eq reply.digest request.digest) (kept_said reply) _ (same_bytes reply.digest request.digest is.digest))

-- where a reply is found for it, a request that changes the tables gets that
settled_again : (request : Request) (today : ℤ) (kept : Kept) (reply : ReplyRow) → changes request.ask ≡ true → find (is_to request.user (label_of request.id)) kept.replies ≡ Some reply → IsReplyTo request reply → request_outcome request today kept ≡ Told (kept_said reply)
settled_again request today kept reply does found is =
    cond-true (changes request.ask) (change_outcome request today kept) (by_tables request.ask request today kept) does
    ∙ ap (λ it. unless_kept it request.digest (unless_full (full_table request.ask kept) (by_tables request.ask request today kept))) found
    ∙ same_again request reply is

pub repeats : (request : Request) (change : Change) (later : List Change) (today : ℤ) (kept : Kept) → changes request.ask ≡ true → find (is_to request.user (label_of request.id)) kept.replies ≡ None → IsReplyTo request (reply_of change) → request_outcome request today (after later (changed change kept)) ≡ Told (kept_said (reply_of change))
repeats request change later today kept does none is =
    settled_again request today (after later (changed change kept)) (reply_of change) does
    (found_after (is_to request.user (label_of request.id)) later (changed change kept) (reply_of change)
    (found_first (is_to request.user (label_of request.id)) change kept none (to_it request (reply_of change) is)))
    is
