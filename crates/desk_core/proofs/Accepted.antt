-- The replies that are kept are to what was accepted.
use Rattle.std.proofs.Common.{◌≡◌, ℕ, Bool, true, false, List, [], ◌∷◌, ◌++◌, Option, Some, None, length, cond, ◌+◌, refl, sym, ap, subst}
use Rattle.std.specs.Prelude.{◌||◌, ◌==◌, find}
use Rattle.std.proofs.lemmas.Bool.{and_parts, not-false, or_parts}
use Rattle.std.proofs.lemmas.List.Elements.{All-append, All-cons, All-head, All-nil, All-tail}
use Rattle.desk_tables.specs.Changes.{changed, reply_of}
use Rattle.desk_tables.specs.Rules.{broken_row, first_broken, is_sound_reply, reply_breaks}
use Rattle.desk_tables.specs.Tables.{Kept}
use Rattle.desk_tables.specs.declared.change.Change.{Change}
use Rattle.desk_tables.specs.declared.change.Change.TheVariants.{PutFile, DropFile, Grant, Revoke, SignOff}
use Rattle.desk_tables.specs.declared.rows.ReplyRow.{ReplyRow}
use Rattle.desk_service.specs.Service.{is_accepted, is_answered}
use Rattle.desk_core.specs.Machine.{AreAccepted}
use Rattle.desk_sound.proofs.Tables.{sound_from}

-- a reply to what was accepted
abbrev IsAccepted : ReplyRow → Type 0
IsAccepted row = is_accepted row.status ≡ true

pub accepted_answered : (status : ℕ) → is_accepted status ≡ true → is_answered status ≡ true
accepted_answered status is =
    ap (λ b. b || status == 404 || status == 409 || status == 422 || status == 503 || status == 507) is

-- ---- a reply that is found

some_same : (held row : ReplyRow) → Some held ≡ Some row → held ≡ row
some_same held row same = cc

chosen : (passes : Bool) (held : ReplyRow) (rest : Option ReplyRow) (row : ReplyRow) → IsAccepted held → (rest ≡ Some row → IsAccepted row) → cond passes (Some held) rest ≡ Some row → IsAccepted row
chosen true held rest row first others same = subst IsAccepted (some_same held row same) first
chosen false held rest row first others same = others same

pub found_accepted : (test : ReplyRow → Bool) (rows : List ReplyRow) (row : ReplyRow) → AreAccepted rows → find test rows ≡ Some row → is_accepted row.status ≡ true
found_accepted test [] row all found = absurd (cc)
found_accepted test (held ∷ rows) row all found =
    chosen (test held) held (find test rows) row (All-head IsAccepted held rows all)
    (found_accepted test rows row (All-tail IsAccepted held rows all)) found

-- ---- replies at the start

unbroken : (broken : Bool) (number : ℕ) (rest : Option ℕ) → cond broken (Some number) rest ≡ None → (broken ≡ false) × (rest ≡ None)
unbroken true number rest none = absurd (cc)
unbroken false number rest none = (refl, none)

sound_accepted : (before : List ReplyRow) (row : ReplyRow) → reply_breaks before row ≡ false → IsAccepted row
sound_accepted before row sound =
    let whole : is_sound_reply row ≡ true = not-false _ (or_parts _ _ (or_parts _ _ sound).0).0 in
    (and_parts _ _ whole).1

accepted_rows : (before rows : List ReplyRow) → first_broken reply_breaks before rows ≡ None → AreAccepted rows
accepted_rows before [] none = All-nil IsAccepted
accepted_rows before (row ∷ rows) none =
    let parts = unbroken (reply_breaks before row) (length before + 1) (first_broken reply_breaks (before ++ row ∷ []) rows) none in
    All-cons IsAccepted row rows (sound_accepted before row parts.0)
    (accepted_rows (before ++ row ∷ []) rows parts.1)

pub first_accepted : (kept : Kept) → broken_row kept ≡ None → AreAccepted kept.replies
first_accepted kept none = accepted_rows [] kept.replies (sound_from kept none).replies

-- ---- replies after a change

one_more : (rows : List ReplyRow) (reply : ReplyRow) → AreAccepted rows → IsAccepted reply → AreAccepted (rows ++ reply ∷ [])
one_more rows reply all is =
    All-append IsAccepted rows (reply ∷ []) all (All-cons IsAccepted reply [] is (All-nil IsAccepted))

accepted_after : (change : Change) (kept : Kept) → AreAccepted kept.replies → IsAccepted (reply_of change) → AreAccepted (changed change kept).replies
accepted_after (PutFile row reply) kept all is = one_more kept.replies reply all is
accepted_after (DropFile name reply) kept all is = one_more kept.replies reply all is
accepted_after (Grant row reply) kept all is = one_more kept.replies reply all is
accepted_after (Revoke id day reply) kept all is = one_more kept.replies reply all is
accepted_after (SignOff row reply) kept all is = one_more kept.replies reply all is

pub replies_made : (change : Change) (kept kept' : Kept) → AreAccepted kept.replies → is_accepted (reply_of change).status ≡ true → kept' ≡ changed change kept → AreAccepted kept'.replies
replies_made change kept kept' all is moved =
    subst (λ (it : Kept). AreAccepted it.replies) (sym moved) (accepted_after change kept all is)
