-- Waivers, sign-offs and replies that break no rule break none with one more, or after a revocation.
use Rattle.std.proofs.Common.{◌≡◌, ◌∙◌, ℕ, ◌+◌, ◌<◌, true, false, not, ◌||◌, List, [], ◌∷◌, ◌++◌, length, zero, suc, Option, Some, None, refl, sym, ap, arith}
use Rattle.std.specs.Prelude.{ℤ, nat_le, find, position, slice_get, slice_set}
use Rattle.std.specs.Bool.{◌==◌}
use Rattle.std.proofs.lemmas.Bool.{eq-eqb, lt-leb, not_from_true, or_from}
use Rattle.std.proofs.lemmas.List.{length_push}
use Rattle.std.proofs.lemmas.Option.{same_Some}
use Rattle.desk_tables.specs.Changes.{end_at, end_found, has_id, with_end}
use Rattle.desk_tables.specs.Rules.{first_broken, has_reply, is_sound_reply, is_sound_signoff, is_sound_waiver, reply_breaks, signoff_breaks, waiver_breaks}
use Rattle.desk_tables.specs.declared.rows.ReplyRow.{ReplyRow}
use Rattle.desk_tables.specs.declared.rows.SignOffRow.{SignOffRow}
use Rattle.desk_tables.specs.declared.rows.WaiverId.{WaiverId}
use Rattle.desk_tables.specs.declared.rows.WaiverRow.{WaiverRow}
use Rattle.desk_tables.specs.Limits.{MAX_REPLIES, MAX_SIGN_OFFS, MAX_WAIVERS}
use Rattle.desk_records.specs.Machine.{is_to}
use Rattle.desk_sound.proofs.Unbroken.{first_sound, none_unless, rest_sound, sound_behind, unbroken_more}

-- ---- one row more

-- the number of the next row
next_number : (rows : ℕ) → not (rows + 1 == rows + 1) ≡ false
next_number rows = not_from_true _ (eq-eqb (rows + 1) (rows + 1) refl)

pub waiver_more : (rows : List WaiverRow) (row : WaiverRow) → is_sound_waiver row ≡ true → length rows < MAX_WAIVERS → row.id.0 ≡ length rows + 1 → first_broken waiver_breaks [] rows ≡ None → first_broken waiver_breaks [] (rows ++ row ∷ []) ≡ None
waiver_more rows row sound room numbered none =
    unbroken_more waiver_breaks [] rows row none
    (or_from _ _ (or_from _ _ (not_from_true _ sound) (lt-leb MAX_WAIVERS (length rows) room))
    (ap (λ n. not (n == length rows + 1)) numbered ∙ next_number (length rows)))

pub signoff_more : (version : ℕ) (rows : List SignOffRow) (row : SignOffRow) → is_sound_signoff version row ≡ true → length rows < MAX_SIGN_OFFS → row.id ≡ length rows + 1 → first_broken (signoff_breaks version) [] rows ≡ None → first_broken (signoff_breaks version) [] (rows ++ row ∷ []) ≡ None
signoff_more version rows row sound room numbered none =
    unbroken_more (signoff_breaks version) [] rows row none
    (or_from _ _ (or_from _ _ (not_from_true _ sound) (lt-leb MAX_SIGN_OFFS (length rows) room))
    (ap (λ n. not (n == length rows + 1)) numbered ∙ next_number (length rows)))

-- no reply is kept to the request
no_reply : (user label : List ℕ) (rows : List ReplyRow) → find (is_to user label) rows ≡ None → has_reply user label rows ≡ false
no_reply user label [] none = refl
no_reply user label (row ∷ rows) none =
    let parts = none_unless (is_to user label row) row (find (is_to user label) rows) none in
    or_from _ _ parts.0 (no_reply user label rows parts.1)

pub reply_more : (rows : List ReplyRow) (row : ReplyRow) → is_sound_reply row ≡ true → length rows < MAX_REPLIES → find (is_to row.user row.request) rows ≡ None → first_broken reply_breaks [] rows ≡ None → first_broken reply_breaks [] (rows ++ row ∷ []) ≡ None
reply_more rows row sound room new none =
    unbroken_more reply_breaks [] rows row none
    (or_from _ _ (or_from _ _ (not_from_true _ sound) (lt-leb MAX_REPLIES (length rows) room))
    (no_reply row.user row.request rows new))

-- ---- a waiver is revoked

-- behind as many other rows a waiver breaks no other rule
alike : (before other : List WaiverRow) (row : WaiverRow) → length before ≡ length other → waiver_breaks before row ≡ waiver_breaks other row
alike before other row same =
    ap (λ n. not (is_sound_waiver row) || nat_le MAX_WAIVERS n || not (row.id.0 == n + 1)) same

as_many : (before other : List WaiverRow) (row held : WaiverRow) → length before ≡ length other → length (before ++ row ∷ []) ≡ length (other ++ held ∷ [])
as_many before other row held same = omega (arith, same, length_push before row, length_push other held)

all_alike : (before other rows : List WaiverRow) → length before ≡ length other → first_broken waiver_breaks before rows ≡ None → first_broken waiver_breaks other rows ≡ None
all_alike before other [] same none = refl
all_alike before other (row ∷ rows) same none =
    sound_behind waiver_breaks other row rows
    (sym (alike before other row same) ∙ first_sound waiver_breaks before row rows none)
    (all_alike (before ++ row ∷ []) (other ++ row ∷ []) rows (as_many before other row row same) (rest_sound waiver_breaks before row rows none))

-- the waiver, revoked on a day
abbrev ended : ℤ → WaiverRow → WaiverRow
ended day row = record row { ended = Some day }

ended_sound : (before other rows : List WaiverRow) (place : ℕ) (row : WaiverRow) (day : ℤ) → length before ≡ length other → slice_get rows place ≡ Some row → first_broken waiver_breaks before rows ≡ None → first_broken waiver_breaks other (slice_set rows place (ended day row)) ≡ None
ended_sound before other [] place row day same found none = refl
ended_sound before other (first ∷ rows) zero row day same found none =
    sound_behind waiver_breaks other (ended day row) rows
    (ap (waiver_breaks other) (sym (same_Some first row found)) ∙ sym (alike before other first same) ∙ first_sound waiver_breaks before first rows none)
    (all_alike (before ++ first ∷ []) (other ++ ended day row ∷ []) rows (as_many before other first (ended day row) same) (rest_sound waiver_breaks before first rows none))
ended_sound before other (first ∷ rows) (suc place) row day same found none =
    sound_behind waiver_breaks other first (slice_set rows place (ended day row))
    (sym (alike before other first same) ∙ first_sound waiver_breaks before first rows none)
    (ended_sound (before ++ first ∷ []) (other ++ first ∷ []) rows place row day (as_many before other first first same) found (rest_sound waiver_breaks before first rows none))

ended_at : (rows : List WaiverRow) (place : ℕ) (found : Option WaiverRow) (day : ℤ) → slice_get rows place ≡ found → first_broken waiver_breaks [] rows ≡ None → first_broken waiver_breaks [] (end_at place found day rows) ≡ None
ended_at rows place None day is none = none
ended_at rows place (Some row) day is none = ended_sound [] [] rows place row day refl is none

ended_found : (rows : List WaiverRow) (found : Option ℕ) (day : ℤ) → first_broken waiver_breaks [] rows ≡ None → first_broken waiver_breaks [] (end_found found day rows) ≡ None
ended_found rows None day none = none
ended_found rows (Some place) day none = ended_at rows place (slice_get rows place) day refl none

pub end_kept : (id : WaiverId) (day : ℤ) (rows : List WaiverRow) → first_broken waiver_breaks [] rows ≡ None → first_broken waiver_breaks [] (with_end id day rows) ≡ None
end_kept id day rows none = ended_found rows (position (has_id id) rows) day none
