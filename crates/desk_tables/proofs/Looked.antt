-- What the rows that a loop has looked at say of the next one.
use Rattle.std.proofs.Common.{◌≡◌, ◌∙◌, ℕ, ◌+◌, ◌<◌, ◌≤◌, Bool, true, false, ◌||◌, ◌&&◌, not, nat_le, nat_lt, List, [], ◌∷◌, ◌++◌, length, take, get_or, bytes_eq, ap, sym, refl, subst, arith}
use Rattle.std.specs.Bool.{◌==◌}
use Rattle.std.specs.List.{list_any}
use Rattle.std.specs.Cmp.Lexicographic.{bytes_decides}
use Rattle.std.proofs.lemmas.Bool.{and_from, and_parts, ltb-false, or_parts}
use Rattle.std.proofs.lemmas.List.{append_cancel_left, length-take-le, take_at}
use Rattle.std.proofs.lemmas.List.Folds.{list_any-append}
use Rattle.std.proofs.lemmas.List.Sums.{sum_by_push}
use Rattle.desk_tables.specs.Rules.{all_bytes, file_breaks, has_file, has_reply, is_sound_file, is_sound_reply, is_sound_signoff, is_sound_waiver, reply_breaks, signoff_breaks, waiver_breaks}
use Rattle.desk_tables.specs.Seen.{key_of}
use Rattle.desk_tables.specs.declared.rows.FileRow.{FileRow}
use Rattle.desk_tables.specs.declared.rows.ReplyRow.{ReplyRow}
use Rattle.desk_tables.specs.declared.rows.SignOffRow.{SignOffRow}
use Rattle.desk_tables.specs.declared.rows.WaiverRow.{WaiverRow}
use Rattle.desk_tables.specs.Limits.{MAX_ALL_BYTES, MAX_FILES, MAX_REPLIES, MAX_SIGN_OFFS, MAX_WAIVERS}
use Rattle.desk_tables.proofs.Broken.{Passed, front, passed_more}

or_turned : (a b : Bool) → (a || (b || false)) ≡ (b || a)
or_turned true true = refl
or_turned true false = refl
or_turned false true = refl
or_turned false false = refl

-- one element more passes a test
any_more : {X : Type 0} (p : X → Bool) (xs : List X) (x : X) → list_any p (xs ++ x ∷ []) ≡ (p x || list_any p xs)
any_more p xs x = list_any-append p xs (x ∷ []) ∙ or_turned (list_any p xs) (p x)

-- ---- files

pub record FilesPassed (rows : List FileRow) (place bytes : ℕ) (met : List ℕ → Bool) : Type 0 where
  pub passed : Passed file_breaks rows place
  pub counted : bytes ≡ all_bytes (take place rows)
  pub few : bytes ≤ MAX_ALL_BYTES
  pub names : (name : List ℕ) → met name ≡ has_file name (take place rows)

pub files_none : (rows : List FileRow) (met : List ℕ → Bool) → met ≡ (λ _. false) → FilesPassed rows 0 0 met
files_none rows met none =
    record { passed = refl; counted = refl; few = omega arith; names = λ name. ap (λ (f : List ℕ → Bool). f name) none }

-- what the loop's test says of a row
abbrev pub bad_file : FileRow → ℕ → Bool → ℕ → Bool
bad_file row place taken bytes =
    not (is_sound_file row) || nat_le MAX_FILES place || taken || nat_lt MAX_ALL_BYTES (bytes + length row.text)

pub bad_file_is : (rows : List FileRow) (place bytes : ℕ) (met : List ℕ → Bool) (row : FileRow) (taken result : Bool) → FilesPassed rows place bytes met → place < length rows → taken ≡ met row.name → result ≡ bad_file row place taken bytes → result ≡ file_breaks (take place rows) row
bad_file_is rows place bytes met row taken result so_far inside asked answer =
    answer
    ∙ ap (λ it. bad_file row place it bytes) (asked ∙ so_far.names row.name)
    ∙ ap (bad_file row place (has_file row.name (take place rows))) so_far.counted
    ∙ ap (λ n. bad_file row n (has_file row.name (take place rows)) (all_bytes (take place rows))) (sym (length-take-le place rows (omega arith)))

-- a row that breaks no rule leaves room
pub room_for : (place bytes : ℕ) (row : FileRow) (taken : Bool) → bad_file row place taken bytes ≡ false → bytes + length row.text ≤ MAX_ALL_BYTES
room_for place bytes row taken sound =
    ltb-false MAX_ALL_BYTES (bytes + length row.text) (or_parts _ _ sound).1

pub files_more : (rows : List FileRow) (place bytes more : ℕ) (met met' : List ℕ → Bool) (row : FileRow) → FilesPassed rows place bytes met → place < length rows → row ≡ get_or rows place row → file_breaks (take place rows) row ≡ false → more ≡ bytes + length row.text → met' ≡ (λ other. bytes_eq row.name other || met other) → FilesPassed rows (place + 1) more met'
files_more rows place bytes more met met' row so_far inside read sound sum added =
    let whole : take (place + 1) rows ≡ take place rows ++ row ∷ [] = front rows place row inside read in
    let room : all_bytes (take place rows) + length row.text ≤ MAX_ALL_BYTES =
    room_for (length (take place rows)) (all_bytes (take place rows)) row (has_file row.name (take place rows)) sound in
    record {
      passed = passed_more file_breaks rows place row inside read so_far.passed sound;
      counted =
          sum
          ∙ ap (λ n. n + length row.text) so_far.counted
          ∙ sym (ap all_bytes whole ∙ sum_by_push (λ (it : FileRow). length it.text) (take place rows) row);
      few = omega (arith, room, sum, so_far.counted);
      names = λ name.
          ap (λ (f : List ℕ → Bool). f name) added
          ∙ ap (λ it. bytes_eq row.name name || it) (so_far.names name)
          ∙ sym (ap (has_file name) whole ∙ any_more (λ (it : FileRow). bytes_eq it.name name) (take place rows) row);
    }

-- ---- waivers and sign-offs

-- what the loop's test says of a row
abbrev pub bad_waiver : WaiverRow → ℕ → Bool
bad_waiver row place =
    not (is_sound_waiver row) || nat_le MAX_WAIVERS place || not (row.id.0 == place + 1)

pub bad_waiver_is : (rows : List WaiverRow) (place : ℕ) (row : WaiverRow) (result : Bool) → place < length rows → result ≡ bad_waiver row place → result ≡ waiver_breaks (take place rows) row
bad_waiver_is rows place row result inside answer =
    answer ∙ ap (bad_waiver row) (sym (length-take-le place rows (omega arith)))

-- what the loop's test says of a row
abbrev pub bad_signoff : ℕ → SignOffRow → ℕ → Bool
bad_signoff version row place =
    not (is_sound_signoff version row) || nat_le MAX_SIGN_OFFS place || not (row.id == place + 1)

pub bad_signoff_is : (version : ℕ) (rows : List SignOffRow) (place : ℕ) (row : SignOffRow) (result : Bool) → place < length rows → result ≡ bad_signoff version row place → result ≡ signoff_breaks version (take place rows) row
bad_signoff_is version rows place row result inside answer =
    answer ∙ ap (bad_signoff version row) (sym (length-take-le place rows (omega arith)))

-- ---- replies

same_flag : (a b : Bool) → (a ≡ true → b ≡ true) → (b ≡ true → a ≡ true) → a ≡ b
same_flag true b there back = sym (there refl)
same_flag false true there back = back refl
same_flag false false there back = refl

record SamePair (user other request asked : List ℕ) : Type 0 where
  pub users : user ≡ other
  pub requests : request ≡ asked

parts_of : (user other request asked : List ℕ) → key_of user request ≡ key_of other asked → SamePair user other request asked
parts_of user other request asked same =
    let counts : length user ≡ length other = cc in
    let texts : user ++ request ≡ other ++ asked = cc in
    let users : user ≡ other =
    sym (take_at user request (length user) refl)
    ∙ ap (take (length user)) texts
    ∙ take_at other asked (length user) (sym counts) in
    record {
      users = users;
      requests = append_cancel_left other request asked (subst (λ it. it ++ request ≡ other ++ asked) users texts);
    }

-- two keys are one where user and request are
pub same_key : (user other request asked : List ℕ) → bytes_eq (key_of user request) (key_of other asked) ≡ (bytes_eq user other && bytes_eq request asked)
same_key user other request asked =
    same_flag _ _
    (λ same.
    let parts = parts_of user other request asked ((bytes_decides (key_of user request) (key_of other asked)).0 same) in
    and_from _ _ ((bytes_decides user other).1 parts.users) ((bytes_decides request asked).1 parts.requests))
    (λ both.
    let parts = and_parts (bytes_eq user other) (bytes_eq request asked) both in
    let users : user ≡ other = (bytes_decides user other).0 parts.0 in
    let requests : request ≡ asked = (bytes_decides request asked).0 parts.1 in
    (bytes_decides (key_of user request) (key_of other asked)).1
    (ap (λ it. key_of it request) users ∙ ap (key_of other) requests))

pub record RepliesPassed (rows : List ReplyRow) (place : ℕ) (met : List ℕ → Bool) : Type 0 where
  pub passed : Passed reply_breaks rows place
  pub requests : (user request : List ℕ) → met (key_of user request) ≡ has_reply user request (take place rows)

pub replies_none : (rows : List ReplyRow) (met : List ℕ → Bool) → met ≡ (λ _. false) → RepliesPassed rows 0 met
replies_none rows met none =
    record { passed = refl; requests = λ user request. ap (λ (f : List ℕ → Bool). f (key_of user request)) none }

-- what the loop's test says of a row
abbrev pub bad_reply : ReplyRow → ℕ → Bool → Bool
bad_reply row place taken = not (is_sound_reply row) || nat_le MAX_REPLIES place || taken

pub bad_reply_is : (rows : List ReplyRow) (place : ℕ) (met : List ℕ → Bool) (row : ReplyRow) (key : List ℕ) (taken result : Bool) → RepliesPassed rows place met → place < length rows → key ≡ key_of row.user row.request → taken ≡ met key → result ≡ bad_reply row place taken → result ≡ reply_breaks (take place rows) row
bad_reply_is rows place met row key taken result so_far inside named asked answer =
    answer
    ∙ ap (bad_reply row place) (asked ∙ ap met named ∙ so_far.requests row.user row.request)
    ∙ ap (λ n. bad_reply row n (has_reply row.user row.request (take place rows))) (sym (length-take-le place rows (omega arith)))

pub replies_more : (rows : List ReplyRow) (place : ℕ) (met met' : List ℕ → Bool) (row : ReplyRow) (key : List ℕ) → RepliesPassed rows place met → place < length rows → row ≡ get_or rows place row → reply_breaks (take place rows) row ≡ false → key ≡ key_of row.user row.request → met' ≡ (λ other. bytes_eq key other || met other) → RepliesPassed rows (place + 1) met'
replies_more rows place met met' row key so_far inside read sound named added =
    let whole : take (place + 1) rows ≡ take place rows ++ row ∷ [] = front rows place row inside read in
    record {
      passed = passed_more reply_breaks rows place row inside read so_far.passed sound;
      requests = λ user request.
          ap (λ (f : List ℕ → Bool). f (key_of user request)) added
          ∙ ap (λ it. bytes_eq it (key_of user request) || met (key_of user request)) named
          ∙ ap (λ it. it || met (key_of user request)) (same_key row.user user row.request request)
          ∙ ap (λ it. (bytes_eq row.user user && bytes_eq row.request request) || it) (so_far.requests user request)
          ∙ sym (ap (has_reply user request) whole ∙ any_more (λ (it : ReplyRow). bytes_eq it.user user && bytes_eq it.request request) (take place rows) row);
    }
