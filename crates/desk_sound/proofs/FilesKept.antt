-- Files that break no rule break none after one is dropped or put.
use Rattle.std.proofs.Common.{◌≡◌, ◌∙◌, ℕ, ◌+◌, ◌<◌, ◌≤◌, Bool, true, false, not, ◌||◌, cond, List, [], ◌∷◌, ◌++◌, length, None, refl, sym, ap, subst, inl, inr, arith}
use Rattle.std.specs.Prelude.{bytes_eq, filter}
use Rattle.std.proofs.lemmas.Bool.{cases_Bool, cond-false, cond-true, le-ltb, leb-false, lt-leb, ltb-false, not-false, not_from_true, or_from, or_left, or_parts, both_ways, false_from_ne_true}
use Rattle.std.proofs.lemmas.List.{length_push}
use Rattle.std.proofs.lemmas.List.Folds.{list_any-append}
use Rattle.std.proofs.lemmas.List.Sums.{sum_by-cons, sum_by_push}
use Rattle.std.proofs.lemmas.Slice.Eq.{bytes_eq-Decides}
use Rattle.desk_tables.specs.Changes.{has_name, with_file, without_file}
use Rattle.desk_tables.specs.Rules.{all_bytes, file_breaks, first_broken, has_file, is_sound_file}
use Rattle.desk_tables.specs.declared.rows.FileRow.{FileRow}
use Rattle.desk_tables.specs.Limits.{MAX_ALL_BYTES, MAX_FILES}
use Rattle.desk_sound.proofs.Placed.{row_put_here, row_put_past}
use Rattle.desk_sound.proofs.Unbroken.{first_sound, rest_sound, sound_behind}

-- ---- what a row keeps

-- a row may stand behind those
record Fits (before : List FileRow) (row : FileRow) : Type 0 where
  pub sound : is_sound_file row ≡ true
  pub few : length before < MAX_FILES
  pub new : has_file row.name before ≡ false
  pub small : all_bytes before + length row.text ≤ MAX_ALL_BYTES

fits_from : (before : List FileRow) (row : FileRow) → file_breaks before row ≡ false → Fits before row
fits_from before row sound =
    let whole = or_parts _ _ sound in
    let named = or_parts _ _ whole.0 in
    let counted = or_parts _ _ named.0 in
    record {
      sound = not-false _ counted.0;
      few = leb-false MAX_FILES (length before) counted.1;
      new = named.1;
      small = ltb-false MAX_ALL_BYTES (all_bytes before + length row.text) whole.1;
    }

fits_to : (before : List FileRow) (row : FileRow) → Fits before row → file_breaks before row ≡ false
fits_to before row fits =
    or_from _ _
    (or_from _ _ (or_from _ _ (not_from_true _ fits.sound) (lt-leb MAX_FILES (length before) fits.few)) fits.new)
    (le-ltb MAX_ALL_BYTES (all_bytes before + length row.text) fits.small)

or_turned : (a b : Bool) → (a || (b || false)) ≡ (b || a)
or_turned true true = refl
or_turned true false = refl
or_turned false true = refl
or_turned false false = refl

-- a name of rows with one more
has_file_push : (name : List ℕ) (rows : List FileRow) (row : FileRow) → has_file name (rows ++ row ∷ []) ≡ (has_name name row || has_file name rows)
has_file_push name rows row =
    list_any-append (has_name name) rows (row ∷ []) ∙ or_turned (has_file name rows) (has_name name row)

bytes_push : (rows : List FileRow) (row : FileRow) → all_bytes (rows ++ row ∷ []) ≡ all_bytes rows + length row.text
bytes_push rows row = sum_by_push (λ (it : FileRow). length it.text) rows row

bytes_cons : (row : FileRow) (rows : List FileRow) → all_bytes (row ∷ rows) ≡ length row.text + all_bytes rows
bytes_cons row rows = sum_by-cons (λ (it : FileRow). length it.text) row rows

-- ---- a file is dropped

-- no more rows, no more bytes and no other names
record Fewer (before after : List FileRow) : Type 0 where
  pub count : length after ≤ length before
  pub bytes : all_bytes after ≤ all_bytes before
  pub names : (name : List ℕ) → has_file name before ≡ false → has_file name after ≡ false

fits_fewer : (before after : List FileRow) (row : FileRow) → Fewer before after → Fits before row → Fits after row
fits_fewer before after row fewer fits = record {
  sound = fits.sound;
  few = omega (arith, fewer.count, fits.few);
  new = fewer.names row.name fits.new;
  small = omega (arith, fewer.bytes, fits.small);
}

fewer_both : (before after : List FileRow) (row : FileRow) → Fewer before after → Fewer (before ++ row ∷ []) (after ++ row ∷ [])
fewer_both before after row fewer = record {
  count = omega (arith, fewer.count, length_push before row, length_push after row);
  bytes = omega (arith, fewer.bytes, bytes_push before row, bytes_push after row);
  names = λ name none.
      let apart = or_parts (has_name name row) (has_file name before) (sym (has_file_push name before row) ∙ none) in
      has_file_push name after row ∙ or_from _ _ apart.0 (fewer.names name apart.1);
}

fewer_one : (before after : List FileRow) (row : FileRow) → Fewer before after → Fewer (before ++ row ∷ []) after
fewer_one before after row fewer = record {
  count = omega (arith, fewer.count, length_push before row);
  bytes = omega (arith, fewer.bytes, bytes_push before row);
  names = λ name none.
      fewer.names name (or_parts (has_name name row) (has_file name before) (sym (has_file_push name before row) ∙ none)).1;
}

kept_or_dropped : (keeps : Bool) (after : List FileRow) (row : FileRow) (rows : List FileRow) → file_breaks after row ≡ false → first_broken file_breaks (after ++ row ∷ []) rows ≡ None → first_broken file_breaks after rows ≡ None → first_broken file_breaks after (cond keeps (row ∷ rows) rows) ≡ None
kept_or_dropped true after row rows first kept dropped = sound_behind file_breaks after row rows first kept
kept_or_dropped false after row rows first kept dropped = dropped

some_kept : (keeps : FileRow → Bool) (before after rows : List FileRow) → Fewer before after → first_broken file_breaks before rows ≡ None → first_broken file_breaks after (filter keeps rows) ≡ None
some_kept keeps before after [] fewer none = refl
some_kept keeps before after (row ∷ rows) fewer none =
    let rest : first_broken file_breaks (before ++ row ∷ []) rows ≡ None = rest_sound file_breaks before row rows none in
    kept_or_dropped (keeps row) after row (filter keeps rows)
    (fits_to after row (fits_fewer before after row fewer (fits_from before row (first_sound file_breaks before row rows none))))
    (some_kept keeps (before ++ row ∷ []) (after ++ row ∷ []) rows (fewer_both before after row fewer) rest)
    (some_kept keeps (before ++ row ∷ []) after rows (fewer_one before after row fewer) rest)

pub dropped_kept : (name : List ℕ) (rows : List FileRow) → first_broken file_breaks [] rows ≡ None → first_broken file_breaks [] (without_file name rows) ≡ None
dropped_kept name rows none =
    some_kept (λ row. not (has_name name row)) [] [] rows
    (record { count = omega arith; bytes = omega arith; names = λ name none. none }) none

-- ---- a file of a new name is put between others

-- one row more of these, wherever it stands
record OneMore (row : FileRow) (before after : List FileRow) : Type 0 where
  pub count : length after ≡ length before + 1
  pub bytes : all_bytes after ≡ all_bytes before + length row.text
  pub names : (name : List ℕ) → has_file name after ≡ (has_name name row || has_file name before)

or_swapped : (a b c : Bool) → (a || (b || c)) ≡ (b || (a || c))
or_swapped true true c = refl
or_swapped true false c = refl
or_swapped false true c = refl
or_swapped false false c = refl

one_more_push : (row : FileRow) (before after : List FileRow) (next : FileRow) → OneMore row before after → OneMore row (before ++ next ∷ []) (after ++ next ∷ [])
one_more_push row before after next more = record {
  count = omega (arith, more.count, length_push before next, length_push after next);
  bytes = omega (arith, more.bytes, bytes_push before next, bytes_push after next);
  names = λ name.
      has_file_push name after next
      ∙ ap (λ it. has_name name next || it) (more.names name)
      ∙ or_swapped (has_name name next) (has_name name row) (has_file name before)
      ∙ ap (λ it. has_name name row || it) (sym (has_file_push name before next));
}

same_bytes : (xs ys : List ℕ) → bytes_eq xs ys ≡ true → xs ≡ ys
same_bytes xs ys = (bytes_eq-Decides xs ys).0

bytes_eq-turned : (xs ys : List ℕ) → bytes_eq xs ys ≡ false → bytes_eq ys xs ≡ false
bytes_eq-turned xs ys apart = false_from_ne_true _ (λ same. both_ways (bytes_eq xs ys) apart ((bytes_eq-Decides xs ys).1 (sym (same_bytes ys xs same))))

-- the rows behind it break none
behind_new : (row : FileRow) (before after rows : List FileRow) → OneMore row before after → has_file row.name rows ≡ false → length after + length rows ≤ MAX_FILES → all_bytes after + all_bytes rows ≤ MAX_ALL_BYTES → first_broken file_breaks before rows ≡ None → first_broken file_breaks after rows ≡ None
behind_new row before after [] more new few small none = refl
behind_new row before after (next ∷ rows) more new few small none =
    let fits : Fits before next = fits_from before next (first_sound file_breaks before next rows none) in
    let apart = or_parts (has_name row.name next) (has_file row.name rows) new in
    let sum : all_bytes (next ∷ rows) ≡ length next.text + all_bytes rows = bytes_cons next rows in
    sound_behind file_breaks after next rows
    (fits_to after next (record {
      sound = fits.sound;
      few = omega (arith, few);
      new = more.names next.name ∙ or_from _ _ (bytes_eq-turned next.name row.name apart.0) fits.new;
      small = omega (arith, small, sum);
    }))
    (behind_new row (before ++ next ∷ []) (after ++ next ∷ []) rows (one_more_push row before after next more) apart.1
    (omega (arith, few, length_push after next)) (omega (arith, small, sum, bytes_push after next))
    (rest_sound file_breaks before next rows none))

between : (row : FileRow) (before front back : List FileRow) → is_sound_file row ≡ true → has_file row.name before ≡ false → has_file row.name (front ++ back) ≡ false → length before + length (front ++ back) < MAX_FILES → all_bytes before + all_bytes (front ++ back) + length row.text ≤ MAX_ALL_BYTES → first_broken file_breaks before (front ++ back) ≡ None → first_broken file_breaks before (front ++ row ∷ back) ≡ None
between row before [] back sound new apart few small none =
    sound_behind file_breaks before row back
    (fits_to before row (record {
      sound = sound;
      few = omega (arith, few);
      new = new;
      small = omega (arith, small);
    }))
    (behind_new row before (before ++ row ∷ []) back
    (record { count = length_push before row; bytes = bytes_push before row; names = λ name. has_file_push name before row })
    apart
    (omega (arith, few, length_push before row)) (omega (arith, small, bytes_push before row)) none)
between row before (first ∷ front) back sound new apart few small none =
    let others = or_parts (has_name row.name first) (has_file row.name (front ++ back)) apart in
    let sum : all_bytes (first ∷ front ++ back) ≡ length first.text + all_bytes (front ++ back) = bytes_cons first (front ++ back) in
    sound_behind file_breaks before first (front ++ row ∷ back) (first_sound file_breaks before first (front ++ back) none)
    (between row (before ++ first ∷ []) front back sound
    (has_file_push row.name before first ∙ or_from _ _ others.0 new)
    others.1
    (omega (arith, few, length_push before first))
    (omega (arith, small, sum, bytes_push before first))
    (rest_sound file_breaks before first (front ++ back) none))

-- ---- a file is put

-- the file is put between the rows that have another name
record IsPut (row : FileRow) (rows : List FileRow) : Type 0 where
  pub front : List FileRow
  pub back : List FileRow
  pub put : with_file row rows ≡ front ++ row ∷ back
  pub others : without_file row.name rows ≡ front ++ back

none_dropped : (name : List ℕ) (rows : List FileRow) → has_file name rows ≡ false → without_file name rows ≡ rows
none_dropped name [] none = refl
none_dropped name (row ∷ rows) none =
    let apart = or_parts (has_name name row) (has_file name rows) none in
    cond-true _ _ _ (ap not apart.0) ∙ ap (λ it. row ∷ it) (none_dropped name rows apart.1)

-- a name that stood before stands not again
not_again : (name : List ℕ) (before rows : List FileRow) → has_file name before ≡ true → first_broken file_breaks before rows ≡ None → has_file name rows ≡ false
not_again name before [] stood none = refl
not_again name before (row ∷ rows) stood none =
    let fits : Fits before row = fits_from before row (first_sound file_breaks before row rows none) in
    let other : has_name name row ≡ false = false_from_ne_true _ (λ named.
    both_ways (has_file name before) (subst (λ it. has_file it before ≡ false) (same_bytes row.name name named) fits.new) stood) in
    or_from _ _ other
    (not_again name (before ++ row ∷ []) rows (has_file_push name before row ∙ ap (λ it. it || has_file name before) other ∙ stood) (rest_sound file_breaks before row rows none))

is_put : (row : FileRow) (before rows : List FileRow) → first_broken file_breaks before rows ≡ None → IsPut row rows
is_put row before [] none = record { front = []; back = []; put = refl; others = refl }
is_put row before (held ∷ rows) none =
    elim (cases_Bool (has_name row.name held)) [
      | inl named ↦ record {
        front = [];
        back = rows;
        put = row_put_here row held rows named;
        others =
            cond-false _ _ _ (ap not named)
            ∙ none_dropped row.name rows
            (not_again row.name (before ++ held ∷ []) rows (has_file_push row.name before held ∙ or_left _ _ named) (rest_sound file_breaks before held rows none));
      }
      | inr other ↦
          let more : IsPut row rows = is_put row (before ++ held ∷ []) rows (rest_sound file_breaks before held rows none) in
          record {
            front = held ∷ more.front;
            back = more.back;
            put = row_put_past row held rows other ∙ ap (λ it. held ∷ it) more.put;
            others = cond-true _ _ _ (ap not other) ∙ ap (λ it. held ∷ it) more.others;
          }
    ]

gone : (name : List ℕ) (rows : List FileRow) → has_file name (without_file name rows) ≡ false
gone name [] = refl
gone name (row ∷ rows) =
    elim (cases_Bool (has_name name row)) [
      | inl named ↦ ap (has_file name) (cond-false _ _ _ (ap not named)) ∙ gone name rows
      | inr other ↦ ap (has_file name) (cond-true _ _ _ (ap not other)) ∙ or_from _ _ other (gone name rows)
    ]

pub put_kept : (row : FileRow) (rows : List FileRow) → is_sound_file row ≡ true → length (without_file row.name rows) < MAX_FILES → all_bytes (without_file row.name rows) + length row.text ≤ MAX_ALL_BYTES → first_broken file_breaks [] rows ≡ None → first_broken file_breaks [] (with_file row rows) ≡ None
put_kept row rows sound few small none =
    let put : IsPut row rows = is_put row [] rows none in
    let fewer : length (put.front ++ put.back) < MAX_FILES = subst (λ it. length it < MAX_FILES) put.others few in
    let smaller : all_bytes (put.front ++ put.back) + length row.text ≤ MAX_ALL_BYTES = subst (λ it. all_bytes it + length row.text ≤ MAX_ALL_BYTES) put.others small in
    ap (first_broken file_breaks []) put.put
    ∙ between row [] put.front put.back sound refl
    (ap (has_file row.name) (sym put.others) ∙ gone row.name rows)
    (omega (arith, fewer)) (omega (arith, smaller))
    (ap (first_broken file_breaks []) (sym put.others) ∙ dropped_kept row.name rows none)
