-- The files of the rows of the tables, after a file is put or dropped.
use Rattle.std.proofs.Common.{◌≡◌, ◌∙◌, ℕ, ◌≤◌, Bool, true, false, not, cond, List, [], ◌∷◌, length, suc, Option, Some, None, Ordering, Less, Equal, Greater, refl, sym, ap, subst, inl, inr}
use Rattle.std.specs.Prelude.{bytes_eq, filter, find, insert, slice_get, slice_set}
use Rattle.std.specs.Cmp.Lexicographic.{slice_cmp}
use Rattle.std.specs.List.{All}
use Rattle.std.specs.Option.{option_map}
use Rattle.std.specs.Ordering.{is_eq, is_lt, nat_cmp, ordering_reverse}
use Rattle.std.proofs.lemmas.Bool.{cases_Bool, false_from_ne_true, both_ways}
use Rattle.std.proofs.lemmas.Cmp.{nat_list_cmp_total}
use Rattle.std.proofs.lemmas.List.Elements.{All-cons, All-filter, All-head, All-nil, All-tail, All-weaker}
use Rattle.std.proofs.lemmas.Map.Text.{is_eq-slice_cmp}
use Rattle.std.proofs.lemmas.Slice.Eq.{bytes_eq-Decides}
use Rattle.desk_files.specs.Limits.{MAX_BYTES}
use Rattle.desk_tables.specs.Changes as tables
use Rattle.desk_tables.specs.Changes.{has_name}
use Rattle.desk_tables.specs.declared.rows.FileRow.{FileRow}
use Rattle.desk_files.specs.Sources.{is_before, is_named, place_of, with_file, with_file_at, with_file_by, without_file}
use Rattle.source_file.specs.declared.SourceFile.{SourceFile}
use Rattle.design_db.specs.desk_memo.Orders.{AreInOrder}
use Rattle.desk_tables.specs.Changes.{changed}
use Rattle.desk_tables.specs.Tables.{Kept}
use Rattle.desk_tables.specs.declared.change.Change.{Change}
use Rattle.desk_tables.specs.declared.change.Change.TheVariants.{PutFile, DropFile, Grant, Revoke, SignOff}
use Rattle.desk_sound.proofs.Placed.{position_here, position_past, row_put_here, row_put_past}
use Rattle.desk_core.specs.Steps.{IsShortChange}
use Rattle.desk_core.specs.Files.{AreFilesOf, files_changed, source_of}

-- ---- a file that is put

module _ (file held : SourceFile) (files : List SourceFile) where
  put_or_insert_past : (named : Bool) (place : ℕ) → cond named (slice_set (held ∷ files) (suc place) file) (insert (held ∷ files) (suc place) file) ≡ held ∷ cond named (slice_set files place file) (insert files place file)
  put_or_insert_past true place = refl
  put_or_insert_past false place = refl

  put_by_past : (found : Option SourceFile) (place : ℕ) → with_file_by found (suc place) file (held ∷ files) ≡ held ∷ with_file_by found place file files
  put_by_past None place = refl
  put_by_past (Some other) place = put_or_insert_past (is_named file.name other) place

  put_at_past : (place : Option ℕ) → with_file_at (option_map (λ n. suc n) place) file (held ∷ files) ≡ held ∷ with_file_at place file files
  put_at_past None = refl
  put_at_past (Some place) = put_by_past (slice_get files place) place

  pub put_past : is_before file.name held ≡ true → with_file file (held ∷ files) ≡ held ∷ with_file file files
  put_past before =
      ap (λ place. with_file_at place file (held ∷ files)) (position_past (λ other. not (is_before file.name other)) held files (ap not before))
      ∙ put_at_past (place_of file.name files)

  pub put_here : is_before file.name held ≡ false → with_file file (held ∷ files) ≡ cond (is_named file.name held) (file ∷ files) (file ∷ held ∷ files)
  put_here behind =
      ap (λ place. with_file_at place file (held ∷ files)) (position_here (λ other. not (is_before file.name other)) held files (ap not behind))

-- ---- the order of names

same_bytes : (xs ys : List ℕ) → bytes_eq xs ys ≡ true → xs ≡ ys
same_bytes xs ys = (bytes_eq-Decides xs ys).0

less_from : (o : Ordering) → is_lt o ≡ true → o ≡ Less
less_from Less is = refl
less_from Equal is = cc
less_from Greater is = cc

greater_from : (o : Ordering) → is_lt o ≡ false → is_eq o ≡ false → o ≡ Greater
greater_from Less less equal = cc
greater_from Equal less equal = cc
greater_from Greater less equal = refl

bytes_eq-turned : (xs ys : List ℕ) → bytes_eq xs ys ≡ false → bytes_eq ys xs ≡ false
bytes_eq-turned xs ys apart = false_from_ne_true _ (λ same. both_ways (bytes_eq xs ys) apart ((bytes_eq-Decides xs ys).1 (sym (same_bytes ys xs same))))

abbrev comes_before : List ℕ → List ℕ → Bool
comes_before xs ys = is_lt (slice_cmp nat_cmp xs ys)

before_before : (xs ys zs : List ℕ) → comes_before xs ys ≡ true → comes_before ys zs ≡ true → comes_before xs zs ≡ true
before_before xs ys zs first second =
    ap is_lt (nat_list_cmp_total.trans xs ys zs (less_from _ first) (less_from _ second))

before_or_same : (xs ys : List ℕ) → comes_before xs ys ≡ false → bytes_eq xs ys ≡ false → comes_before ys xs ≡ true
before_or_same xs ys behind other =
    ap is_lt
    (nat_list_cmp_total.antisymm ys xs
    ∙ ap ordering_reverse (greater_from _ behind (is_eq-slice_cmp xs ys ∙ other)))

not_before_itself : (xs ys : List ℕ) → comes_before xs ys ≡ true → bytes_eq xs ys ≡ false
not_before_itself xs ys before =
    sym (is_eq-slice_cmp xs ys) ∙ ap is_eq (less_from _ before)

-- ---- which file is found by a name

cond_twice : {A : Type 0} (b : Bool) (x y z : A) → cond b x z ≡ cond b x (cond b y z)
cond_twice true x y z = refl
cond_twice false x y z = refl

cond_turned : {A : Type 0} (a b : Bool) (x y z : A) → (a ≡ true → b ≡ false) → cond a x (cond b y z) ≡ cond b y (cond a x z)
cond_turned true true x y z apart = absurd (both_ways true (apart refl) refl)
cond_turned true false x y z apart = refl
cond_turned false true x y z apart = refl
cond_turned false false x y z apart = refl

-- ---- a name is found in the files

module _ (name : List ℕ) (file held : SourceFile) (files : List SourceFile) where
  named_once : is_before file.name held ≡ true → is_named name held ≡ true → is_named name file ≡ false
  named_once before named =
      subst (λ it. bytes_eq file.name it ≡ false) (same_bytes held.name name named)
      (bytes_eq-turned held.name file.name (not_before_itself held.name file.name before))

  found_put_here : (named : Bool) → is_named file.name held ≡ named → find (is_named name) (cond named (file ∷ files) (file ∷ held ∷ files)) ≡ cond (is_named name file) (Some file) (find (is_named name) (held ∷ files))
  found_put_here false other = refl
  found_put_here true same =
      cond_twice (is_named name file) (Some file) (Some held) (find (is_named name) files)
      ∙ ap (λ it. cond (is_named name file) (Some file) (cond (bytes_eq it name) (Some held) (find (is_named name) files))) (sym (same_bytes held.name file.name same))

-- the file is found by its name, and the others by theirs as before
pub found_put : (name : List ℕ) (file : SourceFile) (files : List SourceFile) → find (is_named name) (with_file file files) ≡ cond (is_named name file) (Some file) (find (is_named name) files)
found_put name file [] = refl
found_put name file (held ∷ files) =
    elim (cases_Bool (is_before file.name held)) [
      | inl before ↦
          ap (find (is_named name)) (put_past file held files before)
          ∙ ap (cond (is_named name held) (Some held)) (found_put name file files)
          ∙ cond_turned (is_named name held) (is_named name file) (Some held) (Some file) (find (is_named name) files) (named_once name file held files before)
      | inr behind ↦
          ap (find (is_named name)) (put_here file held files behind)
          ∙ found_put_here name file held files (is_named file.name held) refl
    ]

-- ---- a name is found in the rows

pub found_row_put : (name : List ℕ) (row : FileRow) (rows : List FileRow) → find (has_name name) (tables.with_file row rows) ≡ cond (has_name name row) (Some row) (find (has_name name) rows)
found_row_put name row [] = refl
found_row_put name row (held ∷ rows) =
    elim (cases_Bool (has_name row.name held)) [
      | inl same ↦
          ap (find (has_name name)) (row_put_here row held rows same)
          ∙ cond_twice (has_name name row) (Some row) (Some held) (find (has_name name) rows)
          ∙ ap (λ it. cond (has_name name row) (Some row) (cond (bytes_eq it name) (Some held) (find (has_name name) rows))) (sym (same_bytes held.name row.name same))
      | inr other ↦
          ap (find (has_name name)) (row_put_past row held rows other)
          ∙ ap (cond (has_name name held) (Some held)) (found_row_put name row rows)
          ∙ cond_turned (has_name name held) (has_name name row) (Some held) (Some row) (find (has_name name) rows)
          (λ named. subst (λ it. bytes_eq row.name it ≡ false) (same_bytes held.name name named) (bytes_eq-turned held.name row.name other))
    ]

-- ---- a name is found where another went

kept_or_gone : {X : Type 0} (gone passes drops : Bool) (x : X) (found rest : Option X) → (passes ≡ true → drops ≡ gone) → found ≡ cond gone None rest → cond (not drops) (cond passes (Some x) found) found ≡ cond gone None (cond passes (Some x) rest)
kept_or_gone true true true x found rest says is = is
kept_or_gone true true false x found rest says is = absurd (both_ways true (sym (says refl)) refl)
kept_or_gone true false true x found rest says is = is
kept_or_gone true false false x found rest says is = is
kept_or_gone false true true x found rest says is = absurd (both_ways true (says refl) refl)
kept_or_gone false true false x found rest says is = refl
kept_or_gone false false true x found rest says is = is
kept_or_gone false false false x found rest says is = is

find_in_cond : {X : Type 0} (p : X → Bool) (keeps : Bool) (x : X) (kept : List X) → find p (cond keeps (x ∷ kept) kept) ≡ cond keeps (cond (p x) (Some x) (find p kept)) (find p kept)
find_in_cond p true x kept = refl
find_in_cond p false x kept = refl

pub found_kept : {X : Type 0} (p drops : X → Bool) (gone : Bool) → ((x : X) → p x ≡ true → drops x ≡ gone) → (xs : List X) → find p (filter (λ x. not (drops x)) xs) ≡ cond gone None (find p xs)
found_kept p drops true says [] = refl
found_kept p drops false says [] = refl
found_kept p drops gone says (x ∷ xs) =
    find_in_cond p (not (drops x)) x (filter (λ x. not (drops x)) xs)
    ∙ kept_or_gone gone (p x) (drops x) x (find p (filter (λ x. not (drops x)) xs)) (find p xs) (says x) (found_kept p drops gone says xs)

-- ---- each file, and the order

all_put_here : (P : SourceFile → Type 0) (file held : SourceFile) (files : List SourceFile) (named : Bool) → P file → All P (held ∷ files) → All P (cond named (file ∷ files) (file ∷ held ∷ files))
all_put_here P file held files true it each = All-cons P file files it (All-tail P held files each)
all_put_here P file held files false it each = All-cons P file (held ∷ files) it each

-- what holds of each file and of the one that is put
pub all_put : (P : SourceFile → Type 0) (file : SourceFile) (files : List SourceFile) → P file → All P files → All P (with_file file files)
all_put P file [] it each = All-cons P file [] it each
all_put P file (held ∷ files) it each =
    elim (cases_Bool (is_before file.name held)) [
      | inl before ↦
          subst (All P) (sym (put_past file held files before))
          (All-cons P held (with_file file files) (All-head P held files each) (all_put P file files it (All-tail P held files each)))
      | inr behind ↦
          subst (All P) (sym (put_here file held files behind))
          (all_put_here P file held files (is_named file.name held) it each)
    ]

in_order_here : (file held : SourceFile) (files : List SourceFile) (named : Bool) → is_before file.name held ≡ false → is_named file.name held ≡ named → AreInOrder (held ∷ files) → AreInOrder (cond named (file ∷ files) (file ∷ held ∷ files))
in_order_here file held files true behind same ordered = (
  subst (λ it. All (λ other. comes_before it other.name ≡ true) files) (same_bytes held.name file.name same) ordered.0,
  ordered.1,
)
in_order_here file held files false behind other ordered =
    let before : comes_before file.name held.name ≡ true = before_or_same held.name file.name behind other in (
      All-cons (λ it. is_before it.name file ≡ true) held files before
          (All-weaker (λ it. is_before it.name held ≡ true) (λ it. is_before it.name file ≡ true) (λ it. before_before file.name held.name it.name before) files ordered.0),
      ordered,
    )

pub in_order_put : (file : SourceFile) (files : List SourceFile) → AreInOrder files → AreInOrder (with_file file files)
in_order_put file [] ordered = (All-nil (λ it. is_before it.name file ≡ true), tt)
in_order_put file (held ∷ files) ordered =
    elim (cases_Bool (is_before file.name held)) [
      | inl before ↦
          subst AreInOrder (sym (put_past file held files before))
          (all_put (λ it. is_before it.name held ≡ true) file files before ordered.0, in_order_put file files ordered.1)
      | inr behind ↦
          subst AreInOrder (sym (put_here file held files behind))
          (in_order_here file held files (is_named file.name held) behind refl ordered)
    ]

in_order_kept : (keeps : Bool) (file : SourceFile) (files : List SourceFile) → All (λ it. is_before it.name file ≡ true) files → AreInOrder files → AreInOrder (cond keeps (file ∷ files) files)
in_order_kept true file files above ordered = (above, ordered)
in_order_kept false file files above ordered = ordered

pub in_order_dropped : (name : List ℕ) (files : List SourceFile) → AreInOrder files → AreInOrder (without_file name files)
in_order_dropped name [] ordered = tt
in_order_dropped name (file ∷ files) ordered =
    in_order_kept (not (is_named name file)) file (without_file name files)
    (All-filter (λ it. not (is_named name it)) (λ it. is_before it.name file ≡ true) files ordered.0)
    (in_order_dropped name files ordered.1)

-- ---- the files of the rows

mapped_cond : (b : Bool) (x : Option FileRow) (y : Option FileRow) → cond b (option_map source_of x) (option_map source_of y) ≡ option_map source_of (cond b x y)
mapped_cond true x y = refl
mapped_cond false x y = refl

pub files_put : (row : FileRow) (rows : List FileRow) (files : List SourceFile) → length row.text ≤ MAX_BYTES → AreFilesOf rows files → AreFilesOf (tables.with_file row rows) (with_file (source_of row) files)
files_put row rows files small are = record {
  in_order = in_order_put (source_of row) files are.in_order;
  short = all_put (λ file. length file.text ≤ MAX_BYTES) (source_of row) files small are.short;
  same = λ name.
      found_put name (source_of row) files
      ∙ ap (cond (has_name name row) (Some (source_of row))) (are.same name)
      ∙ mapped_cond (has_name name row) (Some row) (find (has_name name) rows)
      ∙ sym (ap (option_map source_of) (found_row_put name row rows));
}

pub files_dropped : (name : List ℕ) (rows : List FileRow) (files : List SourceFile) → AreFilesOf rows files → AreFilesOf (tables.without_file name rows) (without_file name files)
files_dropped name rows files are = record {
  in_order = in_order_dropped name files are.in_order;
  short = All-filter (λ file. not (is_named name file)) (λ file. length file.text ≤ MAX_BYTES) files are.short;
  same = λ other.
      found_kept (is_named other) (is_named name) (bytes_eq other name) (λ file named. ap (λ it. bytes_eq it name) (same_bytes file.name other named)) files
      ∙ ap (cond (bytes_eq other name) None) (are.same other)
      ∙ mapped_cond (bytes_eq other name) None (find (has_name other) rows)
      ∙ sym (ap (option_map source_of) (found_kept (has_name other) (has_name name) (bytes_eq other name) (λ row named. ap (λ it. bytes_eq it name) (same_bytes row.name other named)) rows));
}

pub files_after : (change : Change) (kept : Kept) (files : List SourceFile) → IsShortChange change → AreFilesOf kept.files files → AreFilesOf (changed change kept).files (files_changed change files)
files_after (PutFile row reply) kept files small are = files_put row kept.files files small are
files_after (DropFile name reply) kept files small are = files_dropped name kept.files files are
files_after (Grant row reply) kept files small are = are
files_after (Revoke id day reply) kept files small are = are
files_after (SignOff row reply) kept files small are = are

-- so it is after the change was made
pub files_made : (change : Change) (kept kept' : Kept) (files files' : List SourceFile) → IsShortChange change → AreFilesOf kept.files files → kept' ≡ changed change kept → files' ≡ files_changed change files → AreFilesOf kept'.files files'
files_made change kept kept' files files' short are moved made =
    let P : Kept → Type 0 = λ it. AreFilesOf it.files files' in
    let Q : List SourceFile → Type 0 = λ it. AreFilesOf (changed change kept).files it in
    subst P (sym moved) (subst Q (sym made) (files_after change kept files short are))
