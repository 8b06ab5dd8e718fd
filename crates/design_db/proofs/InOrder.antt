-- Files stay in order, and none gets too long, when one is put or dropped.
use Rattle.std.proofs.Common.{◌≡◌, ◌≤◌, ◌+◌, ℕ, suc, Bool, true, false, cond, List, [], ◌∷◌, length, take, drop, ap, sym, refl, subst, ◌∙◌, arith}
use Rattle.std.specs.Prelude.{bytes_eq, if◌then◌else◌, insert, nat_lt, not, Option, Some, None, slice_get, slice_set}
use Rattle.std.specs.List.{All, position_or_len}
use Rattle.std.specs.Cmp.Lexicographic.{slice_cmp}
use Rattle.std.specs.Ordering.{is_eq, is_lt, nat_cmp, ordering_reverse}
use Rattle.std.specs.declared.cmp.Ordering.{Ordering}
use Rattle.std.specs.declared.cmp.Ordering.TheVariants.{Less, Equal, Greater}
use Rattle.std.proofs.lemmas.Cmp.{nat_list_cmp_total}
use Rattle.std.proofs.lemmas.List.Elements.{All-append, All-cons, All-drop, All-filter, All-nil, All-push, All-set, All-take, All-weaker}
use Rattle.std.proofs.lemmas.Map.Text.{is_eq-slice_cmp}
use Rattle.std.proofs.lemmas.Slice.Eq.{bytes_eq-Decides}
use Rattle.desk_files.specs.Limits.{MAX_BYTES}
use Rattle.desk_files.specs.Sources.{is_before, is_named, place_of, with_file, with_file_at, with_file_by, without_file}
use Rattle.source_file.specs.declared.SourceFile.{SourceFile}
use Rattle.desk_memo.specs.Orders.{AreInOrder}
use Rattle.source_file.specs.SourceFiles.{AreShort}

-- ---- what holds of each file

all_by : (P : SourceFile → Type 0) (held : Option SourceFile) (place : ℕ) (file : SourceFile) (files : List SourceFile) → P file → All P files → All P (with_file_by held place file files)
all_by P None place file files one all = all
all_by P (Some held) place file files one all =
    elim (is_named file.name held) as (λ b. All P (if b then slice_set files place file else insert files place file)) [
      | true ↦ All-set P files place file one all
      | false ↦ All-append P (take place files) (file ∷ drop place files) (All-take P place files all) (All-cons P file (drop place files) one (All-drop P place files all))
    ]

all_at : (P : SourceFile → Type 0) (place : Option ℕ) (file : SourceFile) (files : List SourceFile) → P file → All P files → All P (with_file_at place file files)
all_at P None file files one all = All-push P files file all one
all_at P (Some place) file files one all = all_by P (slice_get files place) place file files one all

pub all_with : (P : SourceFile → Type 0) (file : SourceFile) (files : List SourceFile) → P file → All P files → All P (with_file file files)
all_with P file files one all = all_at P (place_of file.name files) file files one all

pub short_with : (file : SourceFile) (files : List SourceFile) → length file.text ≤ MAX_BYTES → AreShort files → AreShort (with_file file files)
short_with file files one all = all_with (λ it. length it.text ≤ MAX_BYTES) file files one all

pub short_without : (name : List ℕ) (files : List SourceFile) → AreShort files → AreShort (without_file name files)
short_without name files all =
    All-filter (λ file. not (is_named name file)) (λ it. length it.text ≤ MAX_BYTES) files all

-- ---- a file more, file by file

if_behind : (held : Bool) (place : ℕ) (file first : SourceFile) (files : List SourceFile) → (if held then slice_set (first ∷ files) (suc place) file else insert (first ∷ files) (suc place) file) ≡ first ∷ (if held then slice_set files place file else insert files place file)
if_behind true place file first files = refl
if_behind false place file first files = refl

by_behind : (held : Option SourceFile) (place : ℕ) (file first : SourceFile) (files : List SourceFile) → with_file_by held (suc place) file (first ∷ files) ≡ first ∷ with_file_by held place file files
by_behind None place file first files = refl
by_behind (Some held) place file first files =
    if_behind (is_named file.name held) place file first files

at_behind : (inside : Bool) (place : ℕ) (file first : SourceFile) (files : List SourceFile) → with_file_at (cond inside (Some (suc place)) None) file (first ∷ files) ≡ first ∷ with_file_at (cond inside (Some place) None) file files
at_behind true place file first files = by_behind (slice_get files place) place file first files
at_behind false place file first files = refl

-- the file goes behind those whose names are less
with_behind : (file first : SourceFile) (files : List SourceFile) → is_before file.name first ≡ true → with_file file (first ∷ files) ≡ first ∷ with_file file files
with_behind file first files before =
    let place = position_or_len (λ it. not (is_before file.name it)) files in
    let next : 1 + place ≡ suc place = omega arith in
    let inside : nat_lt (suc place) (suc (length files)) ≡ nat_lt place (length files) = grind arith in
    ap (λ b. with_file_at (cond (nat_lt (cond (not (not b)) (1 + place) 0) (suc (length files))) (Some (cond (not (not b)) (1 + place) 0)) None) file (first ∷ files)) before
    ∙ ap (λ n. with_file_at (cond (nat_lt n (suc (length files))) (Some n) None) file (first ∷ files)) next
    ∙ ap (λ b. with_file_at (cond b (Some (suc place)) None) file (first ∷ files)) inside
    ∙ at_behind (nat_lt place (length files)) place file first files

-- it goes in place of the first other, or before it
with_before : (file first : SourceFile) (files : List SourceFile) → is_before file.name first ≡ false → with_file file (first ∷ files) ≡ (if is_named file.name first then file ∷ files else file ∷ first ∷ files)
with_before file first files behind =
    let place = position_or_len (λ it. not (is_before file.name it)) files in
    let inside : nat_lt 0 (suc (length files)) ≡ true = grind arith in
    ap (λ b. with_file_at (cond (nat_lt (cond (not (not b)) (1 + place) 0) (suc (length files))) (Some (cond (not (not b)) (1 + place) 0)) None) file (first ∷ files)) behind
    ∙ ap (λ b. with_file_at (cond b (Some 0) None) file (first ∷ files)) inside

-- ---- order

greater : (r : Ordering) → is_lt r ≡ false → is_eq r ≡ false → is_lt (ordering_reverse r) ≡ true
greater Less less equal = absurd (cc)
greater Equal less equal = absurd (cc)
greater Greater less equal = refl

is_less : (r : Ordering) → is_lt r ≡ true → r ≡ Less
is_less Less less = refl
is_less Equal less = absurd (cc)
is_less Greater less = absurd (cc)

behind_other : (name other : List ℕ) → is_lt (slice_cmp nat_cmp other name) ≡ false → bytes_eq other name ≡ false → is_lt (slice_cmp nat_cmp name other) ≡ true
behind_other name other less same =
    ap is_lt (nat_list_cmp_total.antisymm name other)
    ∙ greater (slice_cmp nat_cmp other name) less (is_eq-slice_cmp other name ∙ same)

less_than : (a b c : List ℕ) → is_lt (slice_cmp nat_cmp a b) ≡ true → is_lt (slice_cmp nat_cmp b c) ≡ true → is_lt (slice_cmp nat_cmp a c) ≡ true
less_than a b c first second =
    ap is_lt (nat_list_cmp_total.trans a b c (is_less (slice_cmp nat_cmp a b) first) (is_less (slice_cmp nat_cmp b c) second))

-- each of these names is greater
abbrev AreBehind : List ℕ → List SourceFile → Type 0
AreBehind name files = All (λ other. is_lt (slice_cmp nat_cmp name other.name) ≡ true) files

in_order_before : (file first : SourceFile) (files : List SourceFile) (same : Bool) → is_named file.name first ≡ same → is_before file.name first ≡ false → AreInOrder (first ∷ files) → AreInOrder (if same then file ∷ files else file ∷ first ∷ files)
in_order_before file first files true same behind order =
    (subst (λ name. AreBehind name files) ((bytes_eq-Decides first.name file.name).0 same) order.0, order.1)
in_order_before file first files false same behind order =
    let less = behind_other file.name first.name behind same in (
      All-cons (λ other. is_before other.name file ≡ true) first files less
          (All-weaker (λ other. is_before other.name first ≡ true) (λ other. is_before other.name file ≡ true) (λ other further. less_than file.name first.name other.name less further) files order.0),
      order,
    )

in_order_by : (file first : SourceFile) (files : List SourceFile) (before : Bool) → is_before file.name first ≡ before → AreInOrder (first ∷ files) → AreInOrder (with_file file files) → AreInOrder (with_file file (first ∷ files))
in_order_by file first files true before order rest =
    subst AreInOrder (sym (with_behind file first files before))
    (all_with (λ other. is_before other.name first ≡ true) file files before order.0, rest)
in_order_by file first files false before order rest =
    subst AreInOrder (sym (with_before file first files before))
    (in_order_before file first files (is_named file.name first) refl before order)

pub in_order_with : (file : SourceFile) (files : List SourceFile) → AreInOrder files → AreInOrder (with_file file files)
in_order_with file [] order = (All-nil (λ other. is_before other.name file ≡ true), tt)
in_order_with file (first ∷ files) order =
    in_order_by file first files (is_before file.name first) refl order (in_order_with file files order.1)

pub in_order_without : (name : List ℕ) (files : List SourceFile) → AreInOrder files → AreInOrder (without_file name files)
in_order_without name [] order = tt
in_order_without name (first ∷ files) order =
    let rest = in_order_without name files order.1 in
    elim (not (is_named name first)) as (λ b. AreInOrder (cond b (first ∷ without_file name files) (without_file name files))) [
      | true ↦ (All-filter (λ file. not (is_named name file)) (λ other. is_before other.name first ≡ true) files order.0, rest)
      | false ↦ rest
    ]
