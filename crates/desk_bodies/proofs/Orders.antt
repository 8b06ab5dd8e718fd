-- Where a file is put among others.
use Rattle.std.proofs.Common.{◌≡◌, ◌≤◌, ℕ, suc, ◌+◌, Bool, true, false, cond, List, [], ◌∷◌, None, Some, Bor, length, nat_lt, refl, ap, arith}
use Rattle.std.specs.List.{insert, position, position_or_len}
use Rattle.std.proofs.lemmas.Bool.{ltb-false}
use Rattle.std.specs.Prelude.{map, not, if◌then◌else◌}
use Rattle.desk_tables.specs.declared.rows.FileRow.{FileRow}
use Rattle.desk_bodies.specs.Orders.{is_before, placed}

abbrev pub seen : List (Bor FileRow) → List FileRow
seen found = map (λ other. other.now) found

-- the other's name isn't less than the row's
abbrev pub stops : Bor FileRow → Bor FileRow → Bool
stops row other = not (is_before other.now row.now)

placed_by : (b : Bool) (row first : Bor FileRow) (others : List (Bor FileRow)) (n : ℕ)
    → seen (insert others n row) ≡ placed row.now (seen others)
    → seen (insert (first ∷ others) (cond (not (not b)) (1 + n) 0) row) ≡ (if b then first.now ∷ placed row.now (seen others) else row.now ∷ first.now ∷ seen others)
placed_by true row first others n is =
    let one : 1 + n ≡ suc n = omega arith in rw one (ap (λ rows. first.now ∷ rows) is)
placed_by false row first others n is = refl

-- before the first whose name isn't less
pub placed_at : (row : Bor FileRow) (found : List (Bor FileRow))
    → seen (insert found (position_or_len (stops row) found) row) ≡ placed row.now (seen found)
placed_at row [] = refl
placed_at row (first ∷ others) =
    placed_by (is_before first.now row.now) row first others (position_or_len (stops row) others) (placed_at row others)

within_by : (b : Bool) (n most : ℕ) → n ≤ most → cond b (1 + n) 0 ≤ suc most
within_by true n most fits = omega (arith, fits)
within_by false n most fits = omega arith

-- it is no further than how many they are
pub within : (row : Bor FileRow) (found : List (Bor FileRow)) → position_or_len (stops row) found ≤ length found
within row [] = omega arith
within row (first ∷ others) =
    within_by (not (stops row first)) (position_or_len (stops row) others) (length others) (within row others)

some_by : (b : Bool) (n at : ℕ) → cond b (Some n) None ≡ Some at → at ≡ n
some_by true n at is = cc
some_by false n at is = absurd (cc)

-- where there is such a place, it is that
pub some_place : (row : Bor FileRow) (found : List (Bor FileRow)) (at : ℕ) → position (stops row) found ≡ Some at → at ≡ position_or_len (stops row) found
some_place row found at is =
    some_by (nat_lt (position_or_len (stops row) found) (length found)) (position_or_len (stops row) found) at is

none_by : (n most : ℕ) (b : Bool) → nat_lt n most ≡ b → cond b (Some n) None ≡ None → n ≤ most → most ≡ n
none_by n most true less is fits = absurd (cc)
none_by n most false less is fits =
    let past : most ≤ n = ltb-false n most less in omega (arith, past, fits)

-- where there is none, it is behind all
pub none_place : (row : Bor FileRow) (found : List (Bor FileRow)) → position (stops row) found ≡ None → length found ≡ position_or_len (stops row) found
none_place row found is =
    none_by (position_or_len (stops row) found) (length found) (nat_lt (position_or_len (stops row) found) (length found)) refl is (within row found)
