-- How many files have another name, and how many bytes they have, as a loop comes to them.
use Rattle.std.proofs.Common.{◌≡◌, ◌∙◌, ℕ, ◌+◌, ◌-◌, ◌^◌, ◌<◌, nat_lt, Bool, true, false, not, cond, List, [], ◌∷◌, length, take, get_or, refl, sym, ap, arith}
use Rattle.std.specs.Prelude.{min}
use Rattle.std.proofs.lemmas.Bool.Decides.{nat_tests}
use Rattle.std.proofs.lemmas.List.Elements.{filter_more}
use Rattle.std.proofs.lemmas.List.Filters.{length-filter_more}
use Rattle.std.proofs.lemmas.List.Sums.{sum_by-append}
use Rattle.desk_tables.specs.Changes.{has_name, without_file}
use Rattle.desk_tables.specs.Rules.{all_bytes}
use Rattle.desk_tables.specs.declared.rows.FileRow.{FileRow}

-- one more, where it has another name
pub count_more : (name : List ℕ) (files : List FileRow) (place : ℕ) (row : FileRow) → place < length files → row ≡ get_or files place row → length (without_file name (take (place + 1) files)) ≡ length (without_file name (take place files)) + cond (not (has_name name row)) 1 0
count_more name files place row inside read =
    length-filter_more (λ it. not (has_name name it)) files place row inside
    ∙ ap (λ it. length (without_file name (take place files)) + cond (not (has_name name it)) 1 0) (sym read)

bytes_of : (passes : Bool) (row : FileRow) → all_bytes (cond passes (row ∷ []) []) ≡ cond passes (length row.text) 0
bytes_of true row = omega arith
bytes_of false row = refl

-- its bytes more, where it has another name
pub bytes_more : (name : List ℕ) (files : List FileRow) (place : ℕ) (row : FileRow) → place < length files → row ≡ get_or files place row → all_bytes (without_file name (take (place + 1) files)) ≡ all_bytes (without_file name (take place files)) + cond (not (has_name name row)) (length row.text) 0
bytes_more name files place row inside read =
    ap all_bytes (filter_more (λ it. not (has_name name it)) files place row inside)
    ∙ sum_by-append (λ it. length it.text) (without_file name (take place files)) (cond (not (has_name name (get_or files place row))) (get_or files place row ∷ []) [])
    ∙ ap (λ it. all_bytes (without_file name (take place files)) + all_bytes (cond (not (has_name name it)) (it ∷ []) [])) (sym read)
    ∙ ap (λ n. all_bytes (without_file name (take place files)) + n) (bytes_of (not (has_name name row)) row)

-- a sum that stops at the last value passes the limit where the whole sum does
pub over_same : (bytes more : ℕ) → nat_lt 16777216 (min (min bytes (2 ^ 64 - 1) + more) (2 ^ 64 - 1)) ≡ nat_lt 16777216 (bytes + more)
over_same bytes more = grind (arith, nat_tests)
