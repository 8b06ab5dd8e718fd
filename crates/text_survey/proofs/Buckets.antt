-- Tables that are parted by the first byte of their rows: a text is looked up in its bucket as in the whole.
use Rattle.std.specs.Prelude.{ℕ, zero, suc, ◌+◌, ◌<◌, Bool, true, false, List, [], ◌∷◌, if◌then◌else◌, nat_eq, Some}
use Rattle.std.specs.List.{slice_get}
use Rattle.std.specs.Cmp.Lexicographic.{bytes_decides}
use Rattle.std.specs.Str.{bytes_eq}
use Rattle.std.proofs.Common.{◌≡◌, refl, sym, ap, ◌∙◌, arith}
use Rattle.std.proofs.lemmas.Bool.{cases_Bool, cond-true, cond-false, eq-eqb}
use Rattle.rtl_tree.specs.declared.symbol.Symbol.{Symbol}
use Rattle.rtl_tree.specs.Symbols.{lookup}
use Rattle.text_survey.specs.Terminals.{bucket, lookup_at, lookup_in}
use mathlib.Core.Logic.{⊎_elim}

-- the rows of a table that are in a bucket
abbrev rows_of : ℕ → List (List ℕ × Symbol) → List (List ℕ × Symbol)
rows_of number [] = []
rows_of number (row ∷ rows) = if nat_eq (bucket row.0) number then row ∷ rows_of number rows else rows_of number rows

-- so many buckets from one on
abbrev pub buckets_from : List (List ℕ × Symbol) → ℕ → ℕ → List (List (List ℕ × Symbol))
buckets_from rows first zero = []
buckets_from rows first (suc count) = rows_of first rows ∷ buckets_from rows (first + 1) count

bucket_at : (rows : List (List ℕ × Symbol)) (first count number : ℕ) → number < count
    → slice_get (buckets_from rows first count) number ≡ Some (rows_of (first + number) rows)
bucket_at rows first zero number h = absurd (omega arith)
bucket_at rows first (suc count) zero h = ap (λ n. Some (rows_of n rows)) (omega arith)
bucket_at rows first (suc count) (suc number) h =
    bucket_at rows (first + 1) count number (omega arith) ∙ ap (λ n. Some (rows_of n rows)) (omega arith)

within : (text : List ℕ) → bucket text < 32
within [] = omega arith
within (b ∷ bs) = omega arith

kept : (row : List ℕ × Symbol) (rows : List (List ℕ × Symbol)) (number : ℕ) → bucket row.0 ≡ number → rows_of number (row ∷ rows) ≡ row ∷ rows_of number rows
kept row rows number e = cond-true (nat_eq (bucket row.0) number) (row ∷ rows_of number rows) (rows_of number rows) (eq-eqb (bucket row.0) number e)

here : (row : List ℕ × Symbol) (rows : List (List ℕ × Symbol)) (other : Symbol) (text : List ℕ) → bytes_eq row.0 text ≡ true
    → lookup (rows_of (bucket text) (row ∷ rows)) other text ≡ lookup (row ∷ rows) other text
here row rows other text same =
    ap (λ rs. lookup rs other text) (kept row rows (bucket text) (ap bucket ((bytes_decides row.0 text).0 same)))
    ∙ cond-true (bytes_eq row.0 text) row.1 (lookup (rows_of (bucket text) rows) other text) same
    ∙ sym (cond-true (bytes_eq row.0 text) row.1 (lookup rows other text) same)

-- a row that isn't the text's, whether it is in the bucket or not
passed : (row : List ℕ × Symbol) (rows : List (List ℕ × Symbol)) (other : Symbol) (text : List ℕ) (b : Bool) → bytes_eq row.0 text ≡ false
    → lookup (if b then row ∷ rows else rows) other text ≡ lookup rows other text
passed row rows other text true apart = cond-false (bytes_eq row.0 text) row.1 (lookup rows other text) apart
passed row rows other text false apart = refl

there : (row : List ℕ × Symbol) (rows : List (List ℕ × Symbol)) (other : Symbol) (text : List ℕ) → bytes_eq row.0 text ≡ false
    → lookup (rows_of (bucket text) rows) other text ≡ lookup rows other text
    → lookup (rows_of (bucket text) (row ∷ rows)) other text ≡ lookup (row ∷ rows) other text
there row rows other text apart same =
    passed row (rows_of (bucket text) rows) other text (nat_eq (bucket row.0) (bucket text)) apart
    ∙ same
    ∙ sym (cond-false (bytes_eq row.0 text) row.1 (lookup rows other text) apart)

same_lookup : (rows : List (List ℕ × Symbol)) (other : Symbol) (text : List ℕ) → lookup (rows_of (bucket text) rows) other text ≡ lookup rows other text
same_lookup [] other text = refl
same_lookup (row ∷ rows) other text =
    ⊎_elim
    (λ same. here row rows other text same)
    (λ apart. there row rows other text apart (same_lookup rows other text))
    (cases_Bool (bytes_eq row.0 text))

-- a table in buckets is the table
pub found : (rows : List (List ℕ × Symbol)) (other : Symbol) (text : List ℕ) → lookup_in (buckets_from rows 0 32) other text ≡ lookup rows other text
found rows other text =
    ap (λ o. lookup_at o other text) (bucket_at rows 0 32 (bucket text) (within text))
    ∙ ap (λ n. lookup (rows_of n rows) other text) (omega arith)
    ∙ same_lookup rows other text
