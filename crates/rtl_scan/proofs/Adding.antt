-- Rows that are added one after another.
use Rattle.std.specs.Prelude.{◌==◌, ◌&&◌}
use Rattle.std.proofs.lemmas.Bool.{and_right}
use Rattle.rtl_bits.specs.Bits.{is_one_at}
use Rattle.rtl_bits.specs.Digits.{one_at-zero}
use Rattle.rtl_flat.specs.Expression.{Tree}
use Rattle.rtl_flat.specs.Flows.{reads, reads_all}
use Rattle.std.proofs.Common.{ℕ, ◌≡◌, ◌∙◌, false, ◌||◌, List, [], ◌∷◌, ◌++◌, refl, ap, sym}
use Rattle.rtl_flat.specs.Paths.{BitSet, no_bit, either}
use Rattle.rtl_scan.specs.declared.bits.Row.{Row}
use Rattle.rtl_scan.specs.Sets.{has_row, has_rows, Adds}
use Rattle.rtl_scan.proofs.Bools.{or_assoc}
use Rattle.rtl_scan.proofs.Masks.{has_rows_push, or_nothing}

pub adds_none : (rows : List Row) → Adds no_bit rows rows
adds_none rows = record { at = λ s k. or_nothing (has_rows rows s k) }

pub adds_then : {a b : BitSet} {x y z : List Row} → Adds a x y → Adds b y z → Adds (either a b) x z
adds_then {a} {b} {x} {y} {z} first second = record {
  at = λ s k. second.at s k ∙ ap (λ t. t || b s k) (first.at s k) ∙ or_assoc (has_rows x s k) (a s k) (b s k);
}

pub adds_row : (row : Row) (rows : List Row) → Adds (has_row row) rows (rows ++ row ∷ [])
adds_row row rows = record { at = λ s k. has_rows_push rows row s k }

-- a set with the same bits
pub adds_same : {a b : BitSet} {x y : List Row} → Adds a x y → ((s k : ℕ) → a s k ≡ b s k) → Adds b x y
adds_same {a} {b} {x} {y} h is = record { at = λ s k. h.at s k ∙ ap (λ t. has_rows x s k || t) (is s k) }

-- a row without a mask has no bit
pub no_row : (signal mask s k : ℕ) → mask ≡ 0 → ((s == signal) && is_one_at mask k) ≡ false
no_row signal mask s k e =
    and_right (s == signal) (is_one_at mask k) (ap (λ m. is_one_at m k) e ∙ one_at-zero k)

pub no_row_added : (rows : List Row) (row : Row) → row.mask ≡ 0 → (s k : ℕ) → has_rows rows s k ≡ (has_rows rows s k || has_row row s k)
no_row_added rows row e s k =
    or_nothing (has_rows rows s k) ∙ ap (λ t. has_rows rows s k || t) (sym (no_row row.signal.0 row.mask s k e))

pub reads_all_append : (ws : ℕ → ℕ) (xs ys : List Tree) (s k : ℕ) → reads_all ws (xs ++ ys) s k ≡ (reads_all ws xs s k || reads_all ws ys s k)
reads_all_append ws [] ys s k = refl
reads_all_append ws (x ∷ xs) ys s k =
    ap (λ t. reads ws x s k || t) (reads_all_append ws xs ys s k)
    ∙ sym (or_assoc (reads ws x s k) (reads_all ws xs s k) (reads_all ws ys s k))
