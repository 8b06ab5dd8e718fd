-- It serves inner contracts and proofs; no answer of the program is stated by it.
-- The findings of one process as a list.
use Rattle.std.specs.Prelude.{ℕ, Bool, if◌then◌else◌, List, [], ◌∷◌}
use Rattle.std.specs.Option.{is_some}
use Rattle.rtl_flat.specs.Expression.{Tree}
use Rattle.rtl_flat.specs.Flats.{Flat}
use Rattle.rtl_flat.specs.Process.{Piece, Task, Watched}
use Rattle.rtl_rule.specs.declared.finding.Finding.{Finding}
use Rattle.rtl_rule.specs.Parts.{within}
use Rattle.check_readings.specs.Readings.{is_computed, is_list_index, list_index_at, target_index_at, whole_select_at, whole_signal}

-- the finding of an element that passes a test
abbrev pub told : {A : Type 0} → (A → Bool) → (A → Finding) → A → List Finding
told test at one = if test one then at one ∷ [] else []

abbrev pub target_told : ℕ → Task → Piece → List Finding
target_told p task =
    told (λ piece. is_computed piece.selection) (λ piece. target_index_at (within (p, task) piece))

abbrev pub item_told : ℕ → Task → Watched → List Finding
item_told p task = told is_list_index (λ item. list_index_at (within (p, task) item))

abbrev pub whole_told : Flat → ℕ → Task → Tree → List Finding
whole_told d p task =
    told (λ e. is_some (whole_signal d e)) (λ e. whole_select_at d (within (p, task) e))
