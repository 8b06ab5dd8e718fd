use Rattle.std.proofs.Common.{◌≡◌, ◌∙◌, ◌<◌, ◌≤◌, List, [], ◌∷◌, length, None, Some, refl, ap, arith, slice_index_or}
use Rattle.rtl_scan.specs.declared.bits.Row.{Row}
use Rattle.check_found.specs.Gathered.{first_signal}
use Rattle.check_found.proofs.sets.first_signal.Goals as goal

of_none : (rows : List Row) → length rows < 1 → None ≡ first_signal rows
of_none [] none = refl
of_none (row ∷ rows) none = absurd (omega (arith, none))

of_first : (rows : List Row) (d : Row) → 1 ≤ length rows → Some (slice_index_or rows 0 d).signal ≡ first_signal rows
of_first [] d some = absurd (omega (arith, some))
of_first (row ∷ rows) d some = refl

pub returns-in-empty : goal.returns-in-empty
returns-in-empty c =
    of_none c.as_slice.result.now c.in-empty.len_below ∙ ap first_signal c.as_slice.ensures.value

pub returns-in-len1-up : goal.returns-in-len1-up
returns-in-len1-up c =
    of_first c.as_slice.result.now _ c.in-len1-up.len_at_least ∙ ap first_signal c.as_slice.ensures.value
