-- One more row of an answer.
use Rattle.std.proofs.Common.{List, [], ◌∷◌, ◌++◌}
use Rattle.sqlite_value.specs.declared.value.Value.{Value}
use Rattle.sqlite_value.specs.Order.{Row}
use Rattle.desk_sqlite.specs.Columns.{Holds, HoldAll}

-- rows that are those of an answer stay so with one more of each
pub hold_more : {R : Type 0} → (columns : R → List Value) (rows : List Row) (its : List R) (row : Row) (it : R) → HoldAll columns rows its → Holds row (columns it) → HoldAll columns (rows ++ row ∷ []) (its ++ it ∷ [])
hold_more columns [] [] row it all here = (here, tt)
hold_more columns [] (i ∷ is) row it all here = absurd all
hold_more columns (r ∷ rs) [] row it all here = absurd all
hold_more columns (r ∷ rs) (i ∷ is) row it all here = (all.0, hold_more columns rs is row it all.1 here)
