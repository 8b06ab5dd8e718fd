use Rattle.std.proofs.Common.{◌≡◌, ℕ, false, get_or, map}
use Rattle.std.specs.Prelude.{◌<◌}
use Rattle.desk_memo.specs.Shown.{ruling_of}
use Rattle.desk_memo.specs.declared.kept.Kept.{Kept}
use Rattle.desk_memo.proofs.memo.doubt_all.Given as goal

-- the rulings are the same, and none so far is known to hold
abbrev pub invariant-loop-place : goal.invariant-loop-place
invariant-loop-place g l =
    record {
      same : map ruling_of l.rulings ≡ map ruling_of l.fn.rulings;
      doubted : (k : ℕ) (d : Kept g.row.V.Denot) → k < l.place → (get_or l.rulings k d).is_checked ≡ false;
    }
