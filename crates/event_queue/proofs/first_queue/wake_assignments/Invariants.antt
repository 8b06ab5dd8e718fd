use Rattle.std.proofs.Common.{◌≡◌, ◌&&◌, ℕ, length}
use Rattle.std.specs.Prelude.{nat_lt}
use Rattle.rank_set.specs.Ranks.{flag}
use Rattle.event_model.specs.Queue.{doing_at, is_assignment}
use Rattle.rtl_flat.specs.Flats.{flat}
use Rattle.event_queue.proofs.first_queue.wake_assignments.Given as goal

abbrev pub invariant-loop-number : goal.invariant-loop-number
invariant-loop-number l =
    (length l.woken.flags ≡ length l.initial.woken.flags)
    × (l.woken.levels ≡ l.initial.woken.levels)
    × ((p : ℕ) → flag l.woken.flags p ≡ (nat_lt p l.number && is_assignment (doing_at (flat l.design) p)))
