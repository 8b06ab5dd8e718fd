use Rattle.std.proofs.Common.{◌≡◌, ◌||◌, ℕ, length, drop}
use Rattle.rank_set.specs.Ranks.{flag}
use Rattle.event_write.specs.Listeners.{is_among}
use Rattle.event_write.proofs.waking.insert_all.Given as goal

abbrev pub invariant-loop-process : goal.invariant-loop-process
invariant-loop-process l =
    (length l.woken.flags ≡ length l.initial.woken.flags)
    × (l.woken.levels ≡ l.initial.woken.levels)
    × ((p : ℕ) → (flag l.woken.flags p || is_among (drop l.process-index l.processes) p) ≡ (flag l.initial.woken.flags p || is_among l.processes p))
