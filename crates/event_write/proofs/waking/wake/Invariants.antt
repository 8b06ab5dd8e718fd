use Rattle.std.proofs.Common.{◌≡◌, ◌||◌, ℕ, List, length, drop}
use Rattle.rtl_bits.specs.declared.Bit.{Bit}
use Rattle.rank_set.specs.Ranks.{flag}
use Rattle.event_write.specs.Changes.{AreChanges}
use Rattle.event_write.specs.Listeners.{heard_by}
use Rattle.event_write.proofs.waking.wake.Given as goal

abbrev pub invariant-loop-listener : goal.invariant-loop-listener
invariant-loop-listener l =
    (length l.woken.flags ≡ length l.initial.woken.flags)
    × (l.woken.levels ≡ l.initial.woken.levels)
    × ((old new : List Bit) → length old ≡ length new → AreChanges old new l.changes → (p : ℕ) → (flag l.woken.flags p || heard_by (drop l.listener-index l.listeners) p old new) ≡ (flag l.initial.woken.flags p || heard_by l.listeners p old new))
