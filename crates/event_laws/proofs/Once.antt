-- The laws of runs, as they are stated.
use Rattle.std.proofs.Common.{◌∙◌, ℕ, Option, sym}
use Rattle.rtl_flat.specs.Flats.{Flat}
use Rattle.event_laws.specs.Once.{AgreeBelow, EndOnce, HaveOneLevel, StopNowhereElse}
use Rattle.event_laws.proofs.OneLevel.{level_once, same_choice}
use Rattle.event_laws.proofs.OneRun.{moved, one_rest, rests_or_stops}

pub one_level : (d : Flat) → HaveOneLevel d
one_level d p one other first second = level_once d.signals d.tasks p one other first second

back : (d : Flat) (f g : ℕ → Option ℕ) → AgreeBelow d f g → AgreeBelow d g f
back d f g all p below = sym (all p below)

pub one_end : (d : Flat) → EndOnce d
one_end d policy f g all s t u a b one done other rest =
    one_rest policy f d s t u a b one done
    (moved policy g f d (back d f g all) s u b other) (same_choice f g policy d u all ∙ rest)

pub end_or_stop : (d : Flat) → StopNowhereElse d
end_or_stop d policy f g all s t u a b left over whole one done every other dear =
    rests_or_stops policy f d s t u a b left over whole one done every
    (moved policy g f d (back d f g all) s u b other)
    (record { event = dear.event; next = same_choice f g policy d u all ∙ dear.next; dear = dear.dear })
