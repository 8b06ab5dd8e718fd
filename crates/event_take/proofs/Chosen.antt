-- The event that comes first by levels.
use Rattle.std.proofs.Common.{◌≡◌, ◌∙◌, ◌++◌, ℕ, Bool, List, [], ◌∷◌, length, map, Option, None, Some, ap}
use Rattle.rank_set.specs.Ranks.{IsEmpty, IsLeast}
use Rattle.agenda.specs.Agendas.{IsLowest, level_at}
use Rattle.event_model.specs.Queue.{State, Event, Input, Update, Delayed}
use Rattle.rtl_flat.specs.Flats.{Flat}
use Rattle.event_model.specs.Order.{first_delayed, updates, woken, woken_event}
use Rattle.event_model.specs.Policies.{by_level, first_of, lowest, lowest_event}
use Rattle.event_take.specs.Lawful.{IsFlagged, IsLawful}
use Rattle.event_take.proofs.Lowest.{lowest_is}
use Rattle.event_take.proofs.Orders.{input_test, least, no_input, no_update, none_woken, update_test}

pub level_input : (level : ℕ → Option ℕ) (d : Flat) (s : State) (o p w : List Bool) (r : ℕ) → IsLawful d s → IsFlagged d s o p w → IsLeast o r → first_of (by_level level d s) ≡ Some (Input r)
level_input level d s o p w r lawful flagged is =
    let (rest, e) = least _ (length d.signals) o r flagged.signals (input_test d s o p w lawful flagged) is in
    ap (λ (xs : List ℕ). first_of (map Input xs ++ map Update (updates d s) ++ first_delayed s.activated ++ lowest_event d (lowest level (woken d s)))) e

pub level_update : (level : ℕ → Option ℕ) (d : Flat) (s : State) (o p w : List Bool) (r : ℕ) → IsLawful d s → IsFlagged d s o p w → IsEmpty o → IsLeast p r → first_of (by_level level d s) ≡ Some (Update r)
level_update level d s o p w r lawful flagged none is =
    let (rest, e) = least _ (length d.tasks) p r flagged.drivers (update_test d s o p w lawful flagged) is in
    ap (λ (xs : List ℕ). first_of (map Input xs ++ map Update (updates d s) ++ first_delayed s.activated ++ lowest_event d (lowest level (woken d s)))) (no_input d s o p w lawful flagged none)
    ∙ ap (λ (xs : List ℕ). first_of (map Update xs ++ first_delayed s.activated ++ lowest_event d (lowest level (woken d s)))) e

-- what is left where nothing is to be updated
pub no_level_update : (level : ℕ → Option ℕ) (d : Flat) (s : State) (o p w : List Bool) → IsLawful d s → IsFlagged d s o p w → IsEmpty o → IsEmpty p → by_level level d s ≡ first_delayed s.activated ++ lowest_event d (lowest level (woken d s))
no_level_update level d s o p w lawful flagged none quiet =
    ap (λ (xs : List ℕ). map Input xs ++ map Update (updates d s) ++ first_delayed s.activated ++ lowest_event d (lowest level (woken d s))) (no_input d s o p w lawful flagged none)
    ∙ ap (λ (xs : List ℕ). map Update xs ++ first_delayed s.activated ++ lowest_event d (lowest level (woken d s))) (no_update d s o p w lawful flagged quiet)

pub level_delayed : (level : ℕ → Option ℕ) (d : Flat) (s : State) (o p w : List Bool) → IsLawful d s → IsFlagged d s o p w → IsEmpty o → IsEmpty p → first_delayed s.activated ≡ Delayed ∷ [] → first_of (by_level level d s) ≡ Some Delayed
level_delayed level d s o p w lawful flagged none quiet late =
    ap first_of (no_level_update level d s o p w lawful flagged none quiet)
    ∙ ap (λ (xs : List Event). first_of (xs ++ lowest_event d (lowest level (woken d s)))) late

pub level_woken : (levels : List (Option ℕ)) (d : Flat) (s : State) (o p w : List Bool) (r : ℕ) → IsLawful d s → IsFlagged d s o p w → IsEmpty o → IsEmpty p → first_delayed s.activated ≡ [] → IsLowest levels w r → first_of (by_level (level_at levels) d s) ≡ Some (woken_event d r)
level_woken levels d s o p w r lawful flagged none quiet early is =
    ap first_of (no_level_update (level_at levels) d s o p w lawful flagged none quiet)
    ∙ ap (λ (xs : List Event). first_of (xs ++ lowest_event d (lowest (level_at levels) (woken d s)))) early
    ∙ ap (λ (q : Option ℕ). first_of (lowest_event d q)) (lowest_is levels w s.woken (length d.tasks) r flagged.processes flagged.woken_are is)

pub level_none : (level : ℕ → Option ℕ) (d : Flat) (s : State) (o p w : List Bool) → IsLawful d s → IsFlagged d s o p w → IsEmpty o → IsEmpty p → first_delayed s.activated ≡ [] → IsEmpty w → first_of (by_level level d s) ≡ None
level_none level d s o p w lawful flagged none quiet early asleep =
    ap first_of (no_level_update level d s o p w lawful flagged none quiet)
    ∙ ap (λ (xs : List Event). first_of (xs ++ lowest_event d (lowest level (woken d s)))) early
    ∙ ap (λ (ps : List ℕ). first_of (lowest_event d (lowest level ps))) (none_woken d s o p w flagged asleep)
