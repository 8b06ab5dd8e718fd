-- The active events of what is kept.
use Rattle.std.proofs.Common.{◌≡◌, ◌<◌, ◌≤◌, ◌+◌, ◌∙◌, ℕ, Bool, true, false, cond, List, [], ◌∷◌, length, map, None, Some, refl, sym, ap, inl, inr, arith}
use Rattle.std.specs.List.{slice_get}
use Rattle.std.proofs.lemmas.Bool.{cases_lt}
use Rattle.std.proofs.lemmas.List.{length-map}
use Rattle.rank_set.specs.Ranks.{members, IsEmpty, IsGreatest, IsLeast, IsNth}
use Rattle.rank_set.proofs.Law.{members-le-length}
use Rattle.agenda.specs.Agendas.{IsLowest}
use Rattle.event_model.specs.Queue.{Event, Input, Update, Delayed}
use Rattle.rtl_flat.specs.Flats.{Flat}
use Rattle.event_model.specs.Order.{active, first_delayed, woken_event}
use Rattle.event_model.specs.Policies.{by_level, first_of, last_of}
use Rattle.event_model.specs.Writes.{Write}
use Rattle.event_write.specs.declared.queue_state.QueueState.{QueueState}
use Rattle.event_write.specs.Entries.{entry}
use Rattle.event_write.specs.QueueState.{IsQueueState, state}
use Rattle.event_take.specs.Lawful.{IsLawful}
use Rattle.event_take.specs.Taken.{level_in}
use Rattle.event_take.proofs.Chosen.{level_delayed, level_input, level_none, level_update, level_woken}
use Rattle.event_take.proofs.Flags.{flagged, none_left, some_left}
use Rattle.event_take.proofs.Orders.{first_input, first_update, first_woken, last_delayed, last_input, last_update, last_woken, only_late}
use Rattle.event_take.proofs.Placing.{count_active, nth_delayed, nth_input, nth_update, nth_woken}

-- ---- the first

pub input_is_first : (d : Flat) (m : QueueState) (r : ℕ) → IsQueueState d m → IsLawful d (state m) → IsLeast m.offered r → Some (Input r) ≡ first_of (active d (state m))
input_is_first d m r is lawful least =
    sym (first_input d (state m) m.offered m.pending m.woken.flags r lawful (flagged d m is) least)

pub update_is_first : (d : Flat) (m : QueueState) (r : ℕ) → IsQueueState d m → IsLawful d (state m) → IsEmpty m.offered → IsLeast m.pending r → Some (Update r) ≡ first_of (active d (state m))
update_is_first d m r is lawful none least =
    sym (first_update d (state m) m.offered m.pending m.woken.flags r lawful (flagged d m is) none least)

pub woken_is_first : (d : Flat) (m : QueueState) (r : ℕ) → IsQueueState d m → IsLawful d (state m) → IsEmpty m.offered → IsEmpty m.pending → IsLeast m.woken.flags r → Some (woken_event d r) ≡ first_of (active d (state m))
woken_is_first d m r is lawful none quiet least =
    sym (first_woken d (state m) m.offered m.pending m.woken.flags r lawful (flagged d m is) none quiet least)

-- where nothing else is left, an update is first or nothing is
pub late_is_first : (d : Flat) (m : QueueState) (b : Bool) → IsQueueState d m → IsLawful d (state m) → IsEmpty m.offered → IsEmpty m.pending → IsEmpty m.woken.flags → first_delayed (state m).activated ≡ cond b (Delayed ∷ []) [] → first_of (cond b (Delayed ∷ []) []) ≡ first_of (active d (state m))
late_is_first d m b is lawful none quiet asleep late =
    sym (ap first_of (only_late d (state m) m.offered m.pending m.woken.flags lawful (flagged d m is) none quiet asleep ∙ late))

-- ---- the last

pub late_is_last : (d : Flat) (m : QueueState) → first_delayed (state m).activated ≡ Delayed ∷ [] → Some Delayed ≡ last_of (active d (state m))
late_is_last d m late = sym (last_delayed d (state m) late)

pub woken_is_last : (d : Flat) (m : QueueState) (r : ℕ) → IsQueueState d m → first_delayed (state m).activated ≡ [] → IsGreatest m.woken.flags r → Some (woken_event d r) ≡ last_of (active d (state m))
woken_is_last d m r is early greatest =
    sym (last_woken d (state m) m.offered m.pending m.woken.flags r (flagged d m is) early greatest)

pub update_is_last : (d : Flat) (m : QueueState) (r : ℕ) → IsQueueState d m → IsLawful d (state m) → first_delayed (state m).activated ≡ [] → IsEmpty m.woken.flags → IsGreatest m.pending r → Some (Update r) ≡ last_of (active d (state m))
update_is_last d m r is lawful early asleep greatest =
    sym (last_update d (state m) m.offered m.pending m.woken.flags r lawful (flagged d m is) early asleep greatest)

pub input_is_last : (d : Flat) (m : QueueState) (r : ℕ) → IsQueueState d m → IsLawful d (state m) → first_delayed (state m).activated ≡ [] → IsEmpty m.woken.flags → IsEmpty m.pending → IsGreatest m.offered r → Some (Input r) ≡ last_of (active d (state m))
input_is_last d m r is lawful early asleep quiet greatest =
    sym (last_input d (state m) m.offered m.pending m.woken.flags r lawful (flagged d m is) early asleep quiet greatest)

pub none_is_last : (d : Flat) (m : QueueState) → IsQueueState d m → IsLawful d (state m) → first_delayed (state m).activated ≡ [] → IsEmpty m.woken.flags → IsEmpty m.pending → IsEmpty m.offered → None ≡ last_of (active d (state m))
none_is_last d m is lawful early asleep quiet none =
    sym (ap last_of (only_late d (state m) m.offered m.pending m.woken.flags lawful (flagged d m is) none quiet asleep ∙ early))

-- ---- the lowest

pub input_is_lowest : (d : Flat) (m : QueueState) (r : ℕ) → IsQueueState d m → IsLawful d (state m) → IsLeast m.offered r → Some (Input r) ≡ first_of (by_level (level_in m) d (state m))
input_is_lowest d m r is lawful least =
    sym (level_input (level_in m) d (state m) m.offered m.pending m.woken.flags r lawful (flagged d m is) least)

pub update_is_lowest : (d : Flat) (m : QueueState) (r : ℕ) → IsQueueState d m → IsLawful d (state m) → IsEmpty m.offered → IsLeast m.pending r → Some (Update r) ≡ first_of (by_level (level_in m) d (state m))
update_is_lowest d m r is lawful none least =
    sym (level_update (level_in m) d (state m) m.offered m.pending m.woken.flags r lawful (flagged d m is) none least)

pub late_is_lowest : (d : Flat) (m : QueueState) → IsQueueState d m → IsLawful d (state m) → IsEmpty m.offered → IsEmpty m.pending → first_delayed (state m).activated ≡ Delayed ∷ [] → Some Delayed ≡ first_of (by_level (level_in m) d (state m))
late_is_lowest d m is lawful none quiet late =
    sym (level_delayed (level_in m) d (state m) m.offered m.pending m.woken.flags lawful (flagged d m is) none quiet late)

pub woken_is_lowest : (d : Flat) (m : QueueState) (r : ℕ) → IsQueueState d m → IsLawful d (state m) → IsEmpty m.offered → IsEmpty m.pending → first_delayed (state m).activated ≡ [] → IsLowest m.woken.levels m.woken.flags r → Some (woken_event d r) ≡ first_of (by_level (level_in m) d (state m))
woken_is_lowest d m r is lawful none quiet early lowest =
    sym (level_woken m.woken.levels d (state m) m.offered m.pending m.woken.flags r lawful (flagged d m is) none quiet early lowest)

pub none_is_lowest : (d : Flat) (m : QueueState) → IsQueueState d m → IsLawful d (state m) → IsEmpty m.offered → IsEmpty m.pending → first_delayed (state m).activated ≡ [] → IsEmpty m.woken.flags → None ≡ first_of (by_level (level_in m) d (state m))
none_is_lowest d m is lawful none quiet early asleep =
    sym (level_none (level_in m) d (state m) m.offered m.pending m.woken.flags lawful (flagged d m is) none quiet early asleep)

-- ---- places

pub how_many : (d : Flat) (m : QueueState) (b : Bool) → IsQueueState d m → IsLawful d (state m) → first_delayed (state m).activated ≡ cond b (Delayed ∷ []) [] → length (active d (state m)) ≡ members m.offered + members m.pending + members m.woken.flags + cond b 1 0
how_many d m b is lawful late =
    let all = count_active d (state m) m.offered m.pending m.woken.flags lawful (flagged d m is) in
    let one : length (first_delayed (state m).activated) ≡ cond b 1 0 = ap (λ (es : List Event). length es) late ∙ one_or_none b in
    omega (arith, all, one)
  where
    one_or_none : (x : Bool) → length {A = Event} (cond x (Delayed ∷ []) []) ≡ cond x 1 0
    one_or_none true = refl
    one_or_none false = refl

pub input_at : (d : Flat) (m : QueueState) (n r : ℕ) → IsQueueState d m → IsLawful d (state m) → IsNth m.offered n r → slice_get (active d (state m)) n ≡ Some (Input r)
input_at d m n r is lawful nth =
    nth_input d (state m) m.offered m.pending m.woken.flags n r lawful (flagged d m is) nth

pub update_at : (d : Flat) (m : QueueState) (n k r : ℕ) → IsQueueState d m → IsLawful d (state m) → n ≡ members m.offered + k → IsNth m.pending k r → slice_get (active d (state m)) n ≡ Some (Update r)
update_at d m n k r is lawful place nth =
    nth_update d (state m) m.offered m.pending m.woken.flags n k r lawful (flagged d m is) place nth

pub woken_at : (d : Flat) (m : QueueState) (n k r : ℕ) → IsQueueState d m → IsLawful d (state m) → n ≡ members m.offered + members m.pending + k → IsNth m.woken.flags k r → slice_get (active d (state m)) n ≡ Some (woken_event d r)
woken_at d m n k r is lawful place nth =
    nth_woken d (state m) m.offered m.pending m.woken.flags n k r lawful (flagged d m is) place nth

-- behind all others is an activated update
late_there : (d : Flat) (m : QueueState) (n : ℕ) → IsQueueState d m → IsLawful d (state m) → n < length (active d (state m)) → members m.offered + members m.pending + members m.woken.flags ≤ n → 1 ≤ length (first_delayed (state m).activated)
late_there d m n is lawful within behind =
    let all = count_active d (state m) m.offered m.pending m.woken.flags lawful (flagged d m is) in
    omega (arith, all, within, behind)

one_late : (us : List (List Write)) → length (first_delayed us) ≤ 1
one_late [] = omega arith
one_late (u ∷ us) = omega arith

pub late_next : (d : Flat) (m : QueueState) (n : ℕ) → IsQueueState d m → IsLawful d (state m) → n < length (active d (state m)) → members m.offered + members m.pending + members m.woken.flags ≤ n → m.next < length m.active.items
late_next d m n is lawful within behind =
    elim (cases_lt m.next (length m.active.items)) [
      | inl lt ↦ lt
      | inr past ↦
          (let some = late_there d m n is lawful within behind in
          let count = length-map m.active.items entry in
          let none = ap (λ (es : List Event). length es) (none_left (map entry m.active.items) m.next (omega (arith, past, count))) in
          absurd (omega (arith, some, none)))
    ]

pub late_at : (d : Flat) (m : QueueState) (n : ℕ) → IsQueueState d m → IsLawful d (state m) → n < length (active d (state m)) → members m.offered + members m.pending + members m.woken.flags ≤ n → slice_get (active d (state m)) n ≡ Some Delayed
late_at d m n is lawful within behind =
    let all = count_active d (state m) m.offered m.pending m.woken.flags lawful (flagged d m is) in
    let few = one_late (state m).activated in
    let count = length-map m.active.items entry in
    let next = late_next d m n is lawful within behind in
    nth_delayed d (state m) m.offered m.pending m.woken.flags n lawful (flagged d m is) (omega (arith, all, few, within, behind))
    (some_left (map entry m.active.items) m.next (omega (arith, next, count)))

-- ---- limits

pub few_members : (flags : List Bool) (n : ℕ) → length flags ≡ n → n ≤ 20000 → members flags ≤ 20000
few_members flags n size few =
    let most = members-le-length flags in omega (arith, most, size, few)
