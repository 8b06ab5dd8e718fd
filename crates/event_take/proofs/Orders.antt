-- The first and the last of the active events, from the least and the greatest flags.
use Rattle.std.proofs.Common.{◌≡◌, ◌∙◌, ◌++◌, ℕ, Bool, true, false, ◌&&◌, List, [], ◌∷◌, length, map, Some, refl, sym, ap, arith}
use Rattle.std.specs.Prelude.{is_some}
use Rattle.rank_set.specs.Ranks.{flag, IsEmpty, IsGreatest, IsLeast}
use Rattle.rank_set.proofs.Law.{member_within}
use Rattle.event_model.specs.Queue.{State, Event, Input, Update, Delayed, doing_at, is_input, is_assignment}
use Rattle.rtl_flat.specs.Flats.{Flat}
use Rattle.event_model.specs.Order.{active, first_delayed, inputs, numbers, updates, woken, woken_event}
use Rattle.event_model.specs.Policies.{first_of, last_of}
use Rattle.event_take.specs.Lawful.{IsFlagged, IsLawful}
use Rattle.event_take.proofs.Numbers.{first_number, last_at_end, last_number, no_numbers}

-- ---- numbers that are flagged

pub least : (test : ℕ → Bool) (n : ℕ) (flags : List Bool) (r : ℕ) → length flags ≡ n → ((k : ℕ) → test k ≡ flag flags k) → IsLeast flags r → (rest : List ℕ) × (numbers n test ≡ r ∷ rest)
least test n flags r size are is =
    let within = member_within flags r is.member in
    first_number test n r (omega (arith, within, size)) (are r ∙ is.member) (λ k below. are k ∙ is.below k below)

pub greatest : (test : ℕ → Bool) (n : ℕ) (flags : List Bool) (r : ℕ) → length flags ≡ n → ((k : ℕ) → test k ≡ flag flags k) → IsGreatest flags r → (front : List ℕ) × (numbers n test ≡ front ++ r ∷ [])
greatest test n flags r size are is =
    let within = member_within flags r is.member in
    last_number test n r (omega (arith, within, size)) (are r ∙ is.member) (λ k above. are k ∙ is.above k above)

-- ---- what a state has active

both : (a b : Bool) → (a ≡ false → b ≡ false) → (a && b) ≡ b
both true b h = refl
both false b h = sym (h refl)

pub input_test : (d : Flat) (s : State) (o p w : List Bool) → IsLawful d s → IsFlagged d s o p w → (k : ℕ) → (is_input d k && is_some (s.offered k)) ≡ flag o k
input_test d s o p w lawful flagged k =
    both (is_input d k) (is_some (s.offered k)) (λ no. ap is_some (lawful.inputs k no)) ∙ flagged.offered_are k

pub update_test : (d : Flat) (s : State) (o p w : List Bool) → IsLawful d s → IsFlagged d s o p w → (k : ℕ) → (is_assignment (doing_at d k) && is_some (s.pending k)) ≡ flag p k
update_test d s o p w lawful flagged k =
    both (is_assignment (doing_at d k)) (is_some (s.pending k)) (λ no. ap is_some (lawful.assignments k no)) ∙ flagged.pending_are k

pub no_input : (d : Flat) (s : State) (o p w : List Bool) → IsLawful d s → IsFlagged d s o p w → IsEmpty o → inputs d s ≡ []
no_input d s o p w lawful flagged none =
    no_numbers _ (length d.signals) (λ k. input_test d s o p w lawful flagged k ∙ none k)

pub no_update : (d : Flat) (s : State) (o p w : List Bool) → IsLawful d s → IsFlagged d s o p w → IsEmpty p → updates d s ≡ []
no_update d s o p w lawful flagged none =
    no_numbers _ (length d.tasks) (λ k. update_test d s o p w lawful flagged k ∙ none k)

pub none_woken : (d : Flat) (s : State) (o p w : List Bool) → IsFlagged d s o p w → IsEmpty w → woken d s ≡ []
none_woken d s o p w flagged none =
    no_numbers s.woken (length d.tasks) (λ k. flagged.woken_are k ∙ none k)

-- ---- the first

pub first_input : (d : Flat) (s : State) (o p w : List Bool) (r : ℕ) → IsLawful d s → IsFlagged d s o p w → IsLeast o r → first_of (active d s) ≡ Some (Input r)
first_input d s o p w r lawful flagged is =
    let (rest, e) = least _ (length d.signals) o r flagged.signals (input_test d s o p w lawful flagged) is in
    ap (λ xs. first_of (map Input xs ++ map Update (updates d s) ++ map (woken_event d) (woken d s) ++ first_delayed s.activated)) e

pub first_update : (d : Flat) (s : State) (o p w : List Bool) (r : ℕ) → IsLawful d s → IsFlagged d s o p w → IsEmpty o → IsLeast p r → first_of (active d s) ≡ Some (Update r)
first_update d s o p w r lawful flagged none is =
    let (rest, e) = least _ (length d.tasks) p r flagged.drivers (update_test d s o p w lawful flagged) is in
    ap (λ xs. first_of (map Input xs ++ map Update (updates d s) ++ map (woken_event d) (woken d s) ++ first_delayed s.activated)) (no_input d s o p w lawful flagged none)
    ∙ ap (λ xs. first_of (map Update xs ++ map (woken_event d) (woken d s) ++ first_delayed s.activated)) e

pub first_woken : (d : Flat) (s : State) (o p w : List Bool) (r : ℕ) → IsLawful d s → IsFlagged d s o p w → IsEmpty o → IsEmpty p → IsLeast w r → first_of (active d s) ≡ Some (woken_event d r)
first_woken d s o p w r lawful flagged none quiet is =
    let (rest, e) = least s.woken (length d.tasks) w r flagged.processes flagged.woken_are is in
    ap (λ xs. first_of (map Input xs ++ map Update (updates d s) ++ map (woken_event d) (woken d s) ++ first_delayed s.activated)) (no_input d s o p w lawful flagged none)
    ∙ ap (λ xs. first_of (map Update xs ++ map (woken_event d) (woken d s) ++ first_delayed s.activated)) (no_update d s o p w lawful flagged quiet)
    ∙ ap (λ xs. first_of (map (woken_event d) xs ++ first_delayed s.activated)) e

pub only_late : (d : Flat) (s : State) (o p w : List Bool) → IsLawful d s → IsFlagged d s o p w → IsEmpty o → IsEmpty p → IsEmpty w → active d s ≡ first_delayed s.activated
only_late d s o p w lawful flagged none quiet asleep =
    ap (λ xs. map Input xs ++ map Update (updates d s) ++ map (woken_event d) (woken d s) ++ first_delayed s.activated) (no_input d s o p w lawful flagged none)
    ∙ ap (λ xs. map Update xs ++ map (woken_event d) (woken d s) ++ first_delayed s.activated) (no_update d s o p w lawful flagged quiet)
    ∙ ap (λ xs. map (woken_event d) xs ++ first_delayed s.activated) (none_woken d s o p w flagged asleep)

-- ---- the last

-- whether a list ends with x
abbrev pub Ends : Event → List Event → Type 0
Ends x xs = (front : List Event) × (xs ≡ front ++ x ∷ [])

append_assoc : (xs ys zs : List Event) → xs ++ (ys ++ zs) ≡ (xs ++ ys) ++ zs
append_assoc [] ys zs = refl
append_assoc (x ∷ xs) ys zs = ap (λ all. x ∷ all) (append_assoc xs ys zs)

append_none : (xs : List Event) → xs ++ [] ≡ xs
append_none [] = refl
append_none (x ∷ xs) = ap (λ all. x ∷ all) (append_none xs)

behind : (x : Event) (xs ys : List Event) → Ends x ys → Ends x (xs ++ ys)
behind x xs ys (front, e) =
    (xs ++ front, ap (λ all. xs ++ all) e ∙ append_assoc xs front (x ∷ []))

with_none : (x : Event) (xs ys : List Event) → ys ≡ [] → Ends x xs → Ends x (xs ++ ys)
with_none x xs ys none (front, e) = (front, ap (λ all. xs ++ all) none ∙ append_none xs ∙ e)

last_is : (x : Event) (xs : List Event) → Ends x xs → last_of xs ≡ Some x
last_is x xs (front, e) = ap last_of e ∙ last_at_end front x

map_ends : (f : ℕ → Event) (front : List ℕ) (r : ℕ) → map f (front ++ r ∷ []) ≡ map f front ++ f r ∷ []
map_ends f [] r = refl
map_ends f (x ∷ front) r = ap (λ all. f x ∷ all) (map_ends f front r)

map_none : (f : ℕ → Event) (xs : List ℕ) → xs ≡ [] → map f xs ≡ []
map_none f xs e = ap (map f) e

pub last_delayed : (d : Flat) (s : State) → first_delayed s.activated ≡ Delayed ∷ [] → last_of (active d s) ≡ Some Delayed
last_delayed d s late =
    last_is Delayed (active d s) (behind Delayed (map Input (inputs d s) ++ map Update (updates d s) ++ map (woken_event d) (woken d s)) (first_delayed s.activated) ([], late))

pub last_woken : (d : Flat) (s : State) (o p w : List Bool) (r : ℕ) → IsFlagged d s o p w → first_delayed s.activated ≡ [] → IsGreatest w r → last_of (active d s) ≡ Some (woken_event d r)
last_woken d s o p w r flagged early is =
    let x = woken_event d r in
    let (front, e) = greatest s.woken (length d.tasks) w r flagged.processes flagged.woken_are is in
    last_is x (active d s)
    (with_none x (map Input (inputs d s) ++ map Update (updates d s) ++ map (woken_event d) (woken d s)) (first_delayed s.activated) early
    (behind x (map Input (inputs d s) ++ map Update (updates d s)) (map (woken_event d) (woken d s))
    (map (woken_event d) front, ap (map (woken_event d)) e ∙ map_ends (woken_event d) front r)))

pub last_update : (d : Flat) (s : State) (o p w : List Bool) (r : ℕ) → IsLawful d s → IsFlagged d s o p w → first_delayed s.activated ≡ [] → IsEmpty w → IsGreatest p r → last_of (active d s) ≡ Some (Update r)
last_update d s o p w r lawful flagged early asleep is =
    let (front, e) = greatest _ (length d.tasks) p r flagged.drivers (update_test d s o p w lawful flagged) is in
    last_is (Update r) (active d s)
    (with_none (Update r) (map Input (inputs d s) ++ map Update (updates d s) ++ map (woken_event d) (woken d s)) (first_delayed s.activated) early
    (with_none (Update r) (map Input (inputs d s) ++ map Update (updates d s)) (map (woken_event d) (woken d s)) (map_none (woken_event d) (woken d s) (none_woken d s o p w flagged asleep))
    (behind (Update r) (map Input (inputs d s)) (map Update (updates d s))
    (map Update front, ap (map Update) e ∙ map_ends Update front r))))

pub last_input : (d : Flat) (s : State) (o p w : List Bool) (r : ℕ) → IsLawful d s → IsFlagged d s o p w → first_delayed s.activated ≡ [] → IsEmpty w → IsEmpty p → IsGreatest o r → last_of (active d s) ≡ Some (Input r)
last_input d s o p w r lawful flagged early asleep quiet is =
    let (front, e) = greatest _ (length d.signals) o r flagged.signals (input_test d s o p w lawful flagged) is in
    last_is (Input r) (active d s)
    (with_none (Input r) (map Input (inputs d s) ++ map Update (updates d s) ++ map (woken_event d) (woken d s)) (first_delayed s.activated) early
    (with_none (Input r) (map Input (inputs d s) ++ map Update (updates d s)) (map (woken_event d) (woken d s)) (map_none (woken_event d) (woken d s) (none_woken d s o p w flagged asleep))
    (with_none (Input r) (map Input (inputs d s)) (map Update (updates d s)) (map_none Update (updates d s) (no_update d s o p w lawful flagged quiet))
    (map Input front, ap (map Input) e ∙ map_ends Input front r))))
