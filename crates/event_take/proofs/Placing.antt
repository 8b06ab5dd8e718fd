-- The active events by their place.
use Rattle.std.proofs.Common.{◌≡◌, ◌+◌, ◌∙◌, ◌++◌, ℕ, zero, suc, Bool, true, false, cond, List, [], ◌∷◌, length, map, take, Option, None, Some, refl, sym, ap, arith}
use Rattle.std.specs.List.{filter, range_with_len, slice_get}
use Rattle.std.proofs.lemmas.Bool.{true≢false}
use Rattle.std.proofs.lemmas.List.{length-append, length-map}
use Rattle.std.proofs.lemmas.List.Sums.{sum_by-cons}
use Rattle.rank_set.specs.Ranks.{flag, members, IsNth}
use Rattle.event_model.specs.Queue.{State, Event, Input, Update, Delayed}
use Rattle.rtl_flat.specs.Flats.{Flat}
use Rattle.event_model.specs.Order.{active, first_delayed, inputs, numbers, updates, woken, woken_event}
use Rattle.event_take.specs.Lawful.{IsFlagged, IsLawful}
use Rattle.event_take.proofs.Orders.{input_test, update_test}

-- ---- numbers that are flagged

members_first : (b : Bool) (flags : List Bool) → members (b ∷ flags) ≡ cond b 1 0 + members flags
members_first b flags = sum_by-cons (λ (x : Bool). cond x 1 0) b flags

-- flags for the numbers from a on
abbrev Agrees : (ℕ → Bool) → ℕ → List Bool → Type 0
Agrees test a flags = (k : ℕ) → test (a + k) ≡ flag flags k

here : (test : ℕ → Bool) (a : ℕ) (b : Bool) (flags : List Bool) → Agrees test a (b ∷ flags) → test a ≡ b
here test a b flags agrees = ap test (omega arith) ∙ agrees 0

behind : (test : ℕ → Bool) (a : ℕ) (b : Bool) (flags : List Bool) → Agrees test a (b ∷ flags) → Agrees test (a + 1) flags
behind test a b flags agrees k = ap test (omega arith) ∙ agrees (suc k)

count_in : (test : ℕ → Bool) (flags : List Bool) (a : ℕ) → Agrees test a flags → length (filter test (range_with_len a (length flags))) ≡ members flags
count_in test [] a agrees = refl
count_in test (b ∷ flags) a agrees =
    ap (λ x. length (cond x (a ∷ filter test (range_with_len (a + 1) (length flags))) (filter test (range_with_len (a + 1) (length flags))))) (here test a b flags agrees)
    ∙ by_flag b (count_in test flags (a + 1) (behind test a b flags agrees))
    ∙ sym (members_first b flags)
  where
    by_flag : (x : Bool) → length (filter test (range_with_len (a + 1) (length flags))) ≡ members flags → length (cond x (a ∷ filter test (range_with_len (a + 1) (length flags))) (filter test (range_with_len (a + 1) (length flags)))) ≡ cond x 1 0 + members flags
    by_flag true h = omega (arith, h)
    by_flag false h = omega (arith, h)

nth_in : (test : ℕ → Bool) (flags : List Bool) (a n r : ℕ) → Agrees test a flags → flag flags r ≡ true → members (take r flags) ≡ n → slice_get (filter test (range_with_len a (length flags))) n ≡ Some (a + r)
nth_in test [] a n r agrees there before = absurd (true≢false (sym there))
nth_in test (b ∷ flags) a n zero agrees there before =
    ap (slice_get (filter test (range_with_len a (suc (length flags))))) (sym before)
    ∙ ap (λ x. slice_get (cond x (a ∷ filter test (range_with_len (a + 1) (length flags))) (filter test (range_with_len (a + 1) (length flags)))) 0) (here test a b flags agrees ∙ there)
    ∙ ap Some (omega arith)
nth_in test (b ∷ flags) a n (suc r) agrees there before =
    ap (λ x. slice_get (cond x (a ∷ filter test (range_with_len (a + 1) (length flags))) (filter test (range_with_len (a + 1) (length flags)))) n) (here test a b flags agrees)
    ∙ by_flag b (sym (members_first b (take r flags)) ∙ before) (nth_in test flags (a + 1) (members (take r flags)) r (behind test a b flags agrees) there refl)
    ∙ ap Some (omega arith)
  where
    by_flag : (x : Bool) → cond x 1 0 + members (take r flags) ≡ n → slice_get (filter test (range_with_len (a + 1) (length flags))) (members (take r flags)) ≡ Some (a + 1 + r) → slice_get (cond x (a ∷ filter test (range_with_len (a + 1) (length flags))) (filter test (range_with_len (a + 1) (length flags)))) n ≡ Some (a + 1 + r)
    by_flag true count h =
        let one : suc (members (take r flags)) ≡ n = omega (arith, count) in
        ap (slice_get (a ∷ filter test (range_with_len (a + 1) (length flags)))) (sym one) ∙ h
    by_flag false count h =
        let one : members (take r flags) ≡ n = omega (arith, count) in
        ap (slice_get (filter test (range_with_len (a + 1) (length flags)))) (sym one) ∙ h

agrees_from : (test : ℕ → Bool) (flags : List Bool) → ((k : ℕ) → test k ≡ flag flags k) → Agrees test 0 flags
agrees_from test flags are k = ap test (omega arith) ∙ are k

count_numbers : (test : ℕ → Bool) (n : ℕ) (flags : List Bool) → length flags ≡ n → ((k : ℕ) → test k ≡ flag flags k) → length (numbers n test) ≡ members flags
count_numbers test n flags size are =
    ap (λ k. length (filter test (range_with_len 0 k))) (sym size) ∙ count_in test flags 0 (agrees_from test flags are)

nth_number : (test : ℕ → Bool) (n : ℕ) (flags : List Bool) (k r : ℕ) → length flags ≡ n → ((j : ℕ) → test j ≡ flag flags j) → IsNth flags k r → slice_get (numbers n test) k ≡ Some r
nth_number test n flags k r size are is =
    ap (λ j. slice_get (filter test (range_with_len 0 j)) k) (sym size)
    ∙ nth_in test flags 0 k r (agrees_from test flags are) is.member is.before ∙ ap Some (omega arith)

-- ---- lists one after the other

at_front : (xs ys : List Event) (n : ℕ) (x : Event) → slice_get xs n ≡ Some x → slice_get (xs ++ ys) n ≡ Some x
at_front [] ys n x e = absurd (let z : None ≡ Some x = e in cc)
at_front (y ∷ xs) ys zero x e = e
at_front (y ∷ xs) ys (suc n) x e = at_front xs ys n x e

at_back : (xs ys : List Event) (n k : ℕ) (o : Option Event) → n ≡ length xs + k → slice_get ys k ≡ o → slice_get (xs ++ ys) n ≡ o
at_back [] ys n k o is e =
    let same : n ≡ k = omega (arith, is) in ap (slice_get ys) same ∙ e
at_back (y ∷ xs) ys zero k o is e = absurd (omega (arith, is))
at_back (y ∷ xs) ys (suc n) k o is e = at_back xs ys n k o (omega (arith, is)) e

map_at : (f : ℕ → Event) (xs : List ℕ) (n x : ℕ) → slice_get xs n ≡ Some x → slice_get (map f xs) n ≡ Some (f x)
map_at f [] n x e = absurd (let z : None ≡ Some x = e in cc)
map_at f (y ∷ xs) zero x e = ap (λ (o : Option ℕ). first o) e
  where
    first : Option ℕ → Option Event
    first None = None
    first (Some z) = Some (f z)
map_at f (y ∷ xs) (suc n) x e = map_at f xs n x e

-- ---- the active events

count_inputs : (d : Flat) (s : State) (o p w : List Bool) → IsLawful d s → IsFlagged d s o p w → length (map Input (inputs d s)) ≡ members o
count_inputs d s o p w lawful flagged =
    length-map (inputs d s) Input ∙ count_numbers _ (length d.signals) o flagged.signals (input_test d s o p w lawful flagged)

count_updates : (d : Flat) (s : State) (o p w : List Bool) → IsLawful d s → IsFlagged d s o p w → length (map Update (updates d s)) ≡ members p
count_updates d s o p w lawful flagged =
    length-map (updates d s) Update ∙ count_numbers _ (length d.tasks) p flagged.drivers (update_test d s o p w lawful flagged)

count_woken : (d : Flat) (s : State) (o p w : List Bool) → IsFlagged d s o p w → length (map (woken_event d) (woken d s)) ≡ members w
count_woken d s o p w flagged =
    length-map (woken d s) (woken_event d) ∙ count_numbers s.woken (length d.tasks) w flagged.processes flagged.woken_are

count_two : (d : Flat) (s : State) (o p w : List Bool) → IsLawful d s → IsFlagged d s o p w → length (map Input (inputs d s) ++ map Update (updates d s)) ≡ members o + members p
count_two d s o p w lawful flagged =
    let all = length-append (map Input (inputs d s)) (map Update (updates d s)) in
    let one = count_inputs d s o p w lawful flagged in
    let two = count_updates d s o p w lawful flagged in
    omega (arith, all, one, two)

count_three : (d : Flat) (s : State) (o p w : List Bool) → IsLawful d s → IsFlagged d s o p w → length (map Input (inputs d s) ++ map Update (updates d s) ++ map (woken_event d) (woken d s)) ≡ members o + members p + members w
count_three d s o p w lawful flagged =
    let all = length-append (map Input (inputs d s) ++ map Update (updates d s)) (map (woken_event d) (woken d s)) in
    let two = count_two d s o p w lawful flagged in
    let three = count_woken d s o p w flagged in
    omega (arith, all, two, three)

pub count_active : (d : Flat) (s : State) (o p w : List Bool) → IsLawful d s → IsFlagged d s o p w → length (active d s) ≡ members o + members p + members w + length (first_delayed s.activated)
count_active d s o p w lawful flagged =
    let all = length-append (map Input (inputs d s) ++ map Update (updates d s) ++ map (woken_event d) (woken d s)) (first_delayed s.activated) in
    let three = count_three d s o p w lawful flagged in
    omega (arith, all, three)

pub nth_input : (d : Flat) (s : State) (o p w : List Bool) (n r : ℕ) → IsLawful d s → IsFlagged d s o p w → IsNth o n r → slice_get (active d s) n ≡ Some (Input r)
nth_input d s o p w n r lawful flagged is =
    at_front (map Input (inputs d s) ++ map Update (updates d s) ++ map (woken_event d) (woken d s)) (first_delayed s.activated) n (Input r)
    (at_front (map Input (inputs d s) ++ map Update (updates d s)) (map (woken_event d) (woken d s)) n (Input r)
    (at_front (map Input (inputs d s)) (map Update (updates d s)) n (Input r)
    (map_at Input (inputs d s) n r (nth_number _ (length d.signals) o n r flagged.signals (input_test d s o p w lawful flagged) is))))

pub nth_update : (d : Flat) (s : State) (o p w : List Bool) (n k r : ℕ) → IsLawful d s → IsFlagged d s o p w → n ≡ members o + k → IsNth p k r → slice_get (active d s) n ≡ Some (Update r)
nth_update d s o p w n k r lawful flagged place is =
    let one = count_inputs d s o p w lawful flagged in
    at_front (map Input (inputs d s) ++ map Update (updates d s) ++ map (woken_event d) (woken d s)) (first_delayed s.activated) n (Update r)
    (at_front (map Input (inputs d s) ++ map Update (updates d s)) (map (woken_event d) (woken d s)) n (Update r)
    (at_back (map Input (inputs d s)) (map Update (updates d s)) n k (Some (Update r)) (omega (arith, one, place))
    (map_at Update (updates d s) k r (nth_number _ (length d.tasks) p k r flagged.drivers (update_test d s o p w lawful flagged) is))))

pub nth_woken : (d : Flat) (s : State) (o p w : List Bool) (n k r : ℕ) → IsLawful d s → IsFlagged d s o p w → n ≡ members o + members p + k → IsNth w k r → slice_get (active d s) n ≡ Some (woken_event d r)
nth_woken d s o p w n k r lawful flagged place is =
    let two = count_two d s o p w lawful flagged in
    at_front (map Input (inputs d s) ++ map Update (updates d s) ++ map (woken_event d) (woken d s)) (first_delayed s.activated) n (woken_event d r)
    (at_back (map Input (inputs d s) ++ map Update (updates d s)) (map (woken_event d) (woken d s)) n k (Some (woken_event d r)) (omega (arith, two, place))
    (map_at (woken_event d) (woken d s) k r (nth_number s.woken (length d.tasks) w k r flagged.processes flagged.woken_are is)))

pub nth_delayed : (d : Flat) (s : State) (o p w : List Bool) (n : ℕ) → IsLawful d s → IsFlagged d s o p w → n ≡ members o + members p + members w → first_delayed s.activated ≡ Delayed ∷ [] → slice_get (active d s) n ≡ Some Delayed
nth_delayed d s o p w n lawful flagged place late =
    let three = count_three d s o p w lawful flagged in
    at_back (map Input (inputs d s) ++ map Update (updates d s) ++ map (woken_event d) (woken d s)) (first_delayed s.activated) n 0 (Some Delayed) (omega (arith, three, place))
    (ap (λ (xs : List Event). slice_get xs 0) late)
