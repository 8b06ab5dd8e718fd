-- What can wake a process with a level list.
use Rattle.std.proofs.Common.{◌≡◌, ◌∙◌, ℕ, zero, suc, ◌+◌, ◌<◌, ◌≤◌, ◌==◌, Bool, true, false, not, cond, ◌&&◌, ◌||◌, List, [], ◌∷◌, ◌++◌, length, take, get_or, Some, refl, sym, ap, subst, arith, inl, inr}
use Rattle.std.specs.Prelude.{bit_and, bit_or, bit_xor}
use Rattle.std.specs.BTreeMap.{BTreeMap}
use Rattle.std.specs.List.{enumerate_from, list_any, slice_get}
use Rattle.std.proofs.lemmas.Bool.{and_from, and_parts, cases_Bool, eq-eqb, eqb-true, false≢true, ne_eqb, or_cases, or_left, or_right}
use Rattle.rtl_bits.specs.Bits.{is_one_at}
use Rattle.rtl_bits.specs.Digits.{differ, one_at_and, one_at_or, one_at_xor}
use Rattle.rtl_flat.specs.declared.signal.Signal.{Signal}
use Rattle.rtl_flat.specs.Signs.{width_in}
use Rattle.rtl_flat.specs.PathSets.{listed}
use Rattle.rtl_flat.specs.Paths.{BitSet}
use Rattle.rtl_flat.specs.Process.{Doing, Assign, Comb, Edge', Task}
use Rattle.rtl_rule.specs.declared.finding.Finding.{Finding}
use Rattle.event_model.specs.Queue.{is_input_kind}
use Rattle.rtl_rule.specs.Parts.{has_some, within, written}
use Rattle.rtl_flat.specs.Flats.{Flat, widths}
use Rattle.check_found.specs.rtl_scan.declared.bits.Row.{Row}
use Rattle.check_found.specs.rtl_scan.Sets.{has, has_row, has_rows, mask_of}
use Rattle.check_found.proofs.rtl_scan_proofs.Users.{some_bit_is}
use Rattle.check_found.specs.Gathered.{Gets, task_sites}
use Rattle.check_found.specs.Masks.{has_in, mask_in}
use Rattle.check_found.proofs.Gathering.{gets_nothing, gets_one, take_next}
use Rattle.check_found.proofs.Inside.{listed_inside}
use Rattle.rtl_rule.proofs.Below.{some_at, some_found}
use Rattle.check_sense.specs.declared.waking.Writers.{Writers}
use Rattle.check_sense.specs.Sense.{IsNeverWakes, another_writes, can_wake, never_wakes, never_wakes_at}
use Rattle.check_sense.specs.Telling.{AreWriters, GetsWriter, has_level_list, itself, row_wakes, some_write, top_at, two_write, waking_of}

-- a signal with a bit is there
signal_there : (signals : List Signal) (s k : ℕ) → k < width_in signals s → s < length signals
signal_there [] s k below = absurd (omega (arith, below))
signal_there (x ∷ signals) zero k below = omega arith
signal_there (x ∷ signals) (suc s) k below =
    let there = signal_there signals s k below in omega (arith, there)

-- ---- tests

same_truth : (a b : Bool) → (a ≡ true → b ≡ true) → (b ≡ true → a ≡ true) → a ≡ b
same_truth true b to from = sym (to refl)
same_truth false true to from = from refl
same_truth false false to from = refl

or_false : (a : Bool) → (a || false) ≡ a
or_false true = refl
or_false false = refl

-- ---- processes that write

some_push : (d : Flat) (tasks : List Task) (task : Task) (s k : ℕ) → some_write d (tasks ++ task ∷ []) s k ≡ (some_write d tasks s k || written d task.does s k)
some_push d [] task s k = or_false (written d task.does s k)
some_push d (x ∷ tasks) task s k =
    ap (λ b. written d x.does s k || b) (some_push d tasks task s k)
    ∙ assoc (written d x.does s k) (some_write d tasks s k) (written d task.does s k)
  where
    assoc : (a b c : Bool) → (a || (b || c)) ≡ ((a || b) || c)
    assoc true b c = refl
    assoc false b c = refl

two_push : (d : Flat) (tasks : List Task) (task : Task) (s k : ℕ) → two_write d (tasks ++ task ∷ []) s k ≡ (two_write d tasks s k || (written d task.does s k && some_write d tasks s k))
two_push d [] task s k = by (written d task.does s k)
  where
    by : (w : Bool) → ((w && false) || false) ≡ (false || (w && false))
    by true = refl
    by false = refl
two_push d (x ∷ tasks) task s k =
    ap (λ b. (written d x.does s k && b) || two_write d (tasks ++ task ∷ []) s k) (some_push d tasks task s k)
    ∙ ap (λ b. (written d x.does s k && (some_write d tasks s k || written d task.does s k)) || b) (two_push d tasks task s k)
    ∙ by (written d x.does s k) (some_write d tasks s k) (two_write d tasks s k) (written d task.does s k)
  where
    by : (x some two w : Bool) → ((x && (some || w)) || (two || (w && some))) ≡ (((x && some) || two) || (w && (x || some)))
    by true true two w = refl
    by true false true w = or_true w
      where
        or_true : (w : Bool) → (w || true) ≡ true
        or_true true = refl
        or_true false = refl
    by true false false true = refl
    by true false false false = refl
    by false some two w = refl

pub writers_more : (d : Flat) (n : ℕ) (task : Task) → slice_get d.tasks n ≡ Some task → (bits : BitSet) → ((s k : ℕ) → bits s k ≡ written d task.does s k) → (old new : Writers) → AreWriters d (take n d.tasks) old → GetsWriter bits old new → AreWriters d (take (n + 1) d.tasks) new
writers_more d n task at bits are old new before gets =
    subst (λ (tasks : List Task). AreWriters d tasks new) (sym (take_next d.tasks n task at))
    (record {
      once = λ s k. gets.once s k ∙ ap (λ b. b || bits s k) (before.once s k) ∙ ap (λ b. some_write d (take n d.tasks) s k || b) (are s k)
          ∙ sym (some_push d (take n d.tasks) task s k);
      twice = λ s k. gets.twice s k ∙ ap (λ b. b || (bits s k && has_in old.once s k)) (before.twice s k)
          ∙ ap (λ b. two_write d (take n d.tasks) s k || (b && has_in old.once s k)) (are s k)
          ∙ ap (λ b. two_write d (take n d.tasks) s k || (written d task.does s k && b)) (before.once s k)
          ∙ sym (two_push d (take n d.tasks) task s k);
    })

-- ---- a process other than one

module _ (d : Flat) (p s k : ℕ) where
  abbrev another : ℕ × Task → Bool
  another one = not (one.0 == p) && written d one.1.does s k

  past : (n : ℕ) (tasks : List Task) → p < n → list_any another (enumerate_from n tasks) ≡ some_write d tasks s k
  past n [] after = refl
  past n (task ∷ tasks) after =
      ap (λ b. (not b && written d task.does s k) || list_any another (enumerate_from (n + 1) tasks)) (ne_eqb n p (λ same. absurd (omega (arith, after, same))))
      ∙ ap (λ b. written d task.does s k || b) (past (n + 1) tasks (omega (arith, after)))

  two_some : (tasks : List Task) → two_write d tasks s k ≡ true → some_write d tasks s k ≡ true
  two_some [] h = absurd (false≢true h)
  two_some (task ∷ tasks) h =
      elim (or_cases (written d task.does s k && some_write d tasks s k) (two_write d tasks s k) h) [
        | inl here ↦ or_left (written d task.does s k) (some_write d tasks s k) (and_parts (written d task.does s k) (some_write d tasks s k) here).0
        | inr later ↦ or_right (written d task.does s k) (some_write d tasks s k) (two_some tasks later)
      ]

  one_some : (tasks : List Task) (i : ℕ) (task : Task) → slice_get tasks i ≡ Some task → written d task.does s k ≡ true → some_write d tasks s k ≡ true
  one_some [] i task at h = absurd (cc)
  one_some (x ∷ tasks) zero task at h =
      let same : x ≡ task = cc in
      or_left (written d x.does s k) (some_write d tasks s k) (ap (λ (t : Task). written d t.does s k) same ∙ h)
  one_some (x ∷ tasks) (suc i) task at h =
      or_right (written d x.does s k) (some_write d tasks s k) (one_some tasks i task at h)

  own_here : (w some two : Bool) → (two ≡ true → some ≡ true) → some ≡ (((w && some) || two) || ((w || some) && not w))
  own_here true true two from = refl
  own_here true false true from = from refl
  own_here true false false from = refl
  own_here false true true from = refl
  own_here false true false from = refl
  own_here false false true from = from refl
  own_here false false false from = refl

  own_later : (w own some two : Bool) → (own ≡ true → some ≡ true) → (w || (two || (some && not own))) ≡ (((w && some) || two) || ((w || some) && not own))
  own_later true own true two from = refl
  own_later true true false two from = absurd (false≢true (from refl))
  own_later true false false true from = refl
  own_later true false false false from = refl
  own_later false own some two from = refl

  another_from : (n : ℕ) (tasks : List Task) (i : ℕ) (task : Task) → p ≡ n + i → slice_get tasks i ≡ Some task → list_any another (enumerate_from n tasks) ≡ (two_write d tasks s k || (some_write d tasks s k && not (written d task.does s k)))
  another_from n [] i task place at = absurd (cc)
  another_from n (x ∷ tasks) zero task place at =
      let here : n ≡ p = omega (arith, place) in
      let same : x ≡ task = cc in
      ap (λ b. (not b && written d x.does s k) || list_any another (enumerate_from (n + 1) tasks)) (eq-eqb n p here)
      ∙ past (n + 1) tasks (omega (arith, here))
      ∙ own_here (written d x.does s k) (some_write d tasks s k) (two_write d tasks s k) (two_some tasks)
      ∙ ap (λ (t : Task). ((written d x.does s k && some_write d tasks s k) || two_write d tasks s k) || ((written d x.does s k || some_write d tasks s k) && not (written d t.does s k))) same
  another_from n (x ∷ tasks) (suc i) task place at =
      ap (λ b. (not b && written d x.does s k) || list_any another (enumerate_from (n + 1) tasks)) (ne_eqb n p (λ same. absurd (omega (arith, place, same))))
      ∙ ap (λ b. written d x.does s k || b) (another_from (n + 1) tasks i task (omega (arith, place)) at)
      ∙ own_later (written d x.does s k) (written d task.does s k) (some_write d tasks s k) (two_write d tasks s k) (one_some tasks i task at)

  another_is : (task : Task) → slice_get d.tasks p ≡ Some task → another_writes d p s k ≡ (two_write d d.tasks s k || (some_write d d.tasks s k && not (written d task.does s k)))
  another_is task at = another_from 0 d.tasks p task (omega arith) at

-- ---- signals with a bit that wakes

record Woken (L B : BitSet) (n : ℕ) (signals : List Signal) : Type 0 where
  s : ℕ
  k : ℕ
  i : ℕ
  place : s ≡ n + i
  is : (L s k && (top_at signals i || B s k)) ≡ true

module _ (ws : ℕ → ℕ) (L B : BitSet) where
  abbrev wakes_at : ℕ × Signal → Bool
  wakes_at one = has_some ws (λ s k. L s k && (is_input_kind one.1.kind || B s k)) one.0

  woken : (n : ℕ) (signals : List Signal) → list_any wakes_at (enumerate_from n signals) ≡ true → Woken L B n signals
  woken n [] h = absurd (false≢true h)
  woken n (x ∷ signals) h =
      elim (or_cases (wakes_at (n, x)) (list_any wakes_at (enumerate_from (n + 1) signals)) h) [
        | inl here ↦
            let found = some_found (ws n) (λ k. L n k && (is_input_kind x.kind || B n k)) here in
            record { s = n; k = found.number; i = 0; place = omega arith; is = found.is }
        | inr later ↦
            let rest = woken (n + 1) signals later in
            record { s = rest.s; k = rest.k; i = suc rest.i; place = omega (arith, rest.place); is = rest.is }
      ]

  wakes : (n : ℕ) (signals : List Signal) (s k i : ℕ) → s ≡ n + i → i < length signals → k < ws s → (L s k && (top_at signals i || B s k)) ≡ true → list_any wakes_at (enumerate_from n signals) ≡ true
  wakes n [] s k i place inside below is = absurd (omega (arith, inside))
  wakes n (x ∷ signals) s k zero place inside below is =
      let here : s ≡ n = omega (arith, place) in
      or_left (wakes_at (n, x)) (list_any wakes_at (enumerate_from (n + 1) signals))
      (some_at (ws n) (λ j. L n j && (is_input_kind x.kind || B n j)) k (subst (λ m. k < ws m) here below) (subst (λ m. (L m k && (is_input_kind x.kind || B m k)) ≡ true) here is))
  wakes n (x ∷ signals) s k (suc i) place inside below is =
      or_right (wakes_at (n, x)) (list_any wakes_at (enumerate_from (n + 1) signals))
      (wakes (n + 1) signals s k i (omega (arith, place)) (omega (arith, inside)) below is)

-- ---- rows with a bit that wakes

module _ (d : Flat) (p : ℕ) (task : Task) (at : slice_get d.tasks p ≡ Some task) (writers : Writers) (own : BTreeMap ℕ ℕ) (are : AreWriters d d.tasks writers) (owns : (s k : ℕ) → has own s k ≡ written d task.does s k) where
  abbrev beside : BitSet
  beside s k = top_at d.signals s || another_writes d p s k

  masked_differ : (a b : Bool) → (a && differ a b) ≡ (a && not b)
  masked_differ true b = refl
  masked_differ false b = refl

  another_mask : (s k : ℕ) → is_one_at (bit_or (mask_in writers.twice s) (bit_and (mask_in writers.once s) (bit_xor (mask_in writers.once s) (mask_of own s)))) k ≡ another_writes d p s k
  another_mask s k =
      let once = mask_in writers.once s in
      let twice = mask_in writers.twice s in
      let mine = mask_of own s in
      one_at_or twice (bit_and once (bit_xor once mine)) k
      ∙ ap (λ b. is_one_at twice k || b) (one_at_and once (bit_xor once mine) k ∙ ap (λ b. is_one_at once k && b) (one_at_xor once mine k) ∙ masked_differ (is_one_at once k) (is_one_at mine k))
      ∙ ap (λ b. b || (is_one_at once k && not (is_one_at mine k))) (are.twice s k)
      ∙ ap (λ b. two_write d d.tasks s k || (b && not (is_one_at mine k))) (are.once s k)
      ∙ ap (λ b. two_write d d.tasks s k || (some_write d d.tasks s k && not b)) (owns s k)
      ∙ sym (another_is d p s k task at)

  waking_bit : (row : Row) (k : ℕ) → is_one_at (waking_of d.signals writers own row) k ≡ (is_one_at row.mask k && beside row.signal.0 k)
  waking_bit row k =
      elim (cases_Bool (top_at d.signals row.signal.0)) as (λ _. is_one_at (cond (top_at d.signals row.signal.0) row.mask (bit_and row.mask others)) k ≡ (is_one_at row.mask k && (top_at d.signals row.signal.0 || another_writes d p row.signal.0 k))) [
        | inl top' ↦ rw (top') (and_true (is_one_at row.mask k))
        | inr inner ↦ rw (inner) (one_at_and row.mask others k ∙ ap (λ b. is_one_at row.mask k && b) (another_mask row.signal.0 k))
      ]
    where
      others : ℕ
      others = bit_or (mask_in writers.twice row.signal.0) (bit_and (mask_in writers.once row.signal.0) (bit_xor (mask_in writers.once row.signal.0) (mask_of own row.signal.0)))

      and_true : (a : Bool) → a ≡ (a && true)
      and_true true = refl
      and_true false = refl

  row_found : (rows : List Row) → list_any (row_wakes d.signals writers own) rows ≡ true → (s : ℕ) × (k : ℕ) × ((has_rows rows s k && beside s k) ≡ true)
  row_found [] h = absurd (false≢true h)
  row_found (row ∷ rows) h =
      elim (or_cases (row_wakes d.signals writers own row) (list_any (row_wakes d.signals writers own) rows) h) [
        | inl here ↦
            let (k, one) = (some_bit_is (waking_of d.signals writers own row)).0 here in
            let (masked, wakes') = and_parts (is_one_at row.mask k) (beside row.signal.0 k) (sym (waking_bit row k) ∙ one) in
            (row.signal.0, k, and_from (has_row row row.signal.0 k || has_rows rows row.signal.0 k) (beside row.signal.0 k) (or_left (has_row row row.signal.0 k) (has_rows rows row.signal.0 k) (and_from (row.signal.0 == row.signal.0) (is_one_at row.mask k) (eq-eqb row.signal.0 row.signal.0 refl) masked)) wakes')
        | inr later ↦
            let (s, k, one) = row_found rows later in
            let (has', wakes') = and_parts (has_rows rows s k) (beside s k) one in
            (s, k, and_from (has_row row s k || has_rows rows s k) (beside s k) (or_right (has_row row s k) (has_rows rows s k) has') wakes')
      ]

  row_wakes_there : (rows : List Row) (s k : ℕ) → has_rows rows s k ≡ true → beside s k ≡ true → list_any (row_wakes d.signals writers own) rows ≡ true
  row_wakes_there [] s k has' wakes' = absurd (false≢true has')
  row_wakes_there (row ∷ rows) s k has' wakes' =
      elim (or_cases (has_row row s k) (has_rows rows s k) has') [
        | inl here ↦
            let (same, masked) = and_parts (s == row.signal.0) (is_one_at row.mask k) here in
            let there : beside row.signal.0 k ≡ true = subst (λ n. beside n k ≡ true) (eqb-true s row.signal.0 same) wakes' in
            or_left (row_wakes d.signals writers own row) (list_any (row_wakes d.signals writers own) rows)
            ((some_bit_is (waking_of d.signals writers own row)).1 (k, waking_bit row k ∙ and_from (is_one_at row.mask k) (beside row.signal.0 k) masked there))
        | inr later ↦
            or_right (row_wakes d.signals writers own row) (list_any (row_wakes d.signals writers own) rows) (row_wakes_there rows s k later wakes')
      ]

  pub can_wake_is : (rows : List Row) → ((s k : ℕ) → has_rows rows s k ≡ listed (widths d) task.does s k) → list_any (row_wakes d.signals writers own) rows ≡ can_wake d p task.does
  can_wake_is rows lists =
      same_truth (list_any (row_wakes d.signals writers own) rows) (can_wake d p task.does)
      (λ h.
      let (s, k, one) = row_found rows h in
      let (has', wakes') = and_parts (has_rows rows s k) (beside s k) one in
      let bit = sym (lists s k) ∙ has' in
      let below = listed_inside (widths d) task.does s k bit in
      wakes (widths d) (listed (widths d) task.does) (another_writes d p) 0 d.signals s k s (omega arith) (signal_there d.signals s k below) below
      (and_from (listed (widths d) task.does s k) (beside s k) bit wakes'))
      (λ h.
      let found = woken (widths d) (listed (widths d) task.does) (another_writes d p) 0 d.signals h in
      let same : found.i ≡ found.s = omega (arith, found.place) in
      let (bit, wakes') = and_parts (listed (widths d) task.does found.s found.k) (top_at d.signals found.i || another_writes d p found.s found.k) found.is in
      row_wakes_there rows found.s found.k (lists found.s found.k ∙ bit) (ap (λ n. top_at d.signals n || another_writes d p found.s found.k) (sym same) ∙ wakes'))

-- ---- the finding of a process

never_is : (d : Flat) (p : ℕ) (does : Doing) → never_wakes d p does ≡ (has_level_list does && not (can_wake d p does))
never_is d p (Assign target value) = refl
never_is d p (Comb list body) = refl
never_is d p (Edge' events body) = refl

module _ (d : Flat) (p : ℕ) (task : Task) where
  pub gets_never : has_level_list task.does ≡ true → can_wake d p task.does ≡ false → (old : List Finding) → Gets (IsNeverWakes d) (never_wakes_at d) (task_sites itself p task) old (old ++ never_wakes_at d (within (p, task) task.does) ∷ [])
  gets_never level asleep old =
      gets_one (IsNeverWakes d) (never_wakes_at d) old (within (p, task) task.does)
      (never_is d p task.does ∙ ap (λ b. b && not (can_wake d p task.does)) level ∙ ap not asleep)

  pub gets_none_never : (has_level_list task.does && not (can_wake d p task.does)) ≡ false → (old : List Finding) → Gets (IsNeverWakes d) (never_wakes_at d) (task_sites itself p task) old old
  gets_none_never fails old =
      gets_nothing (IsNeverWakes d) (never_wakes_at d) old (within (p, task) task.does) (λ h. false≢true (sym fails ∙ sym (never_is d p task.does) ∙ h))

-- ---- signals

pub top_is : (signals : List Signal) (i : ℕ) (x : Signal) → i < length signals → x ≡ get_or signals i x → is_input_kind x.kind ≡ top_at signals i
top_is [] i x inside is = absurd (omega (arith, inside))
top_is (y ∷ signals) zero x inside is = ap (λ (z : Signal). is_input_kind z.kind) is
top_is (y ∷ signals) (suc i) x inside is = top_is signals i x (omega (arith, inside)) is

pub top_past : (signals : List Signal) (i : ℕ) → length signals ≤ i → top_at signals i ≡ false
top_past [] i past = refl
top_past (y ∷ signals) zero past = absurd (omega (arith, past))
top_past (y ∷ signals) (suc i) past = top_past signals i (omega (arith, past))
