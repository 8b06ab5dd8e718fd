-- What is known of the processes that use a signal, from one process to the next.
use Rattle.std.proofs.Common.{ℕ, zero, suc, ◌≡◌, ◌∙◌, ◌+◌, ◌/◌, ◌%◌, ◌<◌, ◌≤◌, arith, Bool, true, false, not, cond, ◌&&◌, ◌||◌, List, [], ◌∷◌, ◌++◌, length, drop, take, append-nil, get_or, set, Some, None, Option, refl, sym, ap, subst, inl, inr}
use Rattle.std.specs.Prelude.{◌==◌, ◌↔◌}
use Rattle.std.specs.List.{slice_get}
use Rattle.std.specs.Option.{IsSomeAnd}
use Rattle.std.specs.BTreeMap.{BTreeMap}
use Rattle.std.proofs.lemmas.Bool.{cases_Bool, cases_lt, eq-eqb, ne_eqb, eqb-true, eqb-false}
use Rattle.std.proofs.lemmas.Option.{slice_get_past, slice_get_read, slice_get-get_or, slice_get_within, get_or_from_slice_get}
use Rattle.std.proofs.lemmas.List.{drop_all, take_all, length-append, length-set, get_or_append_left, get_or_push, get_or-set_same, get_or-set_other, get_or_default}
use Rattle.rtl_bits.specs.Bits.{is_one_at}
use Rattle.rtl_bits.specs.Digits.{one_at-zero, one_at-suc, lowest_of}
use Rattle.rtl_flat.specs.declared.signal.Signal.{Signal}
use Rattle.rtl_flat.specs.declared.signal.Kind.{Kind}
use Rattle.rtl_flat.specs.declared.signal.Kind.TheVariants.{TopInput, Net, Var}
use Rattle.rtl_flat.specs.Signs.{Has, width_in}
use Rattle.rtl_flat.specs.Process.{Task, task}
use Rattle.rtl_flat.specs.Paths.{BitSet, Flow, MayWriteLate, ReadsOutside, may_write, may_write_delayed, reads_bit, reads_outside, writes_now}
use Rattle.rtl_flat.specs.Flows.{flow_of}
use Rattle.rtl_flat.specs.PathSets.{Writes, Uses, listed, IsTemporary}
use Rattle.rtl_flat.proofs.Outside.{first_some, read_or_written_by}
use Rattle.rtl_flat.proofs.Paths.{decided}
use Rattle.rtl_scan.specs.declared.bits.Row.{Row}
use Rattle.rtl_scan.specs.declared.scan.Sets.{Sets}
use Rattle.rtl_scan.specs.declared.usages.Usage.{Usage}
use Rattle.rtl_scan.specs.declared.usages.Usage.TheVariants.{Unused, Only, Shared}
use Rattle.rtl_scan.specs.Sets.{has, has_row, has_rows, mask_of, IsInOrder}
use Rattle.rtl_scan.proofs.Bools.{or_is, or_left, or_right, and_is}
use Rattle.rtl_scan.proofs.Labels.{left_at}
use Rattle.rtl_scan.proofs.Processes.{below_next, there, back}
use Rattle.rtl_scan.specs.Usage.{has_some, has_row_of, Keeps, used_by, usage_at, noted, AreNoted, IsNotedIn, Of, UsedIn, IsUsage, AreUsages, is_var, is_inner, is_alone, AreAnswers}

-- ---- Bools

both : (a b : Bool) → a ≡ true → b ≡ true → (a && b) ≡ true
both a b h k = ap (λ x. x && b) h ∙ k

not_both : (a : Bool) → a ≡ true → a ≡ false → ⊥
not_both a h k = let e : true ≡ false = sym h ∙ k in cc

-- ---- a mask with a bit

one_from : (b : Bool) (n : ℕ) → cond b 1 0 ≡ n → 1 ≤ n → b ≡ true
one_from true n h some = refl
one_from false n h some = absurd (omega arith)

some_within : (fuel m : ℕ) → m ≤ fuel → 1 ≤ m → (k : ℕ) × (is_one_at m k ≡ true)
some_within zero m small some = absurd (omega arith)
some_within (suc fuel) m small some =
    elim (cases_lt (m % 2) 1) [
      | inl even ↦ let (k, one) = some_within fuel (m / 2) (omega arith) (omega arith) in (suc k, one_at-suc m k ∙ one)
      | inr odd ↦ (0, one_from (is_one_at m 0) (m % 2) (lowest_of m) odd)
    ]

some_one : (m : ℕ) → 1 ≤ m → (k : ℕ) × (is_one_at m k ≡ true)
some_one m some = some_within m m (omega arith) some

-- a set has some bit of a signal
abbrev AnyOf : BitSet → ℕ → Type 0
AnyOf bits s = (k : ℕ) × (bits s k ≡ true)

-- a mask that isn't 0 has a bit
pub some_bit_is : (m : ℕ) → not (m == 0) ≡ true ↔ ((k : ℕ) × (is_one_at m k ≡ true))
some_bit_is m = (to m, from m)
  where
    to : (m : ℕ) → not (m == 0) ≡ true → (k : ℕ) × (is_one_at m k ≡ true)
    to zero h = absurd (cc)
    to (suc m) h = some_one (suc m) (omega arith)

    from : (m : ℕ) → (k : ℕ) × (is_one_at m k ≡ true) → not (m == 0) ≡ true
    from zero (k, one) = absurd (not_both (is_one_at 0 k) one (one_at-zero k))
    from (suc m) h = ap not (ne_eqb (suc m) 0 (λ e. omega arith))

has_some_is : (masks : BTreeMap ℕ ℕ) (s : ℕ) → has_some masks s ≡ true ↔ AnyOf (has masks) s
has_some_is masks s = some_bit_is (mask_of masks s)

has_row_of_is : (rows : List Row) → IsInOrder rows → (s : ℕ) → has_row_of rows s ≡ true ↔ AnyOf (has_rows rows) s
has_row_of_is rows order s = (to rows order, from rows)
  where
    to : (rows : List Row) → IsInOrder rows → has_row_of rows s ≡ true → AnyOf (has_rows rows) s
    to [] order h = absurd (cc)
    to (row ∷ rows) order h =
        elim (or_is (s == row.signal.0) (has_row_of rows s) h) [
          | inl same ↦ let (k, one) = some_one row.mask order.0 in
              (k, or_left (has_row row s k) (has_rows rows s k) (both (s == row.signal.0) (is_one_at row.mask k) same one))
          | inr later ↦ let (k, one) = to rows order.2 later in
              (k, or_right (has_row row s k) (has_rows rows s k) one)
        ]

    from : (rows : List Row) → AnyOf (has_rows rows) s → has_row_of rows s ≡ true
    from [] (k, one) = absurd (cc)
    from (row ∷ rows) (k, one) =
        elim (or_is (has_row row s k) (has_rows rows s k) one) [
          | inl here ↦ or_left (s == row.signal.0) (has_row_of rows s) (and_is (s == row.signal.0) (is_one_at row.mask k) here).0
          | inr later ↦ or_right (s == row.signal.0) (has_row_of rows s) (from rows (k, later))
        ]

-- sets with the same bits
same_bits : (a b : BitSet) → ((s k : ℕ) → a s k ≡ b s k) → (s : ℕ) → AnyOf a s → AnyOf b s
same_bits a b same s (k, one) = (k, sym (same s k) ∙ one)

-- rows of the bits of a set
rows_are : (rows : List Row) (bits : BitSet) → IsInOrder rows → ((s k : ℕ) → has_rows rows s k ≡ bits s k) → (s : ℕ) → has_row_of rows s ≡ true ↔ AnyOf bits s
rows_are rows bits order same s = (
  λ h. same_bits (has_rows rows) bits same s ((has_row_of_is rows order s).0 h),
  λ h. (has_row_of_is rows order s).1 (same_bits bits (has_rows rows) (λ s k. sym (same s k)) s h),
)

-- masks of the bits of a set
masks_are : (masks : BTreeMap ℕ ℕ) (bits : BitSet) → ((s k : ℕ) → has masks s k ≡ bits s k) → (s : ℕ) → has_some masks s ≡ true ↔ AnyOf bits s
masks_are masks bits same s = (
  λ h. same_bits (has masks) bits same s ((has_some_is masks s).0 h),
  λ h. (has_some_is masks s).1 (same_bits bits (has masks) (λ s k. sym (same s k)) s h),
)

-- ---- a process is noted

again : (p q : ℕ) (w k w' k' b : Bool) → (q == p) ≡ b → used_by p w k (cond b (Only q w' k') Shared) ≡ cond b (Only q w' k') Shared
again p q w k w' k' true e = ap (λ t. cond t (Only q w' k') Shared) e
again p q w k w' k' false e = refl

twice : (p : ℕ) (w k : Bool) (usage : Usage) → used_by p w k (used_by p w k usage) ≡ used_by p w k usage
twice p w k Unused = again p p w k w k true (eq-eqb p p refl)
twice p w k (Only q w' k') = again p q w k w' k' (q == p) refl
twice p w k Shared = refl

noted_again : (a b : Bool) (p : ℕ) (w k : Bool) (u v x : Usage) → v ≡ cond a (used_by p w k u) u → x ≡ cond b (used_by p w k v) v → x ≡ cond (a || b) (used_by p w k u) u
noted_again true true p w k u v x e f = f ∙ ap (used_by p w k) e ∙ twice p w k u
noted_again true false p w k u v x e f = f ∙ e
noted_again false true p w k u v x e f = f ∙ ap (used_by p w k) e
noted_again false false p w k u v x e f = f ∙ e

pub row_noted : (usages : List Usage) (signal p : ℕ) (found : Sets) (d after : Usage) (w k : Bool) → signal < length usages → after ≡ used_by p w k (get_or usages signal d) → w ≡ has_some found.writes.masks signal → k ≡ (has_some found.late.masks signal || has_some found.reads.masks signal) → AreNoted (λ s. s == signal) p found usages (set usages signal after)
row_noted usages signal p found d after w k inside is writes keeps = record {
  same_length = length-set usages signal after;
  each = λ s below. elim (cases_Bool (s == signal)) as (λ _. usage_at (set usages signal after) s ≡ cond (s == signal) (noted p found s (usage_at usages s)) (usage_at usages s)) [
    | inl e ↦ rw (e)
        (ap (usage_at (set usages signal after)) (eqb-true s signal e) ∙ get_or-set_same usages signal after Unused inside ∙ is
        ∙ ap (λ b. used_by p b k (get_or usages signal d)) writes
        ∙ ap (λ b. used_by p (has_some found.writes.masks signal) b (get_or usages signal d)) keeps
        ∙ ap (noted p found signal) (get_or_default usages signal d Unused inside)
        ∙ ap (λ i. noted p found i (usage_at usages i)) (sym (eqb-true s signal e)))
    | inr e ↦ rw (e) (get_or-set_other usages signal s after Unused (eqb-false s signal e))
  ];
}

pub row_past : (usages : List Usage) (signal p : ℕ) (found : Sets) → length usages ≤ signal → AreNoted (λ s. s == signal) p found usages usages
row_past usages signal p found past = record {
  same_length = refl;
  each = λ s below.
      sym (ap (λ b. cond b (noted p found s (usage_at usages s)) (usage_at usages s)) (ne_eqb s signal (λ e. omega arith)));
}

pub noted_none : (p : ℕ) (found : Sets) (usages : List Usage) → AreNoted (has_row_of []) p found usages usages
noted_none p found usages = record { same_length = refl; each = λ s inside. refl }

pub noted_then : (a b : ℕ → Bool) (p : ℕ) (found : Sets) (u v x : List Usage) → AreNoted a p found u v → AreNoted b p found v x → AreNoted (λ s. a s || b s) p found u x
noted_then a b p found u v x one two = record {
  same_length = two.same_length ∙ one.same_length;
  each = λ s inside.
      noted_again (a s) (b s) p (has_some found.writes.masks s) (has_some found.late.masks s || has_some found.reads.masks s) (usage_at u s) (usage_at v s) (usage_at x s) (one.each s inside) (two.each s (subst (λ n. s < n) (sym one.same_length) inside));
}

pub row_more : (rows : List Row) (i : ℕ) (d : Row) → i < length rows → (p : ℕ) (found : Sets) (old mid : List Usage) → AreNoted (λ s. s == (get_or rows i d).signal.0) p found old mid → (new : List Usage) → AreNoted (has_row_of (drop (i + 1) rows)) p found mid new → AreNoted (has_row_of (drop i rows)) p found old new
row_more rows i d inside p found old mid one new others =
    subst (λ (xs : List Row). AreNoted (has_row_of xs) p found old new) (sym (left_at rows i (get_or rows i d) inside (get_or_default rows i d (get_or rows i d) inside)))
    (noted_then (λ s. s == (get_or rows i d).signal.0) (has_row_of (drop (i + 1) rows)) p found old mid new one others)

-- what three lists of rows note of a process
module _ (ws : ℕ → ℕ) (task : Task) (p : ℕ) (found : Sets) (written outer watched : List Row) where
  abbrev flow : Flow
  flow = flow_of ws task.does

  module _ (writes : (s k : ℕ) → has found.writes.masks s k ≡ may_write flow s k) (late : (s k : ℕ) → has found.late.masks s k ≡ may_write_delayed flow s k) (outside : (s k : ℕ) → has found.reads.masks s k ≡ reads_outside flow s k) where
    writes_is : (s : ℕ) → has_some found.writes.masks s ≡ true ↔ Writes ws task s
    writes_is s =
        let is = masks_are found.writes.masks (may_write flow) writes s in (
          λ h. let (k, one) = is.0 h in record { bit = k; written = (decided flow s k).writes.0 one },
          λ h. is.1 (h.bit, (decided flow s h.bit).writes.1 h.written),
        )

    keeps_is : (s : ℕ) → (has_some found.late.masks s || has_some found.reads.masks s) ≡ true ↔ Keeps ws task s
    keeps_is s =
        let by_late = masks_are found.late.masks (may_write_delayed flow) late s in
        let by_read = masks_are found.reads.masks (reads_outside flow) outside s in (
          λ h. elim (or_is (has_some found.late.masks s) (has_some found.reads.masks s) h) [
            | inl one ↦ let (k, bit) = by_late.0 one in record { bit = k; kept = inl ((decided flow s k).late.0 bit) }
            | inr one ↦ let (k, bit) = by_read.0 one in record { bit = k; kept = inr ((decided flow s k).outside.0 bit) }
          ],
          λ h. elim h.kept [
            | inl one ↦ or_left (has_some found.late.masks s) (has_some found.reads.masks s) (by_late.1 (h.bit, (decided flow s h.bit).late.1 one))
            | inr one ↦ or_right (has_some found.late.masks s) (has_some found.reads.masks s) (by_read.1 (h.bit, (decided flow s h.bit).outside.1 one))
          ],
        )

    module _ (in_order : IsInOrder written) (in_order' : IsInOrder outer) (in_order'' : IsInOrder watched) (are_written : (s k : ℕ) → has_rows written s k ≡ may_write flow s k) (are_outside : (s k : ℕ) → has_rows outer s k ≡ reads_outside flow s k) (are_watched : (s k : ℕ) → has_rows watched s k ≡ listed ws task.does s k) where
      used_is : (s : ℕ) → ((has_row_of written s || has_row_of outer s) || has_row_of watched s) ≡ true ↔ Uses ws task s
      used_is s =
          let a = rows_are written (may_write flow) in_order are_written s in
          let b = rows_are outer (reads_outside flow) in_order' are_outside s in
          let c = rows_are watched (listed ws task.does) in_order'' are_watched s in (
            λ h. elim (or_is (has_row_of written s || has_row_of outer s) (has_row_of watched s) h) [
              | inl front ↦ elim (or_is (has_row_of written s) (has_row_of outer s) front) [
                | inl one ↦ let (k, bit) = a.0 one in record { bit = k; used = inl ((decided flow s k).writes.0 bit) }
                | inr one ↦ let (k, bit) = b.0 one in record { bit = k; used = inr (inl ((decided flow s k).reads.0 (first_some (reads_bit s k) (writes_now s k) flow bit))) }
              ]
              | inr one ↦ let (k, bit) = c.0 one in record { bit = k; used = inr (inr bit) }
            ],
            λ h. elim h.used [
              | inl one ↦ or_left (has_row_of written s || has_row_of outer s) (has_row_of watched s) (or_left (has_row_of written s) (has_row_of outer s) (a.1 (h.bit, (decided flow s h.bit).writes.1 one)))
              | inr (inl one) ↦ or_left (has_row_of written s || has_row_of outer s) (has_row_of watched s)
                  (elim (read_or_written_by ws s h.bit task.does ((decided flow s h.bit).reads.1 one)) [
                    | inl outside ↦ or_right (has_row_of written s) (has_row_of outer s) (b.1 (h.bit, outside))
                    | inr writes ↦ or_left (has_row_of written s) (has_row_of outer s) (a.1 (h.bit, writes))
                  ])
              | inr (inr one) ↦ or_right (has_row_of written s || has_row_of outer s) (has_row_of watched s) (c.1 (h.bit, one))
            ],
          )

      pub noted_all : (u v x y : List Usage) → AreNoted (has_row_of written) p found u v → AreNoted (has_row_of outer) p found v x → AreNoted (has_row_of watched) p found x y → IsNotedIn ws task p u y
      noted_all u v x y one two three =
          let all = noted_then (λ s. has_row_of written s || has_row_of outer s) (has_row_of watched) p found u x y (noted_then (has_row_of written) (has_row_of outer) p found u v x one two) three in record {
            same_length = all.same_length;
            each = λ s inside. record {
              used = (has_row_of written s || has_row_of outer s) || has_row_of watched s;
              writes = has_some found.writes.masks s;
              keeps = has_some found.late.masks s || has_some found.reads.masks s;
              is = all.each s inside;
              if_used = used_is s;
              if_writes = writes_is s;
              if_keeps = keeps_is s;
            };
          }

-- ---- one process after another

module _ (signals : List Signal) (tasks : List Task) (s n : ℕ) (task : Task) (at : slice_get tasks n ≡ Some task) where
  abbrev Used : Task → Type 0
  Used task = Uses (width_in signals) task s

  abbrev Written : Task → Type 0
  Written task = Writes (width_in signals) task s

  abbrev Kept : Task → Type 0
  Kept task = Keeps (width_in signals) task s

  unused_next : (q : ℕ) → q ≡ n → (Used task → ⊥) → UsedIn signals tasks s q → ⊥
  unused_next q e free h = free (back Used tasks n q task at e h)

  next : (usage : Usage) → IsUsage signals tasks n s usage → (used writes keeps : Bool) → used ≡ true ↔ Used task → writes ≡ true ↔ Written task → keeps ≡ true ↔ Kept task → IsUsage signals tasks (n + 1) s (cond used (used_by n writes keeps usage) usage)
  next Unused h false writes keeps u w k = λ q below used.
      elim (below_next q n below) [
        | inl before ↦ h q before used
        | inr last ↦ unused_next q last (λ h. not_both false (u.1 h) refl) used
      ]
  next Unused h true writes keeps u w k = (
    omega arith,
    there Used tasks n task at (u.0 refl),
    λ q below apart used. elim (below_next q n below) [
      | inl before ↦ h q before used
      | inr last ↦ apart last
    ],
    (λ e. there Written tasks n task at (w.0 e), λ h. w.1 (back Written tasks n n task at refl h)),
    (λ e. there Kept tasks n task at (k.0 e), λ h. k.1 (back Kept tasks n n task at refl h)),
  )
  next (Only p writes' keeps') h false writes keeps u w k = (
    let below : p < n = h.0 in omega arith,
    h.1,
    λ q below apart used. elim (below_next q n below) [
      | inl before ↦ h.2 q before apart used
      | inr last ↦ unused_next q last (λ h. not_both false (u.1 h) refl) used
    ],
    h.3,
    h.4,
  )
  next (Only p writes' keeps') h true writes keeps u w k =
      let below : p < n = h.0 in
      subst (λ (b : Bool). IsUsage signals tasks (n + 1) s (cond b (Only p writes' keeps') Shared)) (sym (ne_eqb p n (λ e. omega arith)))
      (p, n, below, omega arith, h.1, there Used tasks n task at (u.0 refl))
  next Shared (p, q, apart, below, one, two) false writes keeps u w k = (p, q, apart, omega arith, one, two)
  next Shared (p, q, apart, below, one, two) true writes keeps u w k = (p, q, apart, omega arith, one, two)

pub usages_none : (signals : List Signal) (tasks : List Task) (usages : List Usage) → length usages ≡ length signals → ((s : ℕ) → s < length signals → usage_at usages s ≡ Unused) → AreUsages signals tasks 0 usages
usages_none signals tasks usages same unused = record {
  same_length = same;
  each = λ s inside. subst (λ (usage : Usage). IsUsage signals tasks 0 s usage) (sym (unused s inside)) (λ q below used. absurd (omega arith));
}

pub usages_more : (signals : List Signal) (tasks : List Task) (n : ℕ) (task : Task) → slice_get tasks n ≡ Some task → (old new : List Usage) → AreUsages signals tasks n old → IsNotedIn (width_in signals) task n old new → AreUsages signals tasks (n + 1) new
usages_more signals tasks n task at old new h noted = record {
  same_length = noted.same_length ∙ h.same_length;
  each = λ s inside.
      let one = noted.each s (subst (λ m. s < m) (sym h.same_length) inside) in
      subst (λ (usage : Usage). IsUsage signals tasks (n + 1) s usage) (sym one.is)
      (next signals tasks s n task at (usage_at old s) (h.each s inside) one.used one.writes one.keeps one.if_used one.if_writes one.if_keeps);
}

-- ---- answers

var_is : (kind : Kind) → is_var kind ≡ true → kind ≡ Var
var_is TopInput h = absurd (cc)
var_is Net h = absurd (cc)
var_is Var h = refl

not_is : (b : Bool) → not b ≡ true → b ≡ false
not_is true h = absurd (cc)
not_is false h = refl

module _ (signals : List Signal) (tasks : List Task) (s : ℕ) (signal : Signal) (at : slice_get signals s ≡ Some signal) where
  abbrev ws : ℕ → ℕ
  ws = width_in signals

  has_it : (P : Signal → Type 0) → P signal → Has P signals s
  has_it P = subst (λ (o : Option Signal). IsSomeAnd o P) (sym at)

  it_has : (P : Signal → Type 0) → Has P signals s → P signal
  it_has P = subst (λ (o : Option Signal). IsSomeAnd o P) at

  some_and : (P Q R : Task → Type 0) (o : Option Task) → ((task : Task) → P task → Q task → R task) → IsSomeAnd o P → IsSomeAnd o Q → IsSomeAnd o R
  some_and P Q R None f p q = p
  some_and P Q R (Some task) f p q = f task p q

  used_inside : (q : ℕ) → UsedIn signals tasks s q → q < length tasks
  used_inside q h =
      elim (cases_lt q (length tasks)) [
        | inl below ↦ below
        | inr above ↦ absurd (subst (λ (o : Option Task). IsSomeAnd o (λ task. Uses ws task s)) (slice_get_past tasks q above) h)
      ]

  to : (usage : Usage) → IsUsage signals tasks (length tasks) s usage → (is_inner signal && is_alone usage) ≡ true → IsTemporary signals tasks s
  to Unused h e = absurd (not_both false (and_is (is_inner signal) false e).1 refl)
  to Shared h e = absurd (not_both false (and_is (is_inner signal) false e).1 refl)
  to (Only p writes keeps) (below, used, others, if_writes, if_keeps) e =
      let (inner, alone) = and_is (is_inner signal) (writes && not keeps) e in
      let (variable, hidden) = and_is (is_var signal.kind) (not signal.top_output) inner in
      let (written, free) = and_is writes (not keeps) alone in
      let never : Of (λ task. Keeps ws task s) tasks p → ⊥ = λ h. not_both keeps (if_keeps.1 h) (not_is keeps free) in record {
        process = p;
        of_process = record {
          variable = has_it (λ x. x.kind ≡ Var) (var_is signal.kind variable);
          inner = has_it (λ x. x.top_output ≡ false) (not_is signal.top_output hidden);
          writes = if_writes.0 written;
          blocking = each_of (slice_get tasks p) used never (λ task k h. record { bit = k; kept = inl h });
          inside = each_of (slice_get tasks p) used never (λ task k h. record { bit = k; kept = inr h });
          alone = λ q apart h. others q (used_inside q h) apart h;
        };
      }
    where
      each_of : {P : Task → ℕ → Type 0} (o : Option Task) → IsSomeAnd o (λ task. Uses ws task s) → (IsSomeAnd o (λ task. Keeps ws task s) → ⊥) → ((task : Task) (k : ℕ) → P task k → Keeps ws task s) → IsSomeAnd o (λ task. (k : ℕ) → P task k → ⊥)
      each_of None used never f = used
      each_of (Some task) used never f = λ k h. never (f task k h)

  module _ (temporary : IsTemporary signals tasks s) where
    abbrev p : ℕ
    p = temporary.process

    uses_it : UsedIn signals tasks s p
    uses_it =
        some_and (λ task. Writes ws task s) (λ task. Writes ws task s) (λ task. Uses ws task s) (slice_get tasks p) (λ task h h'. record { bit = h.bit; used = inl h.written }) temporary.of_process.writes temporary.of_process.writes

    keeps_not : Of (λ task. Keeps ws task s) tasks p → ⊥
    keeps_not h = refuted (slice_get tasks p) h temporary.of_process.blocking temporary.of_process.inside
      where
        refuted : (o : Option Task) → IsSomeAnd o (λ task. Keeps ws task s) → IsSomeAnd o (λ task. (k : ℕ) → MayWriteLate (flow_of ws task.does) s k → ⊥) → IsSomeAnd o (λ task. (k : ℕ) → ReadsOutside (flow_of ws task.does) s k → ⊥) → ⊥
        refuted None h late outside = h
        refuted (Some task) h late outside =
            elim h.kept [
              | inl one ↦ late h.bit one
              | inr one ↦ outside h.bit one
            ]

    inner_is : is_inner signal ≡ true
    inner_is =
        both (is_var signal.kind) (not signal.top_output) (ap is_var (it_has (λ x. x.kind ≡ Var) temporary.of_process.variable)) (ap not (it_has (λ x. x.top_output ≡ false) temporary.of_process.inner))

    free : (b : Bool) → (b ≡ true → ⊥) → not b ≡ true
    free true h = absurd (h refl)
    free false h = refl

    alone_is : (usage : Usage) → IsUsage signals tasks (length tasks) s usage → is_alone usage ≡ true
    alone_is Unused h = absurd (h p (used_inside p uses_it) uses_it)
    alone_is Shared (a, b, apart, below, one, two) =
        elim (cases_Bool (a == p)) [
          | inl same ↦ let e : a ≡ p = eqb-true a p same in absurd (temporary.of_process.alone b (λ e'. omega arith) two)
          | inr other ↦ absurd (temporary.of_process.alone a (eqb-false a p other) one)
        ]
    alone_is (Only q writes keeps) (below, used, others, if_writes, if_keeps) =
        elim (cases_Bool (q == p)) [
          | inl same ↦
              let e : q ≡ p = eqb-true q p same in
              both writes (not keeps)
              (if_writes.1 (subst (λ i. Of (λ task. Writes ws task s) tasks i) (sym e) temporary.of_process.writes))
              (free keeps (λ k. keeps_not (subst (λ i. Of (λ task. Keeps ws task s) tasks i) e (if_keeps.0 k))))
          | inr other ↦ absurd (temporary.of_process.alone q (eqb-false q p other) used)
        ]

-- a signal's answer
pub answer_is : (signals : List Signal) (tasks : List Task) (n : ℕ) (usages : List Usage) (answers : List Bool) → n ≡ length tasks → AreUsages signals tasks n usages → AreAnswers signals usages (length signals) answers → (s : ℕ) → slice_get answers s ≡ Some true ↔ IsTemporary signals tasks s
answer_is signals tasks n usages answers same users are s =
    elim (cases_lt s (length signals)) [
      | inl below ↦
          let (signal, at) = found signals s below in
          let usage : IsUsage signals tasks (length tasks) s (usage_at usages s)
          = subst (λ (m : ℕ). IsUsage signals tasks m s (usage_at usages s)) same (users.each s below) in
          let is = are.each s signal below at in
          let inside : s < length answers = subst (λ (m : ℕ). s < m) (sym are.same_length) below in (
            λ h. to signals tasks s signal at (usage_at usages s) usage (sym is ∙ get_or_from_slice_get answers s true false h),
            λ h. slice_get-get_or answers s false inside ∙ ap Some (is ∙ both (is_inner signal) (is_alone (usage_at usages s)) (inner_is signals tasks s signal at h) (alone_is signals tasks s signal at h (usage_at usages s) usage)),
          )
      | inr above ↦ (
        λ h. absurd (let inside : s < length answers = slice_get_within answers s true h in let e = are.same_length in omega arith),
        λ h. absurd (subst (λ (o : Option Signal). IsSomeAnd o (λ x. x.kind ≡ Var)) (slice_get_past signals s above) h.of_process.variable),
      )
    ]
  where
    found : (signals : List Signal) (s : ℕ) → s < length signals → (signal : Signal) × (slice_get signals s ≡ Some signal)
    found [] s below = absurd (omega arith)
    found (x ∷ signals) zero below = (x, refl)
    found (x ∷ signals) (suc s) below = found signals s (omega arith)

-- one answer more
answers_more : (signals : List Signal) (usages : List Usage) (n : ℕ) (answers : List Bool) (signal : Signal) → slice_get signals n ≡ Some signal → AreAnswers signals usages n answers → AreAnswers signals usages (n + 1) (answers ++ (is_inner signal && is_alone (usage_at usages n)) ∷ [])
answers_more signals usages n answers signal at h = record {
  same_length = length-append answers (b ∷ []) ∙ ap (λ m. m + 1) h.same_length;
  each = λ s x below is. elim (below_next s n below) [
    | inl before ↦ get_or_append_left answers (b ∷ []) false s (subst (λ (m : ℕ). s < m) (sym h.same_length) before) ∙ h.each s x before is
    | inr last ↦
        let e : Some signal ≡ Some x = sym at ∙ ap (slice_get signals) (sym last) ∙ is in
        let same : signal ≡ x = cc in
        get_or_push answers b false s (h.same_length ∙ sym last)
        ∙ ap (λ y. is_inner y && is_alone (usage_at usages n)) same ∙ ap (λ i. is_inner x && is_alone (usage_at usages i)) (sym last)
  ];
}
  where
    b : Bool
    b = is_inner signal && is_alone (usage_at usages n)

-- a slice of all of a vector is written back
pub written_back : {A : Type 0} (items new : List A) (n : ℕ) → length new ≡ length items → n ≡ length items → take n (new ++ drop (length new) items) ≡ new
written_back items new n same is =
    ap (λ m. take m (new ++ drop (length new) items)) (is ∙ sym same)
    ∙ ap (λ xs. take (length new) (new ++ xs)) (drop_all (length new) items (omega arith))
    ∙ ap (take (length new)) (append-nil new) ∙ take_all (length new) new (omega arith)

-- the same rows in a slice
pub same_rows : (rows items : List Row) → rows ≡ items → (p : ℕ) (found : Sets) (old new : List Usage) → AreNoted (has_row_of rows) p found old new → AreNoted (has_row_of items) p found old new
same_rows rows items is p found old new = subst (λ (xs : List Row). AreNoted (has_row_of xs) p found old new) is

pub answer_more : (signals : List Signal) (usages : List Usage) (n : ℕ) (answers new : List Bool) (signal : Signal) (d : Usage) (b : Bool) → length usages ≡ length signals → n < length signals → signal ≡ get_or signals n signal → b ≡ (is_inner signal && is_alone (get_or usages n d)) → new ≡ answers ++ b ∷ [] → AreAnswers signals usages n answers → AreAnswers signals usages (n + 1) new
answer_more signals usages n answers new signal d b same inside read is pushed h =
    subst (λ (xs : List Bool). AreAnswers signals usages (n + 1) xs)
    (ap (λ x. answers ++ x ∷ []) (sym (is ∙ ap (λ u. is_inner signal && is_alone u) (get_or_default usages n d Unused (omega arith)))) ∙ sym pushed)
    (answers_more signals usages n answers signal (slice_get_read signals (length signals) n signal refl inside read) h)
