-- Tables that grow, and the processes that they name.
use Rattle.std.proofs.Common.{ℕ, zero, suc, ◌≡◌, ◌∙◌, ◌<◌, ◌≤◌, ◌+◌, max, arith, Bool, true, false, not, ◌&&◌, ◌||◌, List, [], ◌∷◌, ◌++◌, length, drop, get_or, refl, sym, ap, subst, inl, inr}
use Rattle.std.specs.Prelude.{Vec, ◌⊎◌, ◌↔◌, ◌==◌, bit_and}
use Rattle.std.specs.declared.alloc.Global.{Global}
use Rattle.std.proofs.Math.ListN.{set}
use Rattle.std.proofs.lemmas.Bool.{cases_eq, eq-eqb, eqb-true}
use Rattle.std.proofs.lemmas.List.{drop_all, get_or_default, length-append}
use Rattle.rtl_bits.specs.Bits.{is_one_at}
use Rattle.rtl_bits.specs.Digits.{one_at_and}
use Rattle.rtl_scan.specs.declared.bits.Row.{Row}
use Rattle.rtl_scan.specs.declared.arrows.Writer.{Writer}
use Rattle.rtl_scan.specs.declared.arrows.Feeders.{Feeders}
use Rattle.rtl_scan.specs.Sets.{has_row, has_rows}
use Rattle.rtl_scan.proofs.Bools.{or_is, or_left, or_right, and_is}
use Rattle.rtl_scan.proofs.Labels.{left_at}
use Rattle.rtl_scan.proofs.Users.{some_bit_is}
use Rattle.rtl_scan.specs.Graph.{row}
use Rattle.rtl_scan.specs.Arrows.{Among, bucket, WritesIn, InTable, Grows, IsPut, IsNotedAt, MayCome, comes, MeetsIn, FedBy, Gathers}

pub among_push : (ys : List ℕ) (z x : ℕ) → Among (ys ++ z ∷ []) x ↔ (Among ys x ⊎ (x ≡ z))
among_push ys z x = (to ys, from ys)
  where
    to : (ys : List ℕ) → Among (ys ++ z ∷ []) x → Among ys x ⊎ (x ≡ z)
    to [] (inl e) = inr e
    to [] (inr h) = absurd h
    to (y ∷ ys) (inl e) = inl (inl e)
    to (y ∷ ys) (inr h) = elim (to ys h) [
      | inl old ↦ inl (inr old)
      | inr e ↦ inr e
    ]

    from : (ys : List ℕ) → Among ys x ⊎ (x ≡ z) → Among (ys ++ z ∷ []) x
    from [] (inl h) = absurd h
    from [] (inr e) = inl e
    from (y ∷ ys) (inl (inl e)) = inl e
    from (y ∷ ys) (inl (inr h)) = inr (from ys (inl h))
    from (y ∷ ys) (inr e) = inr (from ys (inr e))

-- by places in a list
pub among_at : (ys : List ℕ) (x : ℕ) → Among ys x ↔ ((j : ℕ) × (j < length ys) × (get_or ys j 0 ≡ x))
among_at ys x = (to ys, λ h. from ys h.0 h.1 h.2)
  where
    to : (ys : List ℕ) → Among ys x → (j : ℕ) × (j < length ys) × (get_or ys j 0 ≡ x)
    to [] h = absurd h
    to (y ∷ ys) (inl e) = (0, omega arith, sym e)
    to (y ∷ ys) (inr h) = let (j, inside, is) = to ys h in (suc j, omega arith, is)

    from : (ys : List ℕ) (j : ℕ) → j < length ys → get_or ys j 0 ≡ x → Among ys x
    from [] j inside is = absurd (omega arith)
    from (y ∷ ys) zero inside is = inl (sym is)
    from (y ∷ ys) (suc j) inside is = inr (from ys j (omega arith) is)

-- ---- rows of writers

writes_push : (ws : List Writer) (z : Writer) (p k : ℕ) → WritesIn (ws ++ z ∷ []) p k ↔ (WritesIn ws p k ⊎ ((p ≡ z.process) × (is_one_at z.mask k ≡ true)))
writes_push ws z p k = (to ws, from ws)
  where
    to : (ws : List Writer) → WritesIn (ws ++ z ∷ []) p k → WritesIn ws p k ⊎ ((p ≡ z.process) × (is_one_at z.mask k ≡ true))
    to [] (inl e) = inr e
    to [] (inr h) = absurd h
    to (w ∷ ws) (inl e) = inl (inl e)
    to (w ∷ ws) (inr h) = elim (to ws h) [
      | inl old ↦ inl (inr old)
      | inr e ↦ inr e
    ]

    from : (ws : List Writer) → WritesIn ws p k ⊎ ((p ≡ z.process) × (is_one_at z.mask k ≡ true)) → WritesIn (ws ++ z ∷ []) p k
    from [] (inl h) = absurd h
    from [] (inr e) = inl e
    from (w ∷ ws) (inl (inl e)) = inl e
    from (w ∷ ws) (inl (inr h)) = inr (from ws (inl h))
    from (w ∷ ws) (inr e) = inr (from ws (inr e))

pub bucket_get : (table : List (Vec Writer Global)) (s : ℕ) (d : Vec Writer Global) → s < length table → (get_or table s d).items ≡ bucket table s
bucket_get [] s d h = absurd (omega arith)
bucket_get (x ∷ table) zero d h = refl
bucket_get (x ∷ table) (suc s) d h = bucket_get table s d (omega arith)

bucket_set : (table : List (Vec Writer Global)) (place : ℕ) (v : Vec Writer Global) → place < length table → bucket (set table place v) place ≡ v.items
bucket_set [] place v h = absurd (omega arith)
bucket_set (x ∷ table) zero v h = refl
bucket_set (x ∷ table) (suc place) v h = bucket_set table place v (omega arith)

bucket_other : (table : List (Vec Writer Global)) (place : ℕ) (v : Vec Writer Global) (b : ℕ) → (b ≡ place → ⊥) → bucket (set table place v) b ≡ bucket table b
bucket_other [] place v b h = refl
bucket_other (x ∷ table) zero v zero h = absurd (h refl)
bucket_other (x ∷ table) zero v (suc b) h = refl
bucket_other (x ∷ table) (suc place) v zero h = refl
bucket_other (x ∷ table) (suc place) v (suc b) h = bucket_other table place v b (λ e. h (ap suc e))

-- an empty row more
bucket_empty : (table : List (Vec Writer Global)) (v : Vec Writer Global) (b : ℕ) → v.items ≡ [] → bucket (table ++ v ∷ []) b ≡ bucket table b
bucket_empty [] v zero e = e
bucket_empty [] v (suc b) e = refl
bucket_empty (x ∷ table) v zero e = refl
bucket_empty (x ∷ table) v (suc b) e = bucket_empty table v b e

bucket_past : (table : List (Vec Writer Global)) (place : ℕ) → length table ≤ place → bucket table place ≡ []
bucket_past [] place h = refl
bucket_past (x ∷ table) zero h = absurd (omega arith)
bucket_past (x ∷ table) (suc place) h = bucket_past table place (omega arith)

-- a table gets empty rows
pub grow_more : (old cur new : List (Vec Writer Global)) (v : Vec Writer Global) (size : ℕ) → new ≡ cur ++ v ∷ [] → v.items ≡ [] → length cur < size → (max (length cur) size ≡ max (length old) size) × (length old ≤ length cur) × ((b : ℕ) → bucket cur b ≡ bucket old b) → (max (length new) size ≡ max (length old) size) × (length old ≤ length new) × ((b : ℕ) → bucket new b ≡ bucket old b)
grow_more old cur new v size is empty less h =
    let len : length new ≡ length cur + 1 = ap length is ∙ length-append cur (v ∷ []) in
    let same = h.0 in
    let fits = h.1 in (omega arith, omega arith, λ b. ap (λ t. bucket t b) is ∙ bucket_empty cur v b empty ∙ h.2 b)

pub grows_none : (P : ℕ → ℕ → ℕ → Type 0) (table : List (Vec Writer Global)) → ((p s k : ℕ) → P p s k → ⊥) → Grows P table table
grows_none P table none = record {
  each = λ p s k. (λ h. inl h, λ h. elim h [ inl old ↦ old | inr one ↦ absurd (none p s k one) ]);
}

pub grows_same : (P R : ℕ → ℕ → ℕ → Type 0) (a b : List (Vec Writer Global)) → ((p s k : ℕ) → P p s k ↔ R p s k) → Grows P a b → Grows R a b
grows_same P R a b same h = record {
  each = λ p s k. (
    λ i. elim ((h.each p s k).0 i) [ inl old ↦ inl old | inr here ↦ inr ((same p s k).0 here) ],
    λ i. elim i [ inl old ↦ (h.each p s k).1 (inl old) | inr here ↦ (h.each p s k).1 (inr ((same p s k).1 here)) ],
  );
}

grows_then : (P Q R : ℕ → ℕ → ℕ → Type 0) (a b c : List (Vec Writer Global)) → ((p s k : ℕ) → (P p s k ⊎ Q p s k) ↔ R p s k) → Grows P a b → Grows Q b c → Grows R a c
grows_then P Q R a b c same one two = record {
  each = λ p s k. (
    λ h. elim ((two.each p s k).0 h) [
      | inl mid ↦ elim ((one.each p s k).0 mid) [
        | inl old ↦ inl old
        | inr here ↦ inr ((same p s k).0 (inl here))
      ]
      | inr here ↦ inr ((same p s k).0 (inr here))
    ],
    λ h. elim h [
      | inl old ↦ (two.each p s k).1 (inl ((one.each p s k).1 (inl old)))
      | inr here ↦ elim ((same p s k).1 here) [
        | inl first ↦ (two.each p s k).1 (inl ((one.each p s k).1 (inr first)))
        | inr second ↦ (two.each p s k).1 (inr second)
      ]
    ],
  );
}

pub put_grows : (old grown : List (Vec Writer Global)) (place : ℕ) (writer : Writer) (v : Vec Writer Global) → place < length grown → ((b : ℕ) → bucket grown b ≡ bucket old b) → v.items ≡ bucket grown place ++ writer ∷ [] → Grows (IsPut place writer) old (set grown place v)
put_grows old grown place writer v inside same is = record {
  each = λ p s k. elim (cases_eq s place) [
    | inl e ↦ here p s k e
    | inr other ↦ (
      λ h. inl (subst (λ (xs : List Writer). WritesIn xs p k) (bucket_other grown place v s other ∙ same s) h),
      λ h. elim h [
        | inl was ↦ subst (λ (xs : List Writer). WritesIn xs p k) (sym (bucket_other grown place v s other ∙ same s)) was
        | inr put ↦ absurd (other put.0)
      ],
    )
  ];
}
  where
    all : bucket (set grown place v) place ≡ bucket old place ++ writer ∷ []
    all = bucket_set grown place v inside ∙ is ∙ ap (λ xs. xs ++ writer ∷ []) (same place)

    here : (p s k : ℕ) → s ≡ place → InTable (set grown place v) p s k ↔ (InTable old p s k ⊎ IsPut place writer p s k)
    here p s k e = (
      λ h. elim ((writes_push (bucket old place) writer p k).0 (subst (λ (xs : List Writer). WritesIn xs p k) (ap (bucket (set grown place v)) e ∙ all) h)) [
        | inl was ↦ inl (subst (λ (x : ℕ). InTable old p x k) (sym e) was)
        | inr put ↦ inr (e, put.0, put.1)
      ],
      λ h. subst (λ (xs : List Writer). WritesIn xs p k) (sym (ap (bucket (set grown place v)) e ∙ all)) ((writes_push (bucket old place) writer p k).1 (elim h as (λ _. WritesIn (bucket old place) p k ⊎ ((p ≡ writer.process) × (is_one_at writer.mask k ≡ true))) [
        | inl was ↦ inl (subst (λ (x : ℕ). InTable old p x k) e was)
        | inr put ↦ inr (put.1, put.2)
      ])),
    )

-- ---- processes are noted at rows

pub note_none : (rows : List Row) (i process : ℕ) (table : List (Vec Writer Global)) → length rows ≤ i → Grows (IsNotedAt (drop i rows) process) table table
note_none rows i process table past =
    grows_none (IsNotedAt (drop i rows) process) table (λ p s k h. let none : false ≡ true = sym (ap (λ xs. has_rows xs s k) (drop_all i rows past)) ∙ h.0 in cc)

both : (a b : Bool) → a ≡ true → b ≡ true → (a && b) ≡ true
both a b h k = ap (λ x. x && b) h ∙ k

pub note_more : (rows : List Row) (i process : ℕ) (d : Row) → i < length rows → (writer : Writer) → writer.process ≡ process → writer.mask ≡ (get_or rows i d).mask → (old mid : List (Vec Writer Global)) → Grows (IsPut (get_or rows i d).signal.0 writer) old mid → (new : List (Vec Writer Global)) → Grows (IsNotedAt (drop (i + 1) rows) process) mid new → Grows (IsNotedAt (drop i rows) process) old new
note_more rows i process d inside writer of_process of_mask old mid one new others =
    let x = get_or rows i d in
    subst (λ (xs : List Row). Grows (IsNotedAt xs process) old new) (sym (left_at rows i x inside (get_or_default rows i d x inside)))
    (grows_then (IsPut x.signal.0 writer) (IsNotedAt (drop (i + 1) rows) process) (IsNotedAt (x ∷ drop (i + 1) rows) process) old mid new (λ p s k. (
      λ h. elim h [
        | inl put ↦ (
          or_left (has_row x s k) (has_rows (drop (i + 1) rows) s k) (both (s == x.signal.0) (is_one_at x.mask k) (eq-eqb s x.signal.0 put.0) (ap (λ m. is_one_at m k) (sym of_mask) ∙ put.2)),
          put.1 ∙ of_process,
        )
        | inr rest ↦ (or_right (has_row x s k) (has_rows (drop (i + 1) rows) s k) rest.0, rest.1)
      ],
      λ h. elim (or_is (has_row x s k) (has_rows (drop (i + 1) rows) s k) h.0) [
        | inl here ↦ let (same, bit) = and_is (s == x.signal.0) (is_one_at x.mask k) here in
            inl (eqb-true s x.signal.0 same, h.1 ∙ sym of_process, ap (λ m. is_one_at m k) of_mask ∙ bit)
        | inr rest ↦ inr (rest, h.1)
      ],
    )) one others)

-- ---- processes are gathered

pub gathers_none : (P : ℕ → Type 0) (found : Feeders) → ((p : ℕ) → P p → ⊥) → Gathers P found found
gathers_none P found none = record {
  same = refl;
  seen = λ h. h;
  each = λ h p. (λ i. inl i, λ i. elim i [ inl old ↦ old | inr one ↦ absurd (none p one) ]);
}

pub gathers_same : (P R : ℕ → Type 0) (a b : Feeders) → ((p : ℕ) → P p ↔ R p) → Gathers P a b → Gathers R a b
gathers_same P R a b same h = record {
  same = h.same;
  seen = h.seen;
  each = λ seen p. (
    λ i. elim ((h.each seen p).0 i) [ inl old ↦ inl old | inr here ↦ inr ((same p).0 here) ],
    λ i. elim i [ inl old ↦ (h.each seen p).1 (inl old) | inr here ↦ (h.each seen p).1 (inr ((same p).1 here)) ],
  );
}

pub gathers_then : (P Q R : ℕ → Type 0) (a b c : Feeders) → ((p : ℕ) → (P p ⊎ Q p) ↔ R p) → Gathers P a b → Gathers Q b c → Gathers R a c
gathers_then P Q R a b c same one two = record {
  same = two.same ∙ one.same;
  seen = λ seen. two.seen (one.seen seen);
  each = λ seen p. (
    λ h. elim ((two.each (one.seen seen) p).0 h) [
      | inl mid ↦ elim ((one.each seen p).0 mid) [
        | inl old ↦ inl old
        | inr here ↦ inr ((same p).0 (inl here))
      ]
      | inr here ↦ inr ((same p).0 (inr here))
    ],
    λ h. elim h [
      | inl old ↦ (two.each (one.seen seen) p).1 (inl ((one.each seen p).1 (inl old)))
      | inr here ↦ elim ((same p).1 here) [
        | inl first ↦ (two.each (one.seen seen) p).1 (inl ((one.each seen p).1 (inr first)))
        | inr second ↦ (two.each (one.seen seen) p).1 (inr second)
      ]
    ],
  );
}

-- a process that was seen
pub add_known : (found : Feeders) (p : ℕ) (b : Bool) → b ≡ (get_or found.seen.items p 0 == found.process + 1) → b ≡ true → Gathers (λ x. x ≡ p) found found
add_known found p b is known = record {
  same = refl;
  seen = λ h. h;
  each = λ seen x. (
    λ i. inl i,
    λ i. elim i [
      | inl old ↦ old
      | inr e ↦ subst (λ (y : ℕ). Among found.row.items y) (sym e) (seen.there p (eqb-true (get_or found.seen.items p 0) (found.process + 1) (sym is ∙ known)))
    ],
  );
}

seen_set : (xs : List ℕ) (p v x : ℕ) → (x ≡ p → ⊥) → get_or (set xs p v) x 0 ≡ get_or xs x 0
seen_set [] p v x other = refl
seen_set (y ∷ xs) zero v zero other = absurd (other refl)
seen_set (y ∷ xs) zero v (suc x) other = refl
seen_set (y ∷ xs) (suc p) v zero other = refl
seen_set (y ∷ xs) (suc p) v (suc x) other = seen_set xs p v x (λ e. other (ap suc e))

set_most : (xs : List ℕ) (p v : ℕ) → ((x : ℕ) → get_or xs x 0 ≤ v) → (x : ℕ) → get_or (set xs p v) x 0 ≤ v
set_most [] p v h x = h x
set_most (y ∷ xs) zero v h zero = omega arith
set_most (y ∷ xs) zero v h (suc x) = h (suc x)
set_most (y ∷ xs) (suc p) v h zero = h zero
set_most (y ∷ xs) (suc p) v h (suc x) = set_most xs p v (λ i. h (suc i)) x

-- a new one
pub add_new : (old new : Feeders) (p : ℕ) → new.process ≡ old.process → new.seen.items ≡ set old.seen.items p (old.process + 1) → new.row.items ≡ old.row.items ++ p ∷ [] → Gathers (λ x. x ≡ p) old new
add_new old new p same seen row = record {
  same = same;
  seen = λ h. record {
    most = λ x. subst (λ (xs : List ℕ). get_or xs x 0 ≤ new.process + 1) (sym seen) (subst (λ (n : ℕ). get_or (set old.seen.items p (old.process + 1)) x 0 ≤ n + 1) (sym same) (set_most old.seen.items p (old.process + 1) h.most x));
    there = λ x is. subst (λ (xs : List ℕ). Among xs x) (sym row) ((among_push old.row.items p x).1 (elim (cases_eq x p) [
      | inl e ↦ inr e
      | inr other ↦ inl (h.there x (sym (seen_set old.seen.items p (old.process + 1) x other) ∙ ap (λ xs. get_or xs x 0) (sym seen) ∙ is ∙ ap (λ n. n + 1) same))
    ]));
  };
  each = λ h x. (
    λ i. (among_push old.row.items p x).0 (subst (λ (xs : List ℕ). Among xs x) row i),
    λ i. subst (λ (xs : List ℕ). Among xs x) (sym row) ((among_push old.row.items p x).1 i),
  );
}

-- ---- one writer comes or not

may_come : (itself : Bool) (p q : ℕ) → (itself || not (p == q)) ≡ true → MayCome itself q p
may_come true p q h = inl refl
may_come false p q h = inr (λ e. let no' : true ≡ false = sym h ∙ ap not (eq-eqb p q e) in cc)

come_may : (itself : Bool) (p q : ℕ) → MayCome itself q p → (itself || not (p == q)) ≡ true
come_may true p q h = refl
come_may false p q (inl e) = cc
come_may false p q (inr other) = by (p == q) refl
  where
    by : (b : Bool) → (p == q) ≡ b → not b ≡ true
    by true e = absurd (other (eqb-true p q e))
    by false e = refl

comes_is : (w : Writer) (mask : ℕ) (itself : Bool) (q p : ℕ) → ((p ≡ w.process) × (comes w mask itself q ≡ true)) ↔ MeetsIn (w ∷ []) mask itself q p
comes_is w mask itself q p = (
  λ h.
      let (meets, come) = and_is (not (bit_and w.mask mask == 0)) (itself || not (w.process == q)) h.1 in
      let (k, one) = (some_bit_is (bit_and w.mask mask)).0 meets in
      let (of_writer, of_mask) = and_is (is_one_at w.mask k) (is_one_at mask k) (sym (one_at_and w.mask mask k) ∙ one) in
      ((k, of_mask, inl (h.0, of_writer)), subst (λ (x : ℕ). MayCome itself q x) (sym h.0) (may_come itself w.process q come)),
  λ h. elim h.0.2 [
    | inl here ↦ (
      here.0,
      both (not (bit_and w.mask mask == 0)) (itself || not (w.process == q))
          ((some_bit_is (bit_and w.mask mask)).1 (h.0.0, one_at_and w.mask mask h.0.0 ∙ both (is_one_at w.mask h.0.0) (is_one_at mask h.0.0) here.1 h.0.1))
          (come_may itself w.process q (subst (λ (x : ℕ). MayCome itself q x) here.0 h.1)),
    )
    | inr none ↦ absurd none
  ],
)

pub comes_not : (w : Writer) (mask : ℕ) (itself : Bool) (found : Feeders) (b : Bool) → b ≡ comes w mask itself found.process → b ≡ false → Gathers (MeetsIn (w ∷ []) mask itself found.process) found found
comes_not w mask itself found b is none =
    gathers_none (MeetsIn (w ∷ []) mask itself found.process) found (λ p h. let no' : true ≡ false = sym ((comes_is w mask itself found.process p).1 h).1 ∙ sym is ∙ none in cc)

pub comes_one : (w : Writer) (mask : ℕ) (itself : Bool) (old new : Feeders) (b : Bool) → b ≡ comes w mask itself old.process → b ≡ true → Gathers (λ x. x ≡ w.process) old new → Gathers (MeetsIn (w ∷ []) mask itself old.process) old new
comes_one w mask itself old new b is some h =
    gathers_same (λ x. x ≡ w.process) (MeetsIn (w ∷ []) mask itself old.process) old new (λ p. (
      λ e. (comes_is w mask itself old.process p).0 (e, sym is ∙ some),
      λ m. ((comes_is w mask itself old.process p).1 m).0,
    )) h

-- ---- one writer after another

pub all_none : (ws : List Writer) (i mask : ℕ) (itself : Bool) (q : ℕ) (found : Feeders) → length ws ≤ i → Gathers (MeetsIn (drop i ws) mask itself q) found found
all_none ws i mask itself q found past =
    gathers_none (MeetsIn (drop i ws) mask itself q) found (λ p h. subst (λ (xs : List Writer). WritesIn xs p h.0.0) (drop_all i ws past) h.0.2)

pub all_more : (ws : List Writer) (i mask : ℕ) (itself : Bool) (q q' : ℕ) (d : Writer) → i < length ws → q' ≡ q → (old mid : Feeders) → Gathers (MeetsIn (get_or ws i d ∷ []) mask itself q') old mid → (new : Feeders) → Gathers (MeetsIn (drop (i + 1) ws) mask itself q) mid new → Gathers (MeetsIn (drop i ws) mask itself q) old new
all_more ws i mask itself q q' d inside same old mid one' new others =
    let x = get_or ws i d in
    let one = subst (λ (n : ℕ). Gathers (MeetsIn (x ∷ []) mask itself n) old mid) same one' in
    subst (λ (xs : List Writer). Gathers (MeetsIn xs mask itself q) old new) (sym (left_at ws i x inside (get_or_default ws i d x inside)))
    (gathers_then (MeetsIn (x ∷ []) mask itself q) (MeetsIn (drop (i + 1) ws) mask itself q) (MeetsIn (x ∷ drop (i + 1) ws) mask itself q) old mid new (λ p. (
      λ h. elim h [
        | inl ((k, bit, here), come) ↦ ((k, bit, elim here as (λ _. WritesIn (x ∷ drop (i + 1) ws) p k) [ inl e ↦ inl e | inr none ↦ absurd none ]), come)
        | inr ((k, bit, rest), come) ↦ ((k, bit, inr rest), come)
      ],
      λ h. elim h.0.2 [
        | inl e ↦ inl ((h.0.0, h.0.1, inl e), h.1)
        | inr rest ↦ inr ((h.0.0, h.0.1, rest), h.1)
      ],
    )) one others)

-- ---- one row after another

pub row_past : (table : List (Vec Writer Global)) (x : Row) (itself : Bool) (found : Feeders) → length table ≤ x.signal.0 → Gathers (FedBy table (has_row x) itself found.process) found found
row_past table x itself found past =
    gathers_none (FedBy table (has_row x) itself found.process) found (λ p h.
    let (s, k, bit, writes) = h.0 in
    let same = eqb-true s x.signal.0 (and_is (s == x.signal.0) (is_one_at x.mask k) bit).0 in
    subst (λ (xs : List Writer). WritesIn xs p k) (ap (bucket table) same ∙ bucket_past table x.signal.0 past) writes)

pub row_in : (table : List (Vec Writer Global)) (x : Row) (itself : Bool) (q : ℕ) (v : Vec Writer Global) → x.signal.0 < length table → v ≡ get_or table x.signal.0 v → (slice : List Writer) → slice ≡ v.items → (old new : Feeders) → Gathers (MeetsIn slice x.mask itself q) old new → Gathers (FedBy table (has_row x) itself q) old new
row_in table x itself q v inside read slice there old new h =
    let all : slice ≡ bucket table x.signal.0 = there ∙ ap (λ w. w.items) read ∙ bucket_get table x.signal.0 v inside in
    gathers_same (MeetsIn slice x.mask itself q) (FedBy table (has_row x) itself q) old new (λ p. (
      λ m. ((x.signal.0, m.0.0, both (x.signal.0 == x.signal.0) (is_one_at x.mask m.0.0) (eq-eqb x.signal.0 x.signal.0 refl) m.0.1, subst (λ (xs : List Writer). WritesIn xs p m.0.0) all m.0.2), m.1),
      λ f.
          let (s, k, bit, writes) = f.0 in
          let (same, one) = and_is (s == x.signal.0) (is_one_at x.mask k) bit in
          ((k, one, subst (λ (xs : List Writer). WritesIn xs p k) (ap (bucket table) (eqb-true s x.signal.0 same) ∙ sym all) writes), f.1),
    )) h

pub rows_none : (table : List (Vec Writer Global)) (rows : List Row) (i : ℕ) (itself : Bool) (q : ℕ) (found : Feeders) → length rows ≤ i → Gathers (FedBy table (has_rows (drop i rows)) itself q) found found
rows_none table rows i itself q found past =
    gathers_none (FedBy table (has_rows (drop i rows)) itself q) found (λ p h.
    let (s, k, bit, writes) = h.0 in let none : false ≡ true = sym (ap (λ xs. has_rows xs s k) (drop_all i rows past)) ∙ bit in cc)

pub rows_more : (table : List (Vec Writer Global)) (rows : List Row) (i : ℕ) (itself : Bool) (q q' : ℕ) (d : Row) → i < length rows → q' ≡ q → (old mid : Feeders) → Gathers (FedBy table (has_row (get_or rows i d)) itself q') old mid → (new : Feeders) → Gathers (FedBy table (has_rows (drop (i + 1) rows)) itself q) mid new → Gathers (FedBy table (has_rows (drop i rows)) itself q) old new
rows_more table rows i itself q q' d inside same old mid one' new others =
    let x = get_or rows i d in
    let one = subst (λ (n : ℕ). Gathers (FedBy table (has_row x) itself n) old mid) same one' in
    let rest = drop (i + 1) rows in
    subst (λ (xs : List Row). Gathers (FedBy table (has_rows xs) itself q) old new) (sym (left_at rows i x inside (get_or_default rows i d x inside)))
    (gathers_then (FedBy table (has_row x) itself q) (FedBy table (has_rows rest) itself q) (FedBy table (has_rows (x ∷ rest)) itself q) old mid new (λ p. (
      λ h. elim h [
        | inl ((s, k, bit, writes), come) ↦ ((s, k, or_left (has_row x s k) (has_rows rest s k) bit, writes), come)
        | inr ((s, k, bit, writes), come) ↦ ((s, k, or_right (has_row x s k) (has_rows rest s k) bit, writes), come)
      ],
      λ h. let (s, k, bit, writes) = h.0 in
          elim (or_is (has_row x s k) (has_rows rest s k) bit) [
            | inl here ↦ inl ((s, k, here, writes), h.1)
            | inr later ↦ inr ((s, k, later, writes), h.1)
          ],
    )) one others)
