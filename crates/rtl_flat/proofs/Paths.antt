-- Tests of paths, by recursion on the body, say what holds on its paths.
use Rattle.std.proofs.Common.{ℕ, ◌≡◌, ◌∙◌, Bool, true, false, not, ◌&&◌, ◌||◌, List, [], ◌∷◌, ◌++◌, refl, sym, ap, inl, inr, append_assoc}
use Rattle.std.specs.List.{list_any}
use Rattle.std.proofs.lemmas.Bool.{cases_Bool, or_cases, or_left, or_right, or_parts, or_from, and_parts, and_from, and_cases, false≢true, both_ways, not-true, true_from_ne_false}
use Rattle.rtl_flat.specs.Paths.{Step, Flow, End, Do, Fork, Ways, Last, More, IsPath, IsWay, reads_bit, may_write_bit, may_write_late, may_write_now, writes_bit, writes_now, some, some_way, every, every_way, first, first_way, AreDecided}

-- ---- tests of two lists one after the other

any-append : (f : Step → Bool) (p q : List Step) → list_any f (p ++ q) ≡ (list_any f p || list_any f q)
any-append f [] q = refl
any-append f (x ∷ p) q = ap (λ b. f x || b) (any-append f p q) ∙ or_assoc (f x) (list_any f p) (list_any f q)
  where
    or_assoc : (a b c : Bool) → (a || (b || c)) ≡ ((a || b) || c)
    or_assoc true b c = refl
    or_assoc false b c = refl

-- ---- each body has a path

mutual
  a_path : (b : Flow) → (p : List Step) × IsPath b p
  a_path End = ([], refl)
  a_path (Do x rest) = let (q, is) = a_path rest in (x ∷ q, (q, refl, is))
  a_path (Fork ways rest) =
      let (m, is_way) = a_way ways in
      let (q, is) = a_path rest in
      (m ++ q, (m, q, refl, is_way, is))

  a_way : (ways : Ways) → (p : List Step) × IsWay ways p
  a_way (Last a) = a_path a
  a_way (More a ways) = let (p, is) = a_path a in (p, inl is)

-- ---- on some path

module _ (f : Step → Bool) where
  mutual
    some_to : (b : Flow) → some f b ≡ true → (p : List Step) × IsPath b p × (list_any f p ≡ true)
    some_to End h = absurd (false≢true h)
    some_to (Do x rest) h =
        elim (or_cases (f x) (some f rest) h) [
          | inl hit ↦ let (q, is) = a_path rest in (x ∷ q, (q, refl, is), or_left (f x) (list_any f q) hit)
          | inr later ↦ let (q, is, hit) = some_to rest later in
              (x ∷ q, (q, refl, is), or_right (f x) (list_any f q) hit)
        ]
    some_to (Fork ways rest) h =
        elim (or_cases (some_way f ways) (some f rest) h) [
          | inl here ↦ let (m, is_way, hit) = some_way_to ways here in
              let (q, is) = a_path rest in
              (m ++ q, (m, q, refl, is_way, is), any-append f m q ∙ or_left (list_any f m) (list_any f q) hit)
          | inr later ↦ let (m, is_way) = a_way ways in
              let (q, is, hit) = some_to rest later in
              (m ++ q, (m, q, refl, is_way, is), any-append f m q ∙ or_right (list_any f m) (list_any f q) hit)
        ]

    some_way_to : (ways : Ways) → some_way f ways ≡ true → (p : List Step) × IsWay ways p × (list_any f p ≡ true)
    some_way_to (Last a) h = some_to a h
    some_way_to (More a ways) h =
        elim (or_cases (some f a) (some_way f ways) h) [
          | inl here ↦ let (p, is, hit) = some_to a here in (p, inl is, hit)
          | inr there ↦ let (p, is, hit) = some_way_to ways there in (p, inr is, hit)
        ]

  mutual
    some_from : (b : Flow) (p : List Step) → IsPath b p → list_any f p ≡ true → some f b ≡ true
    some_from End p is h = absurd (false≢true (ap (list_any f) (sym is) ∙ h))
    some_from (Do x rest) p (q, e, is) h =
        elim (or_cases (f x) (list_any f q) (ap (list_any f) (sym e) ∙ h)) [
          | inl hit ↦ or_left (f x) (some f rest) hit
          | inr later ↦ or_right (f x) (some f rest) (some_from rest q is later)
        ]
    some_from (Fork ways rest) p (m, q, e, is_way, is) h =
        elim (or_cases (list_any f m) (list_any f q) (sym (any-append f m q) ∙ ap (list_any f) (sym e) ∙ h)) [
          | inl here ↦ or_left (some_way f ways) (some f rest) (some_way_from ways m is_way here)
          | inr later ↦ or_right (some_way f ways) (some f rest) (some_from rest q is later)
        ]

    some_way_from : (ways : Ways) (p : List Step) → IsWay ways p → list_any f p ≡ true → some_way f ways ≡ true
    some_way_from (Last a) p is h = some_from a p is h
    some_way_from (More a ways) p (inl is) h = or_left (some f a) (some_way f ways) (some_from a p is h)
    some_way_from (More a ways) p (inr is) h =
        or_right (some f a) (some_way f ways) (some_way_from ways p is h)

-- ---- on every path

module _ (f : Step → Bool) where
  mutual
    every_to : (b : Flow) (p : List Step) → IsPath b p → every f b ≡ true → list_any f p ≡ true
    every_to End p is h = absurd (false≢true h)
    every_to (Do x rest) p (q, e, is) h =
        ap (list_any f) e ∙ elim (or_cases (f x) (every f rest) h) as (λ _. list_any f (x ∷ q) ≡ true) [
          | inl hit ↦ or_left (f x) (list_any f q) hit
          | inr later ↦ or_right (f x) (list_any f q) (every_to rest q is later)
        ]
    every_to (Fork ways rest) p (m, q, e, is_way, is) h =
        ap (list_any f) e ∙ any-append f m q ∙ elim (or_cases (every_way f ways) (every f rest) h) as (λ _. (list_any f m || list_any f q) ≡ true) [
          | inl here ↦ or_left (list_any f m) (list_any f q) (every_way_to ways m is_way here)
          | inr later ↦ or_right (list_any f m) (list_any f q) (every_to rest q is later)
        ]

    every_way_to : (ways : Ways) (p : List Step) → IsWay ways p → every_way f ways ≡ true → list_any f p ≡ true
    every_way_to (Last a) p is h = every_to a p is h
    every_way_to (More a ways) p (inl is) h = every_to a p is (and_parts (every f a) (every_way f ways) h).0
    every_way_to (More a ways) p (inr is) h =
        every_way_to ways p is (and_parts (every f a) (every_way f ways) h).1

  mutual
    -- a path on which no step passes
    misses : (b : Flow) → every f b ≡ false → (p : List Step) × IsPath b p × (list_any f p ≡ false)
    misses End h = ([], refl, refl)
    misses (Do x rest) h =
        let (here, later) = or_parts (f x) (every f rest) h in
        let (q, is, miss) = misses rest later in
        (x ∷ q, (q, refl, is), or_from (f x) (list_any f q) here miss)
    misses (Fork ways rest) h =
        let (here, later) = or_parts (every_way f ways) (every f rest) h in
        let (m, is_way, miss) = misses_way ways here in
        let (q, is, miss') = misses rest later in
        (m ++ q, (m, q, refl, is_way, is), any-append f m q ∙ or_from (list_any f m) (list_any f q) miss miss')

    misses_way : (ways : Ways) → every_way f ways ≡ false → (p : List Step) × IsWay ways p × (list_any f p ≡ false)
    misses_way (Last a) h = misses a h
    misses_way (More a ways) h =
        elim (and_cases (every f a) (every_way f ways) h) [
          | inl here ↦ let (p, is, miss) = misses a here in (p, inl is, miss)
          | inr there ↦ let (p, is, miss) = misses_way ways there in (p, inr is, miss)
        ]

  every_from : (b : Flow) → ((p : List Step) → IsPath b p → list_any f p ≡ true) → every f b ≡ true
  every_from b h =
      true_from_ne_false (every f b) (λ no. let (p, is, miss) = misses b no in both_ways (list_any f p) miss (h p is))

-- ---- before another test passes

module _ (f g : Step → Bool) where
  -- the same of one path
  opens : List Step → Bool
  opens [] = false
  opens (x ∷ p) = f x || (not (g x) && opens p)

  opens-append : (p q : List Step) → opens (p ++ q) ≡ (opens p || (not (list_any g p) && opens q))
  unfolding opens
  opens-append [] q = refl
  opens-append (x ∷ p) q =
      ap (λ b. f x || (not (g x) && b)) (opens-append p q) ∙ parts (f x) (g x) (opens p) (list_any g p) (opens q)
    where
      parts : (fx gx op gp oq : Bool) → (fx || (not gx && (op || (not gp && oq)))) ≡ ((fx || (not gx && op)) || (not (gx || gp) && oq))
      parts true gx op gp oq = refl
      parts false true op gp oq = refl
      parts false false op gp oq = refl

  opens_here : (before : List Step) (x : Step) (after : List Step) → f x ≡ true → list_any g before ≡ false → opens (before ++ x ∷ after) ≡ true
  unfolding opens
  opens_here [] x after hit miss = or_left (f x) (not (g x) && opens after) hit
  opens_here (y ∷ before) x after hit miss =
      let (here, later) = or_parts (g y) (list_any g before) miss in
      or_right (f y) (not (g y) && opens (before ++ x ∷ after))
      (and_from (not (g y)) (opens (before ++ x ∷ after)) (ap not here) (opens_here before x after hit later))

  mutual
    first_to : (b : Flow) → first f g b ≡ true → (before : List Step) × (x : Step) × (after : List Step) × IsPath b (before ++ x ∷ after) × (f x ≡ true) × (list_any g before ≡ false)
    first_to End h = absurd (false≢true h)
    first_to (Do x rest) h =
        elim (or_cases (f x) (not (g x) && first f g rest) h) [
          | inl hit ↦ let (q, is) = a_path rest in ([], x, q, (q, refl, is), hit, refl)
          | inr later ↦ let (free, later') = and_parts (not (g x)) (first f g rest) later in
              let (m, y, q, is, hit, miss) = first_to rest later' in
              (x ∷ m, y, q, (m ++ y ∷ q, refl, is), hit, or_from (g x) (list_any g m) (not-true (g x) free) miss)
        ]
    first_to (Fork ways rest) h =
        elim (or_cases (first_way f g ways) (not (every_way g ways) && first f g rest) h) [
          | inl here ↦ let (m, y, q, is_way, hit, miss) = first_way_to ways here in
              let (r, is) = a_path rest in
              (m, y, q ++ r, (m ++ y ∷ q, r, sym (append_assoc m (y ∷ q) r), is_way, is), hit, miss)
          | inr later ↦ let (free, later') = and_parts (not (every_way g ways)) (first f g rest) later in
              let (w, is_way, miss) = misses_way g ways (not-true (every_way g ways) free) in
              let (m, y, q, is, hit, miss') = first_to rest later' in
              (w ++ m, y, q, (w, m ++ y ∷ q, append_assoc w m (y ∷ q), is_way, is), hit, any-append g w m ∙ or_from (list_any g w) (list_any g m) miss miss')
        ]

    first_way_to : (ways : Ways) → first_way f g ways ≡ true → (before : List Step) × (x : Step) × (after : List Step) × IsWay ways (before ++ x ∷ after) × (f x ≡ true) × (list_any g before ≡ false)
    first_way_to (Last a) h = first_to a h
    first_way_to (More a ways) h =
        elim (or_cases (first f g a) (first_way f g ways) h) [
          | inl here ↦ let (m, y, q, is, hit, miss) = first_to a here in (m, y, q, inl is, hit, miss)
          | inr there ↦ let (m, y, q, is, hit, miss) = first_way_to ways there in (m, y, q, inr is, hit, miss)
        ]

  mutual
    unfolding opens

    first_from : (b : Flow) (p : List Step) → IsPath b p → opens p ≡ true → first f g b ≡ true
    first_from End p is h = absurd (false≢true (ap opens (sym is) ∙ h))
    first_from (Do x rest) p (q, e, is) h =
        elim (or_cases (f x) (not (g x) && opens q) (ap opens (sym e) ∙ h)) [
          | inl hit ↦ or_left (f x) (not (g x) && first f g rest) hit
          | inr later ↦ let (free, later') = and_parts (not (g x)) (opens q) later in
              or_right (f x) (not (g x) && first f g rest)
              (and_from (not (g x)) (first f g rest) free (first_from rest q is later'))
        ]
    first_from (Fork ways rest) p (m, q, e, is_way, is) h =
        elim (or_cases (opens m) (not (list_any g m) && opens q) (sym (opens-append m q) ∙ ap opens (sym e) ∙ h)) [
          | inl here ↦ or_left (first_way f g ways) (not (every_way g ways) && first f g rest) (first_way_from ways m is_way here)
          | inr later ↦ let (free, later') = and_parts (not (list_any g m)) (opens q) later in
              let open_way : every_way g ways ≡ false
              = elim (cases_Bool (every_way g ways)) [
                | inl all ↦ absurd (both_ways (list_any g m) (not-true (list_any g m) free) (every_way_to g ways m is_way all))
                | inr none ↦ none
              ] in
              or_right (first_way f g ways) (not (every_way g ways) && first f g rest)
              (and_from (not (every_way g ways)) (first f g rest) (ap not open_way) (first_from rest q is later'))
        ]

    first_way_from : (ways : Ways) (p : List Step) → IsWay ways p → opens p ≡ true → first_way f g ways ≡ true
    first_way_from (Last a) p is h = first_from a p is h
    first_way_from (More a ways) p (inl is) h = or_left (first f g a) (first_way f g ways) (first_from a p is h)
    first_way_from (More a ways) p (inr is) h =
        or_right (first f g a) (first_way f g ways) (first_way_from ways p is h)

-- ---- the path sets

pub decided : (b : Flow) (s k : ℕ) → AreDecided b s k
decided b s k = record {
  writes = (
    λ h. let (p, is, hit) = some_to (may_write_bit s k) b h in record { path = p; is_path = is; written = hit },
    λ w. some_from (may_write_bit s k) b w.path w.is_path w.written,
  );
  late = (
    λ h. let (p, is, hit) = some_to (may_write_late s k) b h in record { path = p; is_path = is; written = hit },
    λ w. some_from (may_write_late s k) b w.path w.is_path w.written,
  );
  now = (
    λ h. let (p, is, hit) = some_to (may_write_now s k) b h in record { path = p; is_path = is; written = hit },
    λ w. some_from (may_write_now s k) b w.path w.is_path w.written,
  );
  sure = (
    λ h. record { written = λ p is. every_to (writes_bit s k) b p is h },
    λ w. every_from (writes_bit s k) b w.written,
  );
  sure_now = (
    λ h. record { written = λ p is. every_to (writes_now s k) b p is h },
    λ w. every_from (writes_now s k) b w.written,
  );
  reads = (
    λ h. let (p, is, hit) = some_to (reads_bit s k) b h in record { path = p; is_path = is; read = hit },
    λ w. some_from (reads_bit s k) b w.path w.is_path w.read,
  );
  outside = (
    λ h. let (before, x, after, is, hit, miss) = first_to (reads_bit s k) (writes_now s k) b h in
        record { before = before; step = x; after = after; is_path = is; read = hit; not_written = miss },
    λ w. first_from (reads_bit s k) (writes_now s k) b (w.before ++ w.step ∷ w.after) w.is_path
        (opens_here (reads_bit s k) (writes_now s k) w.before w.step w.after w.read w.not_written),
  );
}
