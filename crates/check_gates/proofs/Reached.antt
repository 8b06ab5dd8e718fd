-- A search from a number finds what arrows lead to.
use Rattle.std.proofs.Common.{◌≡◌, ◌∙◌, ℕ, zero, suc, ◌+◌, ◌<◌, ◌≤◌, Bool, true, false, List, [], ◌∷◌, ◌++◌, length, get_or, set, replicate, refl, sym, ap, subst, inl, inr, arith, append-nil, append_assoc}
use Rattle.std.specs.Prelude.{◌⊎◌, ◌↔◌, Vec}
use Rattle.std.specs.declared.alloc.Global.{Global}
use Rattle.std.proofs.lemmas.Bool.{cases_eq, both_ways, false≢true}
use Rattle.std.proofs.lemmas.List.{get_or-set_same, get_or-set_other, length-set, length-append}
use Rattle.check_chains.specs.rtl_scan.Arrows.{Among}
use Rattle.check_chains.specs.rtl_scan.Graph.{row}
use Rattle.check_gates.specs.declared.reach.Reach.{Reach}
use Rattle.check_gates.specs.Reach.{AreMarked, Finds, Here, Onward, Reaches, unmarked}

-- ---- lists

pub among_left : (xs ys : List ℕ) (k : ℕ) → Among xs k → Among (xs ++ ys) k
among_left [] ys k h = absurd h
among_left (x ∷ xs) ys k (inl here) = inl here
among_left (x ∷ xs) ys k (inr later) = inr (among_left xs ys k later)

pub among_right : (xs ys : List ℕ) (k : ℕ) → Among ys k → Among (xs ++ ys) k
among_right [] ys k h = h
among_right (x ∷ xs) ys k h = inr (among_right xs ys k h)

pub among_cases : (xs ys : List ℕ) (k : ℕ) → Among (xs ++ ys) k → Among xs k ⊎ Among ys k
among_cases [] ys k h = inr h
among_cases (x ∷ xs) ys k (inl here) = inl (inl here)
among_cases (x ∷ xs) ys k (inr later) = elim (among_cases xs ys k later) [
  | inl here ↦ inl (inr here)
  | inr there ↦ inr there
]

pub among_at : (xs : List ℕ) (n : ℕ) → n < length xs → Among xs (get_or xs n 0)
among_at [] n inside = absurd (omega (arith, inside))
among_at (x ∷ xs) zero inside = inl refl
among_at (x ∷ xs) (suc n) inside = inr (among_at xs n (omega (arith, inside)))

-- the place of one of them
pub place_of : (xs : List ℕ) (k : ℕ) → Among xs k → (n : ℕ) × (n < length xs) × (get_or xs n 0 ≡ k)
place_of [] k h = absurd h
place_of (x ∷ xs) k (inl here) = (0, omega arith, sym here)
place_of (x ∷ xs) k (inr later) =
    let (n, inside, is) = place_of xs k later in (suc n, omega (arith, inside), is)

-- ---- marks

pub mark_inside : (marks : List Bool) (k : ℕ) → get_or marks k false ≡ true → k < length marks
mark_inside [] k h = absurd (false≢true h)
mark_inside (b ∷ marks) zero h = omega arith
mark_inside (b ∷ marks) (suc k) h = let inside = mark_inside marks k h in omega (arith, inside)

pub none_marked : (n k : ℕ) → get_or (replicate n false) k false ≡ false
none_marked zero k = refl
none_marked (suc n) zero = refl
none_marked (suc n) (suc k) = none_marked n k

one_marked : (marks : List Bool) (k : ℕ) → k < length marks → get_or marks k false ≡ false → unmarked (set marks k true) + 1 ≡ unmarked marks
one_marked [] k inside h = absurd (omega (arith, inside))
one_marked (true ∷ marks) zero inside h = absurd (cc)
one_marked (false ∷ marks) zero inside h = refl
one_marked (true ∷ marks) (suc k) inside h = one_marked marks k (omega (arith, inside)) h
one_marked (false ∷ marks) (suc k) inside h =
    let rest = one_marked marks k (omega (arith, inside)) h in omega (arith, rest)

-- ---- additions

pub finds_none : (reach : Reach) → Finds [] reach reach
finds_none reach =
    record {
      more = [];
      added = sym (append-nil reach.found.items);
      size = refl;
      each = λ k h. absurd h;
      marked = λ h. h;
      all = λ h k among inside. absurd among;
      left = refl;
    }

-- a number that is marked already, or past the end
pub finds_nothing : (node : ℕ) (reach : Reach) → (length reach.seen.items ≤ node) ⊎ (get_or reach.seen.items node false ≡ true) → Finds (node ∷ []) reach reach
finds_nothing node reach why =
    record {
      more = [];
      added = sym (append-nil reach.found.items);
      size = refl;
      each = λ k h. absurd h;
      marked = λ h. h;
      all = λ h k among inside. there h k among inside;
      left = refl;
    }
  where
    there : AreMarked reach → (k : ℕ) → Among (node ∷ []) k → k < length reach.seen.items → Among reach.found.items k
    there h k (inl same) inside = elim why [
      | inl past ↦ absurd (omega (arith, past, inside, same))
      | inr mark ↦ (h.each k).0 (ap (λ n. get_or reach.seen.items n false) same ∙ mark)
    ]
    there h k (inr none) inside = absurd none

-- a number that isn't
pub finds_new : (node : ℕ) (old new : Reach) → node < length old.seen.items → get_or old.seen.items node false ≡ false → new.seen.items ≡ set old.seen.items node true → new.found.items ≡ old.found.items ++ node ∷ [] → Finds (node ∷ []) old new
finds_new node old new inside fresh marks found =
    record {
      more = node ∷ [];
      added = found;
      size = ap length marks ∙ length-set old.seen.items node true;
      each = λ k h. (h, below k h);
      marked = λ h. record { each = λ k. (to h k, from h k) };
      all = λ h k among within. subst (λ l. Among l k) (sym found) (among_right old.found.items (node ∷ []) k among);
      left =
          let count = one_marked old.seen.items node inside fresh in
          let one = length-append old.found.items (node ∷ []) in
          let same_marks = ap unmarked marks in
          let same_found = ap length found in
          omega (arith, count, one, same_marks, same_found);
    }
  where
    below : (k : ℕ) → Among (node ∷ []) k → k < length old.seen.items
    below k (inl same) = omega (arith, same, inside)
    below k (inr none) = absurd none

    to : AreMarked old → (k : ℕ) → get_or new.seen.items k false ≡ true → Among new.found.items k
    to h k mark = subst (λ l. Among l k) (sym found) (elim (cases_eq k node) [
      | inl same ↦ among_right old.found.items (node ∷ []) k (inl same)
      | inr other ↦
          among_left old.found.items (node ∷ []) k
          ((h.each k).0 (sym (ap (λ l. get_or l k false) marks ∙ get_or-set_other old.seen.items node k true false other) ∙ mark))
    ])

    from : AreMarked old → (k : ℕ) → Among new.found.items k → get_or new.seen.items k false ≡ true
    from h k among =
        ap (λ l. get_or l k false) marks ∙ elim (among_cases old.found.items (node ∷ []) k (subst (λ l. Among l k) found among)) [
          | inl before ↦ elim (cases_eq k node) [
            | inl same ↦ ap (λ n. get_or (set old.seen.items node true) n false) same ∙ get_or-set_same old.seen.items node true false inside
            | inr other ↦ get_or-set_other old.seen.items node k true false other ∙ (h.each k).1 before
          ]
          | inr now ↦ last now
        ]
      where
        last : Among (node ∷ []) k → get_or (set old.seen.items node true) k false ≡ true
        last (inl same) = ap (λ n. get_or (set old.seen.items node true) n false) same ∙ get_or-set_same old.seen.items node true false inside
        last (inr none) = absurd none

-- one addition after another
pub finds_both : (xs ys : List ℕ) (old mid new : Reach) → Finds xs old mid → Finds ys mid new → Finds (xs ++ ys) old new
finds_both xs ys old mid new first second =
    record {
      more = first.more ++ second.more;
      added = second.added ∙ ap (λ l. l ++ second.more) first.added ∙ append_assoc old.found.items first.more second.more;
      size = second.size ∙ first.size;
      each = λ k among. elim (among_cases first.more second.more k among) [
        | inl here ↦ (among_left xs ys k (first.each k here).0, (first.each k here).1)
        | inr there ↦ (among_right xs ys k (second.each k there).0, subst (λ n. k < n) first.size (second.each k there).1)
      ];
      marked = λ h. second.marked (first.marked h);
      all = λ h k among inside. elim (among_cases xs ys k among) [
        | inl here ↦ subst (λ l. Among l k) (sym second.added) (among_left mid.found.items second.more k (first.all h k here inside))
        | inr there ↦ second.all (first.marked h) k there (subst (λ n. k < n) (sym first.size) inside)
      ];
      left = second.left ∙ first.left;
    }

-- ---- the search

-- a row that is read
pub row_read : (rows : List (Vec ℕ Global)) (q : ℕ) (d : Vec ℕ Global) → q < length rows → row rows q ≡ (get_or rows q d).items
row_read [] q d inside = absurd (omega (arith, inside))
row_read (nodes ∷ rows) zero d inside = refl
row_read (nodes ∷ rows) (suc q) d inside = row_read rows q d (omega (arith, inside))

-- what was found up to a place is followed
pub record IsSearched (rows : List (Vec ℕ Global)) (start : ℕ) (next : ℕ) (reach : Reach) : Type 0 where
  pub size : length reach.seen.items ≡ length rows
  pub marked : AreMarked reach
  pub inside : next ≤ length reach.found.items
  pub sound : (k : ℕ) → Among reach.found.items k → Reaches rows start k
  pub first : Among reach.found.items start
  pub followed : (n : ℕ) → n < next → (j : ℕ) → Among (row rows (get_or reach.found.items n 0)) j → j < length rows → Among reach.found.items j

-- a number that was found is below the limit
pub found_below : (rows : List (Vec ℕ Global)) (start next : ℕ) (reach : Reach) → IsSearched rows start next reach → (n : ℕ) → n < length reach.found.items → get_or reach.found.items n 0 < length rows
found_below rows start next reach h n inside =
    let mark = (h.marked.each (get_or reach.found.items n 0)).1 (among_at reach.found.items n inside) in
    let below = mark_inside reach.seen.items (get_or reach.found.items n 0) mark in
    omega (arith, below, h.size)

-- nothing is found yet
pub empty_marked : (reach : Reach) (n : ℕ) → reach.seen.items ≡ replicate n false → reach.found.items ≡ [] → AreMarked reach
empty_marked reach n marks found =
    record {
      each = λ k. (
        λ mark. absurd (both_ways (get_or reach.seen.items k false) (ap (λ l. get_or l k false) marks ∙ none_marked n k) mark),
        λ among. absurd (subst (λ l. Among l k) found among),
      );
    }

pub search_begins : (rows : List (Vec ℕ Global)) (start : ℕ) (old new : Reach) → start < length rows → old.seen.items ≡ replicate (length rows) false → old.found.items ≡ [] → length old.seen.items ≡ length rows → Finds (start ∷ []) old new → IsSearched rows start 0 new
search_begins rows start old new below marks found size finds =
    let empty = empty_marked old (length rows) marks found in
    record {
      size = finds.size ∙ size;
      marked = finds.marked empty;
      inside = omega arith;
      sound = λ k among. sound k (among_cases old.found.items finds.more k (subst (λ l. Among l k) finds.added among));
      first = finds.all empty start (inl refl) (omega (arith, below, size));
      followed = λ n none. absurd (omega (arith, none));
    }
  where
    at_start : (k : ℕ) → Among (start ∷ []) k → Reaches rows start k
    at_start k (inl same) = subst (Reaches rows start) (sym same) Here
    at_start k (inr none) = absurd none

    sound : (k : ℕ) → Among old.found.items k ⊎ Among finds.more k → Reaches rows start k
    sound k (inl before) = absurd (subst (λ l. Among l k) found before)
    sound k (inr now) = at_start k (finds.each k now).0

pub search_goes_on : (rows : List (Vec ℕ Global)) (start next : ℕ) (old new : Reach) → next < length old.found.items → IsSearched rows start next old → Finds (row rows (get_or old.found.items next 0)) old new → IsSearched rows start (next + 1) new
search_goes_on rows start next old new inside h finds =
    record {
      size = finds.size ∙ h.size;
      marked = finds.marked h.marked;
      inside =
          let more = length-append old.found.items finds.more in
          let same = ap length finds.added in
          omega (arith, more, same, inside);
      sound = λ k among. sound k (among_cases old.found.items finds.more k (subst (λ l. Among l k) finds.added among));
      first = kept start h.first;
      followed = λ n below j among within. followed n below j (subst (λ i. Among (row rows i) j) (same_at n (omega (arith, below, inside))) among) within;
    }
  where
    kept : (k : ℕ) → Among old.found.items k → Among new.found.items k
    kept k among = subst (λ l. Among l k) (sym finds.added) (among_left old.found.items finds.more k among)

    sound : (k : ℕ) → Among old.found.items k ⊎ Among finds.more k → Reaches rows start k
    sound k (inl before) = h.sound k before
    sound k (inr now) =
        let from = finds.each k now in
        Onward (get_or old.found.items next 0) k (h.sound (get_or old.found.items next 0) (among_at old.found.items next inside)) from.0 (omega (arith, from.1, h.size))

    same_at : (n : ℕ) → n < length old.found.items → get_or new.found.items n 0 ≡ get_or old.found.items n 0
    same_at n below = ap (λ l. get_or l n 0) finds.added ∙ front old.found.items n below
      where
        front : (xs : List ℕ) (n : ℕ) → n < length xs → get_or (xs ++ finds.more) n 0 ≡ get_or xs n 0
        front [] n below = absurd (omega (arith, below))
        front (x ∷ xs) zero below = refl
        front (x ∷ xs) (suc n) below = front xs n (omega (arith, below))

    followed : (n : ℕ) → n < next + 1 → (j : ℕ) → Among (row rows (get_or old.found.items n 0)) j → j < length rows → Among new.found.items j
    followed n below j among within =
        elim (cases_eq n next) [
          | inl same ↦ finds.all h.marked j (subst (λ m. Among (row rows (get_or old.found.items m 0)) j) same among) (omega (arith, within, h.size))
          | inr other ↦ kept j (h.followed n (omega (arith, below, other)) j among within)
        ]

pub search_ends : (rows : List (Vec ℕ Global)) (start next : ℕ) (reach : Reach) → IsSearched rows start next reach → length reach.found.items ≤ next → (k : ℕ) → Among reach.found.items k ↔ Reaches rows start k
search_ends rows start next reach h past k = (h.sound k, all k)
  where
    all : (k : ℕ) → Reaches rows start k → Among reach.found.items k
    all k Here = h.first
    all k (Onward i j from among below) =
        let (n, inside, is) = place_of reach.found.items i (all i from) in
        h.followed n (omega (arith, inside, past)) j (subst (λ m. Among (row rows m) j) (sym is) among) below
