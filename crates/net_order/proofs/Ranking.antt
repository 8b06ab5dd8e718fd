-- Processes in the order of their depths.
use Rattle.std.specs.Prelude.{◌≢◌, ◌⊎◌, ◌==◌, cond, unwrap_or}
use Rattle.std.specs.List.{AllPairs, slice_get}
use Rattle.std.specs.List.Sorted.{IsPermutation, IsSortedBy}
use Rattle.std.specs.Ordering.{is_lt, nat_cmp}
use Rattle.std.proofs.Common.{Less, Equal, Greater, ℕ, zero, suc, ◌≡◌, ◌∙◌, ◌<◌, ◌≤◌, ◌+◌, arith, true, false, List, [], ◌∷◌, ◌++◌, length, map, get_or, Option, Some, None, refl, sym, ap, subst, inl, inr}
use Rattle.std.proofs.lemmas.Bool.{cases_lt, lt-ltb, true≢false}
use Rattle.std.proofs.lemmas.Bool.Decides.{Decides-eqb}
use Rattle.std.proofs.lemmas.Cmp.{nat_cmp_total, nat_eq_equiv}
use Rattle.std.proofs.lemmas.List.{get_or-map, length-append, length-map}
use Rattle.std.proofs.lemmas.List.Quantifiers.{all_pairs_push}
use Rattle.std.proofs.lemmas.List.MinMax.{ranks_by}
use Rattle.std.proofs.lemmas.List.Sorted.{Contains-permutation, IsPermutation-map, IsPermutation-sym, sorted_far}
use Rattle.std.proofs.lemmas.Option.{slice_get_within}
use Rattle.std.proofs.lemmas.Map.Keys.{IsDistinct-IsPermutation}
use Rattle.std.proofs.lemmas.Map.Made.{AllPairs-from_IsDistinct, IsDistinct-from_AllPairs}
use Rattle.rtl_flat.specs.declared.act.ProcId.{ProcId}
use Rattle.rtl_flat.specs.Levels.{HasNoEdge, IsNode}
use Rattle.rtl_flat.specs.Process.{Task}
use Rattle.net_order.specs.declared.rank.Placed.{Placed}
use Rattle.net_order.specs.Ranks.{ArePlaced, In, IsRanked, depth_at}
use Rattle.net_solve.specs.Laws.{place}
use Rattle.check_found.proofs.rtl_scan_proofs.Feeding.{out_of}
use Rattle.net_order.proofs.Joining.{in_at, in_push}

abbrev pub nothing : Placed
nothing = record { process = 0; depth = 0 }

abbrev made : ℕ → ℕ → Placed
made process depth = record { process = process; depth = depth }

abbrev pub number_of : Placed → ℕ
number_of x = x.process

module _ (tasks : List Task) (depths : List (Option ℕ)) where
  abbrev Has : ℕ → Placed → Type 0
  Has n x = (x.process < n) × IsNode tasks x.process × (get_or depths x.process None ≡ Some x.depth)

  pub places_none : (placed : List Placed) → placed ≡ [] → ArePlaced tasks depths 0 placed
  places_none placed empty = subst (λ (xs : List Placed). ArePlaced tasks depths 0 xs) (sym empty) (record {
    each = λ x. (λ h. absurd h, λ h. absurd (let below = h.0 in omega arith));
    once = λ i j d less below. absurd (omega arith);
  })

  -- a process that has no place
  pub places_same : (n : ℕ) (placed : List Placed) → ((depth : ℕ) → IsNode tasks n → get_or depths n None ≡ Some depth → ⊥) → ArePlaced tasks depths n placed → ArePlaced tasks depths (n + 1) placed
  places_same n placed none h = record {
    each = λ x. (
      λ there. let (below, node, depth) = (h.each x).0 there in (omega arith, node, depth),
      λ has. elim (cases_lt x.process n) as (λ _. In x placed) [
        | inl below ↦ (h.each x).1 (below, has.1, has.2)
        | inr last ↦
            let below = has.0 in
            let e : x.process ≡ n = omega (arith, below, last) in
            absurd (none x.depth (subst (λ (p : ℕ). IsNode tasks p) e has.1) (ap (λ p. get_or depths p None) (sym e) ∙ has.2))
      ],
    );
    once = h.once;
  }

  same_placed : (x y : Placed) → x.process ≡ y.process → x.depth ≡ y.depth → x ≡ y
  same_placed x y one other =
      ap (λ p. made p x.depth) one ∙ ap (λ q. made y.process q) other

  same_depth : (o : Option ℕ) (a b : ℕ) → o ≡ Some a → o ≡ Some b → a ≡ b
  same_depth o a b one other = cc

  -- one that has
  pub places_more : (n depth : ℕ) (placed new : List Placed) → IsNode tasks n → get_or depths n None ≡ Some depth → new ≡ placed ++ record { process = n; depth = depth } ∷ [] → ArePlaced tasks depths n placed → ArePlaced tasks depths (n + 1) new
  places_more n depth placed new node has pushed h =
      subst (λ (xs : List Placed). ArePlaced tasks depths (n + 1) xs) (sym pushed) (record {
        each = λ x. (
          λ there. elim ((in_push placed (record { process = n; depth = depth }) x).0 there) as (λ _. Has (n + 1) x) [
            | inl old ↦ let (below, node', depth') = (h.each x).0 old in (omega arith, node', depth')
            | inr e ↦ subst (λ (y : Placed). Has (n + 1) y) (sym e) (omega arith, node, has)
          ],
          λ is. (in_push placed (record { process = n; depth = depth }) x).1 (elim (cases_lt x.process n) as (λ _. In x placed ⊎ (x ≡ record { process = n; depth = depth })) [
            | inl below ↦ inl ((h.each x).1 (below, is.1, is.2))
            | inr last ↦
                let below = is.0 in
                let e : x.process ≡ n = omega (arith, below, last) in
                inr (same_placed x (record { process = n; depth = depth }) e
                (same_depth (get_or depths n None) x.depth depth (ap (λ p. get_or depths p None) (sym e) ∙ is.2) has))
          ]),
        );
        once = subst (λ (ps : List ℕ). AllPairs (λ p q. p ≢ q) ps) (sym (mapped placed)) (all_pairs_push (λ p q. p ≢ q) (map number_of placed) n h.once apart);
      })
    where
      mapped : (xs : List Placed) → map number_of (xs ++ record { process = n; depth = depth } ∷ []) ≡ map number_of xs ++ n ∷ []
      mapped [] = refl
      mapped (x ∷ xs) = ap (λ ps. x.process ∷ ps) (mapped xs)

      apart : (k d : ℕ) → k < length (map number_of placed) → get_or (map number_of placed) k d ≢ n
      apart k d inside e =
          let inside' : k < length placed = let count = length-map placed number_of in omega (arith, count, inside) in
          let there = (in_at placed (get_or placed k nothing) nothing).1 (k, inside', refl) in
          let less = ((h.each (get_or placed k nothing)).0 there).0 in
          let is : get_or (map number_of placed) k d ≡ (get_or placed k nothing).process = get_or-map number_of placed k nothing d inside' in
          omega (arith, less, is, e)

  -- ---- sorted

  module _ (placed sorted : List Placed) (order : List ℕ) (h : ArePlaced tasks depths (length tasks) placed) (moved : IsPermutation placed sorted) (up : IsSortedBy (λ x y. is_lt (nat_cmp x.depth y.depth)) sorted) (same_length : length order ≡ length sorted) (same : (j : ℕ) → j < length sorted → place order j ≡ (get_or sorted j nothing).process) where
    has_at : (j : ℕ) → j < length sorted → Has (length tasks) (get_or sorted j nothing)
    has_at j inside =
        let x = get_or sorted j nothing in
        let (k, below, is) = Contains-permutation sorted placed x (IsPermutation-sym placed sorted moved) (j, inside, at_default sorted j inside) in
        (h.each x).0 ((in_at placed x x).1 (k, below, is))
      where
        at_default : (xs : List Placed) (j : ℕ) → j < length xs → get_or xs j (get_or xs j nothing) ≡ get_or xs j nothing
        at_default [] j below = absurd (omega arith)
        at_default (x ∷ xs) zero below = refl
        at_default (x ∷ xs) (suc j) below = at_default xs j (omega arith)

    one_has : (j : ℕ) → j < length order → IsNode tasks (place order j) × ((depth : ℕ) × (get_or depths (place order j) None ≡ Some depth))
    one_has j inside =
        let inside' : j < length sorted = omega (arith, inside, same_length) in
        let (below, node, depth) = has_at j inside' in
        let e = sym (same j inside') in
        (subst (λ (p : ℕ). IsNode tasks p) e node, ((get_or sorted j nothing).depth, subst (λ (p : ℕ). get_or depths p None ≡ Some (get_or sorted j nothing).depth) e depth))

    depth_is : (j : ℕ) → j < length order → depth_at depths (place order j) ≡ (get_or sorted j nothing).depth
    depth_is j inside =
        let inside' : j < length sorted = omega (arith, inside, same_length) in
        let (below, node, depth) = has_at j inside' in
        ap (λ p. unwrap_or (get_or depths p None) 0) (same j inside') ∙ ap (λ o. unwrap_or o 0) depth

    distinct : AllPairs (λ p q. p ≢ q) (map number_of sorted)
    distinct =
        AllPairs-from_IsDistinct Decides-eqb (map number_of sorted)
        (IsDistinct-IsPermutation (λ x y. x == y) flips (map number_of placed) (map number_of sorted) (IsPermutation-map number_of placed sorted moved)
        (IsDistinct-from_AllPairs Decides-eqb (map number_of placed) h.once))
      where
        flips : (x y : ℕ) → (x == y) ≡ (y == x)
        flips = nat_eq_equiv.symm

    no_greater : (a b : ℕ) → is_lt (nat_cmp b a) ≡ false → a ≤ b
    no_greater a b is =
        elim (cases_lt b a) as (λ _. a ≤ b) [
          | inl less ↦ absurd (true≢false (sym (less_is b a less) ∙ is))
          | inr none ↦ none
        ]
      where
        less_is : (x y : ℕ) → x < y → is_lt (nat_cmp x y) ≡ true
        less_is x y h = ap (λ c. is_lt (cond c Less (cond (x == y) Equal Greater))) (lt-ltb x y h)

    pub ranked_are : IsRanked tasks depths order
    ranked_are = record {
      nodes = one_has;
      all = λ p depth node has.
          let x : Placed = record { process = p; depth = depth } in
          let below : p < length tasks = inside_tasks p node in
          let (k, inside, is) = (in_at placed x x).0 ((h.each x).1 (below, node, has)) in
          let (j, inside', is') = Contains-permutation placed sorted x moved (k, inside, is) in
          (j, omega (arith, inside', same_length), same j inside' ∙ ap number_of (at_any sorted j x nothing inside' ∙ is'));
      once = λ i j less inside e.
          let inside' : j < length sorted = omega (arith, inside, same_length) in
          let below : i < length sorted = omega (arith, less, inside') in
          let count = length-map sorted number_of in
          distinct i j 0 less (omega (arith, inside', count))
          (get_or-map number_of sorted i nothing 0 below ∙ (sym (same i below) ∙ (e ∙ (same j inside' ∙ sym (get_or-map number_of sorted j nothing 0 inside')))));
      rising = λ i j less inside.
          let inside' : j < length sorted = omega (arith, inside, same_length) in
          let far = sorted_far (λ x y. is_lt (nat_cmp x.depth y.depth)) (ranks_by nat_cmp_total (λ (x : Placed). x.depth)) sorted up i j nothing less inside' in
          let one = depth_is i (omega (arith, less, inside)) in
          let other = depth_is j inside in
          let le = no_greater (get_or sorted i nothing).depth (get_or sorted j nothing).depth far in
          omega (arith, le, one, other);
    }
      where
        inside_tasks : (p : ℕ) → IsNode tasks p → p < length tasks
        inside_tasks p node =
            let (task, at, no_edge) = out_of (λ t. HasNoEdge t.does) (slice_get tasks p) node in slice_get_within tasks p task at

        at_any : (xs : List Placed) (j : ℕ) (d e : Placed) → j < length xs → get_or xs j e ≡ get_or xs j d
        at_any [] j d e below = absurd (omega arith)
        at_any (x ∷ xs) zero d e below = refl
        at_any (x ∷ xs) (suc j) d e below = at_any xs j d e (omega arith)

-- ---- the order as it is written

abbrev pub numbers_of : List ProcId → List ℕ
numbers_of order = map (λ (p : ProcId). p.0) order

-- the first processes of some that are placed
pub record AreFirst (sorted : List Placed) (n : ℕ) (order : List ProcId) : Type 0 where
  pub count : length order ≡ n
  pub each : (j : ℕ) → j < n → place (numbers_of order) j ≡ (get_or sorted j nothing).process

pub first_none : (sorted : List Placed) (order : List ProcId) → order ≡ [] → AreFirst sorted 0 order
first_none sorted order empty = record { count = ap length empty; each = λ j below. absurd (omega (arith, below)) }

place_push : (order : List ProcId) (p : ProcId) (j : ℕ) → j < length order → place (numbers_of (order ++ p ∷ [])) j ≡ place (numbers_of order) j
place_push [] p j below = absurd (omega (arith, below))
place_push (x ∷ order) p zero below = refl
place_push (x ∷ order) p (suc j) below = place_push order p j (omega (arith, below))

place_last : (order : List ProcId) (p : ProcId) (j : ℕ) → j ≡ length order → place (numbers_of (order ++ p ∷ [])) j ≡ p.0
place_last [] p zero is = refl
place_last [] p (suc j) is = absurd (omega (arith, is))
place_last (x ∷ order) p zero is = absurd (omega (arith, is))
place_last (x ∷ order) p (suc j) is = place_last order p j (omega (arith, is))

pub first_more : (sorted : List Placed) (n : ℕ) (p : ProcId) (order new : List ProcId) → p.0 ≡ (get_or sorted n nothing).process → new ≡ order ++ p ∷ [] → AreFirst sorted n order → AreFirst sorted (n + 1) new
first_more sorted n p order new number pushed are =
    subst (λ (all : List ProcId). AreFirst sorted (n + 1) all) (sym pushed) (record {
      count = let count = are.count in length-append order (p ∷ []) ∙ ap (λ m. m + 1) count;
      each = λ j below. elim (cases_lt j n) as (λ _. place (numbers_of (order ++ p ∷ [])) j ≡ (get_or sorted j nothing).process) [
        | inl less ↦ let count = are.count in place_push order p j (omega (arith, less, count)) ∙ are.each j less
        | inr last ↦
            let count = are.count in
            let e : j ≡ n = omega (arith, below, last) in
            place_last order p j (omega (arith, e, count)) ∙ (number ∙ ap (λ m. (get_or sorted m nothing).process) (sym e))
      ];
    })

module _ (tasks : List Task) (depths : List (Option ℕ)) where
  pub ranked_all : (placed sorted : List Placed) (order : List ProcId) → ArePlaced tasks depths (length tasks) placed → IsPermutation placed sorted → IsSortedBy (λ x y. is_lt (nat_cmp x.depth y.depth)) sorted → AreFirst sorted (length sorted) order → IsRanked tasks depths (numbers_of order)
  ranked_all placed sorted order are moved up first =
      ranked_are tasks depths placed sorted (numbers_of order) are moved up (length-map order (λ (p : ProcId). p.0) ∙ first.count) first.each
