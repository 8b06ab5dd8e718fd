-- Processes without edges can be put in an order by their levels.
use Rattle.std.proofs.Common.{◌≡◌, ◌≢◌, ◌<◌, ◌≤◌, ℕ, zero, suc, List, [], ◌∷◌, length, get_or, Option, None, Some, refl, sym, ap, subst, inl, inr, arith}
use Rattle.std.specs.Prelude.{◌⊎◌}
use Rattle.std.specs.List.{slice_get}
use Rattle.std.specs.Option.{IsSomeAnd}
use Rattle.std.proofs.lemmas.Bool.{cases_eq, cases_lt}
use Rattle.rtl_flat.specs.Levels.{HasNoEdge, IsNode}
use Rattle.rtl_flat.specs.Process.{Assign, Comb, Doing, Edge', Task}
use Rattle.rtl_flat.specs.Flats.{Flat}
use Rattle.sign_unknown.specs.sign_cycles.net_rest.Rest.{IsSolvable}
use Rattle.net_solve.specs.Laws.{IsOrder}

-- ---- members

abbrev In : ℕ → List ℕ → Type 0
In z [] = ⊥
In z (y ∷ ys) = (z ≡ y) ⊎ In z ys

in_at : (xs : List ℕ) (j : ℕ) → j < length xs → In (get_or xs j 0) xs
in_at [] j below = absurd (omega (arith, below))
in_at (x ∷ xs) zero below = inl refl
in_at (x ∷ xs) (suc j) below = inr (in_at xs j (omega (arith, below)))

at_in : (xs : List ℕ) (z : ℕ) → In z xs → (j : ℕ) × (j < length xs) × (get_or xs j 0 ≡ z)
at_in [] z is = absurd is
at_in (x ∷ xs) z (inl same) = (0, omega arith, sym same)
at_in (x ∷ xs) z (inr there) = let (j, below, same) = at_in xs z there in (suc j, omega (arith, below), same)

-- ---- processes without edges

node_or : (tasks : List Task) (p : ℕ) → IsNode tasks p ⊎ (IsNode tasks p → ⊥)
node_or tasks p = by_task (slice_get tasks p)
  where
    by_doing : (does : Doing) → HasNoEdge does ⊎ (HasNoEdge does → ⊥)
    by_doing (Assign target e) = inl tt
    by_doing (Comb list body) = inl tt
    by_doing (Edge' events body) = inr (λ is. is)

    by_task : (o : Option Task) → IsSomeAnd o (λ task. HasNoEdge task.does) ⊎ (IsSomeAnd o (λ task. HasNoEdge task.does) → ⊥)
    by_task None = inr (λ is. is)
    by_task (Some task) = by_doing task.does

node_inside : (tasks : List Task) (p : ℕ) → IsNode tasks p → p < length tasks
node_inside [] p is = absurd is
node_inside (task ∷ tasks) zero is = omega arith
node_inside (task ∷ tasks) (suc p) is = let below = node_inside tasks p is in omega (arith, below)

-- ---- lists in order

module _ (level : ℕ → ℕ) where
  -- one comes before another, which differs from it
  abbrev Before : ℕ → ℕ → Type 0
  Before x y = (level x ≤ level y) × (x ≢ y)

  abbrev IsFirst : ℕ → List ℕ → Type 0
  IsFirst x [] = Unit {0}
  IsFirst x (y ∷ ys) = Before x y × IsFirst x ys

  abbrev AreOrdered : List ℕ → Type 0
  AreOrdered [] = Unit {0}
  AreOrdered (x ∷ xs) = IsFirst x xs × AreOrdered xs

  first_at : (x : ℕ) (xs : List ℕ) → IsFirst x xs → (j : ℕ) → j < length xs → Before x (get_or xs j 0)
  first_at x [] is j below = absurd (omega (arith, below))
  first_at x (y ∷ ys) is zero below = is.0
  first_at x (y ∷ ys) is (suc j) below = first_at x ys is.1 j (omega (arith, below))

  ordered_at : (xs : List ℕ) → AreOrdered xs → (i j : ℕ) → i < j → j < length xs → Before (get_or xs i 0) (get_or xs j 0)
  ordered_at [] are i j less below = absurd (omega (arith, below))
  ordered_at (x ∷ xs) are i zero less below = absurd (omega (arith, less))
  ordered_at (x ∷ xs) are zero (suc j) less below = first_at x xs are.0 j (omega (arith, below))
  ordered_at (x ∷ xs) are (suc i) (suc j) less below =
      ordered_at xs are.1 i j (omega (arith, less)) (omega (arith, below))

  -- what is below a first one is first too
  first_from : (x y : ℕ) → level x ≤ level y → (ys : List ℕ) → IsFirst y ys → ((z : ℕ) → In z ys → z < x) → IsFirst x ys
  first_from x y less [] is below = tt
  first_from x y less (z ∷ zs) is below =
      let up = is.0.0 in
      let small = below z (inl refl) in (
        (omega (arith, less, up), λ same. omega (arith, same, small)),
        first_from x y less zs is.1 (λ w there. below w (inr there)),
      )

  -- ---- one more

  record IsInserted (x : ℕ) (ys zs : List ℕ) : Type 0 where
    ordered : AreOrdered zs
    first : (z : ℕ) → IsFirst z ys → Before z x → IsFirst z zs
    has : In x zs
    keeps : (z : ℕ) → In z ys → In z zs
    only : (z : ℕ) → In z zs → (z ≡ x) ⊎ In z ys

  inserted : (x : ℕ) (ys : List ℕ) → AreOrdered ys → ((z : ℕ) → In z ys → z < x) → (zs : List ℕ) × IsInserted x ys zs
  inserted x [] are below = (
    x ∷ [],
    record {
      ordered = (tt, tt);
      first = λ z is before. (before, tt);
      has = inl refl;
      keeps = λ z is. absurd is;
      only = λ z is. is;
    },
  )
  inserted x (y ∷ ys) are below =
      elim (cases_lt (level x) (level y)) [
        | inl less ↦
            let small = below y (inl refl) in (
              x ∷ y ∷ ys,
              record {
                ordered = (
                  (
                    (omega (arith, less), λ same. omega (arith, same, small)),
                    first_from x y (omega (arith, less)) ys are.0
                        (λ z there. below z (inr there)),
                  ),
                  are,
                );
                first = λ z is before. (before, is);
                has = inl refl;
                keeps = λ z is. inr is;
                only = λ z is. is;
              },
            )
        | inr not_less ↦
            let small = below y (inl refl) in
            let (zs, is) = inserted x ys are.1 (λ z there. below z (inr there)) in (
              y ∷ zs,
              record {
                ordered = (is.first y are.0 (omega (arith, not_less), λ same. omega (arith, same, small)), is.ordered);
                first = λ z first before. (first.0, is.first z first.1 before);
                has = inr is.has;
                keeps = λ z there. elim there [ inl same ↦ inl same | inr behind ↦ inr (is.keeps z behind) ];
                only = λ z there.
                    elim there [
                      | inl same ↦ inr (inl same)
                      | inr behind ↦ elim (is.only z behind) [ inl same ↦ inl same | inr old ↦ inr (inr old) ]
                    ];
              },
            )
      ]

  -- ---- all below a number

  record AreNodesTo (tasks : List Task) (n : ℕ) (xs : List ℕ) : Type 0 where
    ordered : AreOrdered xs
    below : (z : ℕ) → In z xs → z < n
    nodes : (z : ℕ) → In z xs → IsNode tasks z
    all : (z : ℕ) → z < n → IsNode tasks z → In z xs

  nodes_to : (tasks : List Task) (n : ℕ) → (xs : List ℕ) × AreNodesTo tasks n xs
  nodes_to tasks zero = (
    [],
    record {
      ordered = tt;
      below = λ z is. absurd is;
      nodes = λ z is. absurd is;
      all = λ z less. absurd (omega (arith, less));
    },
  )
  nodes_to tasks (suc n) =
      let (xs, are) = nodes_to tasks n in
      elim (node_or tasks n) [
        | inl node ↦
            let (zs, is) = inserted n xs are.ordered are.below in (
              zs,
              record {
                ordered = is.ordered;
                below = λ z there.
                    elim (is.only z there) [
                      | inl same ↦ omega (arith, same)
                      | inr old ↦ let less = are.below z old in omega (arith, less)
                    ];
                nodes = λ z there.
                    elim (is.only z there) [ inl same ↦ subst (IsNode tasks) (sym same) node | inr old ↦ are.nodes z old ];
                all = λ z less there.
                    elim (cases_eq z n) [
                      | inl same ↦ subst (λ y. In y zs) (sym same) is.has
                      | inr other ↦ is.keeps z (are.all z (omega (arith, less, other)) there)
                    ];
              },
            )
        | inr none ↦ (
          xs,
          record {
            ordered = are.ordered;
            below = λ z there. let less = are.below z there in omega (arith, less);
            nodes = are.nodes;
            all = λ z less there.
                elim (cases_eq z n) [
                  | inl same ↦ absurd (none (subst (IsNode tasks) same there))
                  | inr other ↦ are.all z (omega (arith, less, other)) there
                ];
          },
        )
      ]

-- an order by levels
pub some_order : (d : Flat) (level : ℕ → ℕ) → IsSolvable d level → (order : List ℕ) × IsOrder d order
some_order d level solvable =
    let (order, are) = nodes_to level d.tasks (length d.tasks) in (
      order,
      record {
        nodes = λ j below. are.nodes (get_or order j 0) (in_at order j below);
        all = λ p node. at_in order p (are.all p (node_inside d.tasks p node) node);
        once = λ i j less below. (ordered_at level order are.ordered i j less below).1;
        behind = λ i j below below' feed.
            let up = solvable.ascends (get_or order i 0) (get_or order j 0)
            (record {
              «from» = feed.«from»;
              to = feed.to;
              signal = feed.signal;
              bit = feed.bit;
              written = feed.written;
              wanted = inl feed.read;
            }) in
            elim (cases_lt i j) [
              | inl less ↦ less
              | inr not_less ↦
                  elim (cases_eq i j) [
                    | inl same ↦ let alike = ap (λ x. level (get_or order x 0)) same in absurd (omega (arith, up, alike))
                    | inr other ↦
                        let back = (ordered_at level order are.ordered j i (omega (arith, not_less, other)) below).0 in
                        absurd (omega (arith, up, back))
                  ]
            ];
      },
    )
