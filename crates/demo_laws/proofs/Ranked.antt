-- Where no process is on or behind a cycle, some numbers rank each behind those that feed it.
use Rattle.std.proofs.Common.{◌≡◌, ◌∙◌, ◌+◌, ◌<◌, ℕ, zero, suc, true, false, cond, List, length, Option, None, Some, refl, subst, inl, inr, arith}
use Rattle.std.specs.List.{slice_get}
use Rattle.std.specs.Option.{IsSomeAnd}
use Rattle.std.proofs.lemmas.Bool.{cases_Bool, cases_eq, cond-false, cond-true}
use Rattle.std.proofs.lemmas.Option.{slice_get_within}
use Rattle.rtl_flat.specs.Levels.{Chain, HasNoEdge, Here, IsNode, Then}
use Rattle.rtl_flat.specs.Process.{Task}
use Rattle.rtl_flat.specs.Flats.{Flat}
use Rattle.event_model.specs.Writes.{put}
use Rattle.demo_clean.proofs.event_laws_proofs.Lengths.{put_at, put_other}
use Rattle.demo_clean.specs.net_order.Order.{IsCyclic}
use Rattle.demo_clean.specs.net_solve.Feeds.{IsFeed}
use Rattle.demo_clean.specs.net_solve.Laws.{Ascends}
use Rattle.demo_laws.proofs.Stable.{Decides, NotNot, decided}

-- the last arrow of a chain
record Last (Arrow : ℕ → ℕ → Type 0) (n p r : ℕ) : Type 0 where
  before : ℕ
  chain : Chain Arrow n p before
  arrow : Arrow before r

last : (Arrow : ℕ → ℕ → Type 0) (m n p r : ℕ) → Chain Arrow m p r → m ≡ suc n → Last Arrow n p r
last Arrow m n p r (Here q) e = absurd (omega (arith, e))
last Arrow m n p r (Then k s q t chain arrow) e =
    let same : k ≡ n = omega (arith, e) in
    record { before = q; chain = subst (λ (j : ℕ). Chain Arrow j s q) same chain; arrow = arrow }

module _ (Arrow : ℕ → ℕ → Type 0) (acyclic : (p n : ℕ) → Chain Arrow (suc n) p p → ⊥) where
  -- a chain of one or more arrows
  abbrev Reach : ℕ → ℕ → Type 0
  Reach n p = (k : ℕ) × Chain Arrow (suc k) n p

  -- ranks of the nodes below a number
  record Ranks (n : ℕ) : Type 0 where
    rank : ℕ → ℕ
    limit : ℕ
    under : (p : ℕ) → p < n → rank p < limit
    ascends : (p q : ℕ) → p < n → q < n → Arrow p q → rank p < rank q

  module _ (n : ℕ) (r : Ranks n) (d : Decides (Reach n) n) where
    -- what the new node leads to comes behind it, and all else before
    abbrev shifted : ℕ → ℕ
    shifted p = cond (d.test p) (r.rank p + r.limit + 1) (r.rank p)

    abbrev ranks : ℕ → ℕ
    ranks = put shifted n r.limit

    at_new : (p : ℕ) → p ≡ n → ranks p ≡ r.limit
    at_new p same = put_at shifted n p r.limit same

    behind : (p : ℕ) → p < n → d.test p ≡ true → ranks p ≡ r.rank p + r.limit + 1
    behind p below is =
        put_other shifted n p r.limit (λ same. absurd (omega (arith, below, same))) ∙ cond-true (d.test p) (r.rank p + r.limit + 1) (r.rank p) is

    ahead : (p : ℕ) → p < n → d.test p ≡ false → ranks p ≡ r.rank p
    ahead p below none =
        put_other shifted n p r.limit (λ same. absurd (omega (arith, below, same))) ∙ cond-false (d.test p) (r.rank p + r.limit + 1) (r.rank p) none

    -- a node that the new one leads to
    reached : (q : ℕ) → q < n → Reach n q → d.test q ≡ true
    reached q below to =
        elim (cases_Bool (d.test q)) [ inl is ↦ is | inr none ↦ absurd (d.fails q below none to) ]

    steps : (p q : ℕ) → p < suc n → q < suc n → Arrow p q → ranks p < ranks q
    steps p q below below' arrow =
        elim (cases_eq p n) as (λ _. ranks p < ranks q) [
          | inl first ↦ elim (cases_eq q n) as (λ _. ranks p < ranks q) [
            | inl second ↦ absurd (acyclic n 0 (Then 0 n n n (Here n) (subst (λ (y : ℕ). Arrow n y) second (subst (λ (x : ℕ). Arrow x q) first arrow))))
            | inr other ↦
                let small : q < n = omega (arith, below', other) in
                let a = at_new p first in
                let b = behind q small (reached q small (0, Then 0 n n q (Here n) (subst (λ (x : ℕ). Arrow x q) first arrow))) in
                omega (arith, a, b)
          ]
          | inr other ↦
              let small : p < n = omega (arith, below, other) in
              elim (cases_eq q n) as (λ _. ranks p < ranks q) [
                | inl second ↦ elim (cases_Bool (d.test p)) as (λ _. ranks p < ranks q) [
                  | inl is ↦
                      let (k, chain) = d.holds p small is in
                      absurd (acyclic n (suc k) (Then (suc k) n p n chain (subst (λ (y : ℕ). Arrow p y) second arrow)))
                  | inr none ↦
                      let a = ahead p small none in
                      let b = at_new q second in
                      let c = r.under p small in
                      omega (arith, a, b, c)
                ]
                | inr another ↦
                    let small' : q < n = omega (arith, below', another) in
                    let rises = r.ascends p q small small' arrow in
                    elim (cases_Bool (d.test p)) as (λ _. ranks p < ranks q) [
                      | inl is ↦
                          let (k, chain) = d.holds p small is in
                          let a = behind p small is in
                          let b = behind q small' (reached q small' (suc k, Then (suc k) n p q chain arrow)) in
                          omega (arith, a, b, rises)
                      | inr none ↦
                          let a = ahead p small none in
                          elim (cases_Bool (d.test q)) as (λ _. ranks p < ranks q) [
                            | inl is ↦ let b = behind q small' is in omega (arith, a, b, rises)
                            | inr none' ↦ let b = ahead q small' none' in omega (arith, a, b, rises)
                          ]
                    ]
              ]
        ]

    all_under : (p : ℕ) → p < suc n → ranks p < r.limit + r.limit + 2
    all_under p below =
        elim (cases_eq p n) as (λ _. ranks p < r.limit + r.limit + 2) [
          | inl same ↦ let a = at_new p same in omega (arith, a)
          | inr other ↦
              let small : p < n = omega (arith, below, other) in
              let c = r.under p small in
              elim (cases_Bool (d.test p)) as (λ _. ranks p < r.limit + r.limit + 2) [
                | inl is ↦ let a = behind p small is in omega (arith, a, c)
                | inr none ↦ let a = ahead p small none in omega (arith, a, c)
              ]
        ]

    inserted : Ranks (suc n)
    inserted = record { rank = ranks; limit = r.limit + r.limit + 2; under = all_under; ascends = steps }

  ranked : (n : ℕ) → NotNot (Ranks n)
  ranked zero none =
      none (record { rank = λ p. 0; limit = 0; under = λ p below. absurd (omega (arith, below)); ascends = λ p q below below' arrow. absurd (omega (arith, below)) })
  ranked (suc n) none = ranked n (λ r. decided (Reach n) n (λ d. none (inserted n r d)))

-- ---- of a design

node_below : (tasks : List Task) (p : ℕ) → IsNode tasks p → p < length tasks
node_below tasks p node = by (slice_get tasks p) refl node
  where
    by : (o : Option Task) → slice_get tasks p ≡ o → IsSomeAnd o (λ task. HasNoEdge task.does) → p < length tasks
    by None is none = absurd none
    by (Some task) is one = slice_get_within tasks p task is

module _ (d : Flat) (no_cycle : (s : ℕ) → IsCyclic d s → ⊥) where
  acyclic_feeds : (p n : ℕ) → Chain (IsFeed d.signals d.tasks) (suc n) p p → ⊥
  acyclic_feeds p n round =
      let end = last (IsFeed d.signals d.tasks) (suc n) n p p round refl in
      no_cycle end.arrow.signal (record {
        process = end.before;
        behind = record { node = p; round = n; cycle = round; length = n; chain = end.chain };
        bit = end.arrow.bit;
        written = end.arrow.written;
      })

  pub some_rank : NotNot ((rank : ℕ → ℕ) × Ascends d rank)
  some_rank none =
      ranked (IsFeed d.signals d.tasks) acyclic_feeds (length d.tasks)
      (λ r. none (r.rank, λ p q arrow. r.ascends p q (node_below d.tasks p arrow.«from») (node_below d.tasks q arrow.to) arrow))
