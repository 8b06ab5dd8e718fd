-- An order of processes ranks them.
use Rattle.std.proofs.Common.{◌≡◌, ◌<◌, ◌==◌, ℕ, zero, suc, Bool, true, false, List, [], ◌∷◌, length, get_or, if◌then◌else◌, refl, sym, subst, arith}
use Rattle.std.proofs.lemmas.Bool.{eq-eqb, eqb-true}
use Rattle.rtl_flat.specs.Flats.{Flat}
use Rattle.net_rest.specs.event_laws.Steady.{AreLawful}
use Rattle.net_solve.specs.Feeds.{IsFeed}
use Rattle.net_solve.specs.Laws.{AreSame, Ascends, IsOrder}
use Rattle.net_solve.proofs.Same.{same}

-- the first place of a number
abbrev rank : List ℕ → ℕ → ℕ
rank [] p = 0
rank (x ∷ others) p = if x == p then 0 else suc (rank others p)

rank_is : (order : List ℕ) (p j : ℕ) → j < length order → get_or order j 0 ≡ p → (rank order p < length order) × (get_or order (rank order p) 0 ≡ p)
rank_is [] p j inside is = absurd (omega (arith, inside))
rank_is (x ∷ others) p zero inside is =
    subst (λ b. ((if b then 0 else suc (rank others p)) < suc (length others)) × (get_or (x ∷ others) (if b then 0 else suc (rank others p)) 0 ≡ p)) (sym (eq-eqb x p is)) (omega arith, is)
rank_is (x ∷ others) p (suc j) inside is = by (x == p) refl (rank_is others p j (omega (arith, inside)) is)
  where
    by : (b : Bool) → (x == p) ≡ b → (rank others p < length others) × (get_or others (rank others p) 0 ≡ p) → ((if b then 0 else suc (rank others p)) < suc (length others)) × (get_or (x ∷ others) (if b then 0 else suc (rank others p)) 0 ≡ p)
    by true is' found = (omega arith, eqb-true x p is')
    by false none found = let below = found.0 in (omega (arith, below), found.1)

pub same_in_order : (d : Flat) (order : List ℕ) → AreLawful d → IsOrder d order → AreSame d
same_in_order d order lawful are = same d (rank order) lawful ascends
  where
    ascends : Ascends d (rank order)
    ascends p q arrow =
        let (i, below, here) = are.all p arrow.«from» in
        let (j, below', there) = are.all q arrow.to in
        let one = rank_is order p i below here in
        let other = rank_is order q j below' there in
        are.behind (rank order p) (rank order q) one.0 other.0
        (subst (λ x. IsFeed d.signals d.tasks x (get_or order (rank order q) 0)) (sym one.1)
        (subst (λ y. IsFeed d.signals d.tasks p y) (sym other.1) arrow))
