use Rattle.std.proofs.Common.{◌≡◌, ◌≢◌, ℕ, ◌<◌, ◌≤◌, ◌⊎◌, true, false, List, Option, None, Some, refl, sym, ◌∙◌, arith, inl, inr}
use Rattle.std.specs.Cmp.Lexicographic.{slice_cmp}
use Rattle.std.specs.Ordering.{MatchOrdering, is_lt, nat_cmp, ordering_then}
use Rattle.std.specs.declared.cmp.Ordering.{Ordering}
use Rattle.std.specs.declared.cmp.Ordering.TheVariants.{Less, Equal, Greater}
use Rattle.std.proofs.lemmas.Bool.{true≢false, lt-ltb, le-ltb, ltb-true}
use Rattle.std.proofs.lemmas.Cmp.{ranked}
use Rattle.agenda.specs.Agendas.{is_below, IsAhead, level_at}
use Rattle.agenda.specs.Rankings.{key_of}

-- How numbers come one after another.

-- no two levels are below each other
below_one_way : (a b : Option ℕ) → is_below a b ≡ true → is_below b a ≡ false
below_one_way (Some a) (Some b) e = le-ltb b a (let x : a < b = ltb-true a b e in omega (arith, x))
below_one_way (Some a) None e = refl
below_one_way None b e = absurd (true≢false (sym e))

-- no two numbers are ahead of each other
pub ahead_one_way : (levels : List (Option ℕ)) (p q : ℕ) → IsAhead levels p q → IsAhead levels q p → ⊥
ahead_one_way levels p q (inl x) (inl y) = true≢false (sym y ∙ below_one_way (level_at levels p) (level_at levels q) x)
ahead_one_way levels p q (inl x) (inr y) = true≢false (sym x ∙ y.0)
ahead_one_way levels p q (inr x) (inl y) = true≢false (sym y ∙ x.0)
ahead_one_way levels p q (inr x) (inr y) = omega (arith, x.1, y.1)

-- what doesn't come before is the same or comes after
last_part : (x y : ℕ) (o : Ordering) → MatchOrdering o (x < y) (x ≡ y) (y < x) → is_lt (ordering_then o Equal) ≡ false → y ≤ x
last_part x y Less m e = absurd (true≢false e)
last_part x y Equal m e = omega (arith, m)
last_part x y Greater m e = omega (arith, m)

two_parts : (x y v w : ℕ) (o p : Ordering) → MatchOrdering o (x < y) (x ≡ y) (y < x) → MatchOrdering p (v < w) (v ≡ w) (w < v) → is_lt (ordering_then o (ordering_then p Equal)) ≡ false → (y < x) ⊎ ((y ≡ x) × (w ≤ v))
two_parts x y v w Less p m n e = absurd (true≢false e)
two_parts x y v w Equal p m n e = inr (sym m, last_part v w p n e)
two_parts x y v w Greater p m n e = inl m

-- of two numbers the one that doesn't have the greater key is ahead
ahead_of : (x y : Option ℕ) (a b : ℕ) → a ≢ b → is_lt (slice_cmp nat_cmp (key_of y b) (key_of x a)) ≡ false → (is_below x y ≡ true) ⊎ ((is_below y x ≡ false) × (a < b))
ahead_of (Some x) (Some y) a b ne e =
    elim (two_parts y x b a (nat_cmp y x) (nat_cmp b a) (ranked y x _ refl) (ranked b a _ refl) e) [
      | inl lt ↦ inl (lt-ltb x y lt)
      | inr tie ↦ inr (le-ltb y x (omega (arith, tie.0)), omega (arith, tie.1, ne))
    ]
ahead_of (Some x) None a b ne e = inl refl
ahead_of None (Some y) a b ne e = absurd (true≢false e)
ahead_of None None a b ne e = inr (refl, omega (arith, last_part b a (nat_cmp b a) (ranked b a _ refl) e, ne))

pub ahead_by_key : (levels : List (Option ℕ)) (a b : ℕ) → a ≢ b → is_lt (slice_cmp nat_cmp (key_of (level_at levels b) b) (key_of (level_at levels a) a)) ≡ false → IsAhead levels a b
ahead_by_key levels a b ne e = ahead_of (level_at levels a) (level_at levels b) a b ne e
