-- What comes of a process by its level, within a number that the design determines.
use Rattle.std.proofs.Common.{◌≡◌, ◌+◌, ◌*◌, ◌<◌, ◌≤◌, ℕ, zero, suc, Bool, true, false, cond, length, Option, None, Some, refl, ap, inl, inr, arith}
use Rattle.std.proofs.lemmas.Bool.{cases_Bool, false≢true, lt-ltb, ltb-true}
use Rattle.std.proofs.lemmas.Nat.{mul-le}
use Rattle.event_model.specs.Policies.{is_below, one_if}
use Rattle.rtl_flat.specs.Flats.{Flat}
use Rattle.event_settling.proofs.Totals.{total, total_less, total_most, total_same}
use Rattle.event_settling.specs.Ending.{come_of, wave}

-- ---- levels

below_then : (a b c : Option ℕ) → is_below a b ≡ true → is_below b c ≡ true → is_below a c ≡ true
below_then None b c h k = absurd (false≢true h)
below_then (Some a) None c h k = absurd (false≢true k)
below_then (Some a) (Some b) None h k = refl
below_then (Some a) (Some b) (Some c) h k =
    let one = ltb-true a b h in
    let two = ltb-true b c k in
    lt-ltb a c (omega (arith, one, two))

never_below : (a : Option ℕ) → is_below a a ≡ false
never_below None = refl
never_below (Some a) =
    elim (cases_Bool (is_below (Some a) (Some a))) [
      | inl is ↦ let less = ltb-true a a is in absurd (omega (arith, less))
      | inr not ↦ not
    ]

one_most : (b c : Bool) → (b ≡ true → c ≡ true) → one_if b ≤ one_if c
one_most true true h = omega arith
one_most true false h = absurd (false≢true (h refl))
one_most false true h = omega arith
one_most false false h = omega arith

one_at_most : (b : Bool) → one_if b ≤ 1
one_at_most true = omega arith
one_at_most false = omega arith

-- ---- what comes of a process

pub come_more : (n own i j : ℕ) → i ≤ j → come_of n own i ≤ come_of n own j
come_more n own zero zero less = omega arith
come_more n own zero (suc j) less = omega arith
come_more n own (suc i) zero less = absurd (omega (arith, less))
come_more n own (suc i) (suc j) less =
    let rest = come_more n own i j (omega (arith, less)) in
    let all = mul-le n (come_of n own i) n (come_of n own j) (omega arith) rest in
    omega (arith, all)

-- what comes of each process that it wakes
abbrev behind : ℕ → ℕ → ℕ → ℕ
behind n own zero = 0
behind n own (suc levels) = come_of n own levels

come_is : (n own levels : ℕ) → behind n own levels * n + own ≤ come_of n own levels
come_is n own zero = omega arith
come_is n own (suc levels) = omega arith

behind_most : (n own a b : ℕ) → a < b → come_of n own a ≤ behind n own b
behind_most n own a zero less = absurd (omega (arith, less))
behind_most n own a (suc b) less = come_more n own a b (omega (arith, less))

module _ (d : Flat) (level : ℕ → Option ℕ) where
  -- how many processes are above one
  abbrev rank : ℕ → ℕ
  rank p = total (length d.tasks) (λ q. one_if (is_below (level p) (level q)))

  rank_less : (p q : ℕ) → q < length d.tasks → is_below (level p) (level q) ≡ true → rank q < rank p
  rank_less p q inside is =
      let none = ap one_if (never_below (level q)) in
      let one = ap one_if is in
      let less = total_less (length d.tasks) q 1 (λ r. one_if (is_below (level q) (level r))) (λ r. one_if (is_below (level p) (level r))) inside (omega (arith, none, one))
      (λ r below other. one_most (is_below (level q) (level r)) (is_below (level p) (level r)) (λ further. below_then (level p) (level q) (level r) is further)) in
      omega (arith, less)

  rank_most : (p : ℕ) → rank p ≤ length d.tasks
  rank_most p =
      let most = total_most (length d.tasks) (λ q. one_if (is_below (level p) (level q))) (λ q. 1) (λ q below. one_at_most (is_below (level p) (level q))) in
      let same = total_same (length d.tasks) 1 in
      omega (arith, most, same)

  -- what comes of a process
  abbrev pub share : ℕ → ℕ → ℕ
  share own p = come_of (length d.tasks) own (rank p)

  -- what comes of one that another may wake
  abbrev pub led : (ℕ → ℕ) → ℕ → ℕ → ℕ
  led a p q = cond (is_below (level p) (level q)) (a q) 0

  led_most : (own p q : ℕ) → q < length d.tasks → led (share own) p q ≤ behind (length d.tasks) own (rank p)
  led_most own p q inside = by_test (is_below (level p) (level q)) refl
    where
      by_test : (b : Bool) → is_below (level p) (level q) ≡ b → cond b (share own q) 0 ≤ behind (length d.tasks) own (rank p)
      by_test true is = behind_most (length d.tasks) own (rank q) (rank p) (rank_less p q inside is)
      by_test false is = omega arith

  pub led_within : (own p : ℕ) → total (length d.tasks) (led (share own) p) + own ≤ share own p
  led_within own p =
      let n = length d.tasks in
      let each = total_most n (led (share own) p) (λ q. behind n own (rank p)) (λ q below. led_most own p q below) in
      let same = total_same n (behind n own (rank p)) in
      let all = come_is n own (rank p) in
      omega (arith, each, same, all)

  pub all_within : (own : ℕ) → total (length d.tasks) (share own) + own ≤ wave d own
  all_within own =
      let n = length d.tasks in
      let each = total_most n (share own) (λ p. come_of n own n) (λ p below. come_more n own (rank p) n (rank_most p)) in
      let same = total_same n (come_of n own n) in
      let all = come_is n own (suc n) in
      omega (arith, each, same, all)
