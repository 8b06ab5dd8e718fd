use Rattle.std.proofs.Common.{◌≡◌, ◌≢◌, ℕ, suc, ◌+◌, ◌<◌, ◌≤◌, Bool, true, false, cond, List, [], ◌∷◌, length, set, replicate, take, refl, sym, ◌∙◌, ap, inl, inr, arith}
use Rattle.std.proofs.lemmas.Bool.{cases_lt, cases_order, cases_Bool, true≢false}
use Rattle.std.proofs.lemmas.List.{get_or_past, get_or-set_same, get_or-set_other, get_or-replicate, length-replicate, set-get_or, take-take}
use Rattle.std.proofs.lemmas.List.Sums.{sum_by-set, sum_by_more, sum_by-take-le, count_by-le-length}
use Rattle.rank_set.specs.Ranks.{flag, members, IsEmpty, IsLeast, IsGreatest, IsNth}

-- What callers know of a set after each call.

-- a member is below the size
pub member_within : (flags : List Bool) (k : ℕ) → flag flags k ≡ true → k < length flags
member_within flags k e =
    elim (cases_lt k (length flags)) [
      | inl lt ↦ lt
      | inr ge ↦ absurd (true≢false (sym e ∙ get_or_past flags k false ge))
    ]

-- the new set has no member
pub flag-replicate : (size k : ℕ) → flag (replicate size false) k ≡ false
flag-replicate size k =
    elim (cases_lt k size) [
      | inl lt ↦ get_or-replicate size k false false lt
      | inr ge ↦ get_or_past (replicate size false) k false (let e = length-replicate size false in omega arith)
    ]

-- the rank that was inserted is a member, and the one that was removed is none
pub flag-set_same : (flags : List Bool) (rank : ℕ) (b : Bool) → rank < length flags → flag (set flags rank b) rank ≡ b
flag-set_same flags rank b lt = get_or-set_same flags rank b false lt

-- the other ranks stay as they are
pub flag-set_other : (flags : List Bool) (rank k : ℕ) (b : Bool) → k ≢ rank → flag (set flags rank b) k ≡ flag flags k
flag-set_other flags rank k b ne = get_or-set_other flags rank k b false ne

-- to insert a member or to remove what is none changes nothing
pub set_again : (flags : List Bool) (rank : ℕ) (b : Bool) → rank < length flags → flag flags rank ≡ b → set flags rank b ≡ flags
set_again flags rank b lt e = ap (λ v. set flags rank v) (sym e) ∙ set-get_or flags rank false

-- to insert a rank that was none counts one more
pub members-insert : (flags : List Bool) (rank : ℕ) → rank < length flags → flag flags rank ≡ false → members (set flags rank true) ≡ members flags + 1
members-insert flags rank lt e =
    let f = sum_by-set (λ b. cond b 1 0) flags rank true false lt in
    let g : cond {A = ℕ} (flag flags rank) 1 0 ≡ 0 = ap (λ b. cond b 1 0) e in
    omega (arith, f, g)

-- to remove a member counts one fewer
pub members-remove : (flags : List Bool) (rank : ℕ) → rank < length flags → flag flags rank ≡ true → members (set flags rank false) + 1 ≡ members flags
members-remove flags rank lt e =
    let f = sum_by-set (λ b. cond b 1 0) flags rank false false lt in
    let g : cond {A = ℕ} (flag flags rank) 1 0 ≡ 1 = ap (λ b. cond b 1 0) e in
    omega (arith, f, g)

-- there are no more members than ranks
pub members-le-length : (flags : List Bool) → members flags ≤ length flags
members-le-length flags = count_by-le-length (λ b. b) flags

-- where some rank is a member, the count is above 0
pub counted_member : (flags : List Bool) (k : ℕ) → flag flags k ≡ true → 0 < members flags
counted_member flags k e =
    let f = members-remove flags k (member_within flags k e) e in
    omega (arith, f)

-- where the count is above 0, some rank is a member
pub some_member : (flags : List Bool) → 0 < members flags → (k : ℕ) × (flag flags k ≡ true)
some_member [] h = absurd (omega (arith, h))
some_member (true ∷ flags) h = (0, refl)
some_member (false ∷ flags) h =
    let rest : 0 < members flags = omega (arith, h) in
    let k = some_member flags rest in
    (suc k.0, k.1)

-- where no rank is a member, the count is 0
pub members_of_empty : (flags : List Bool) → IsEmpty flags → members flags ≡ 0
members_of_empty flags none =
    elim (cases_lt 0 (members flags)) [
      | inl some ↦ (let k = some_member flags some in absurd (true≢false (sym k.1 ∙ none k.0)))
      | inr le ↦ (let f : members flags ≤ 0 = le in omega arith)
    ]

-- where the count is 0, no rank is a member
pub empty_of_members : (flags : List Bool) → members flags ≡ 0 → IsEmpty flags
empty_of_members flags e = λ k.
    elim (cases_Bool (flag flags k)) [
      | inl there ↦ absurd (let some = counted_member flags k there in omega arith)
      | inr clear ↦ clear
    ]

-- a member counts for the ranks above it
pub more_before : (flags : List Bool) (r q : ℕ) → r < q → flag flags r ≡ true → members (take r flags) < members (take q flags)
more_before flags r q lt e =
    let f = sum_by_more (λ b. cond b 1 0) flags r false (member_within flags r e) in
    let g : cond {A = ℕ} (flag flags r) 1 0 ≡ 1 = ap (λ b. cond b 1 0) e in
    let h = sum_by-take-le (λ b. cond b 1 0) (take q flags) (r + 1) in
    let t = ap members (take-take (r + 1) q flags (omega arith)) in
    omega (arith, f, g, h, t)

-- there is one least member
pub least_once : (flags : List Bool) (r q : ℕ) → IsLeast flags r → IsLeast flags q → r ≡ q
least_once flags r q i j =
    elim (cases_order r q) [
      | inl e ↦ e
      | inr less ↦
          elim less [
            | inl lt ↦ absurd (true≢false (sym i.member ∙ j.below r lt))
            | inr gt ↦ absurd (true≢false (sym j.member ∙ i.below q gt))
          ]
    ]

-- there is one greatest member
pub greatest_once : (flags : List Bool) (r q : ℕ) → IsGreatest flags r → IsGreatest flags q → r ≡ q
greatest_once flags r q i j =
    elim (cases_order r q) [
      | inl e ↦ e
      | inr less ↦
          elim less [
            | inl lt ↦ absurd (true≢false (sym j.member ∙ i.above q lt))
            | inr gt ↦ absurd (true≢false (sym i.member ∙ j.above r gt))
          ]
    ]

-- there is one n-th member
pub nth_once : (flags : List Bool) (n r q : ℕ) → IsNth flags n r → IsNth flags n q → r ≡ q
nth_once flags n r q i j =
    elim (cases_order r q) [
      | inl e ↦ e
      | inr less ↦
          elim less [
            | inl lt ↦ absurd (let f = more_before flags r q lt i.member in let g = i.before in let h = j.before in omega arith)
            | inr gt ↦ absurd (let f = more_before flags q r gt j.member in let g = i.before in let h = j.before in omega arith)
          ]
    ]
