use Rattle.std.proofs.Common.{◌≡◌, ◌≢◌, ℕ, ◌<◌, Bool, true, false, List, length, get_or, set, replicate, Option, sym, ◌∙◌, ap, subst, arith, inl, inr}
use Rattle.std.proofs.lemmas.Bool.{cases_eq, cases_lt, cases_order, cases_Bool, true≢false}
use Rattle.std.proofs.lemmas.List.{get_or_read, get_or_past, get_or-replicate, get_or-set_same, get_or-set_other, length-replicate, length-set}
use Rattle.rank_set.specs.Ranks.{flag, IsEmpty, IsLeast}
use Rattle.rank_set.proofs.Law.{member_within}
use Rattle.agenda.specs.Agendas.{IsAhead, IsLowest}
use Rattle.agenda.specs.Rankings.{AreRanks, IsKept, IsRanking}
use Rattle.agenda.proofs.Order.{ahead_one_way}

-- What an agenda keeps.

-- the numbers of two ranks differ
pub distinct_numbers : (levels : List (Option ℕ)) (number_at : List ℕ) → IsRanking levels number_at → (i j : ℕ) → i < j → j < length number_at → get_or number_at i 0 ≢ get_or number_at j 0
distinct_numbers levels number_at ranking i j lt in_j = λ e.
    let ahead = subst (λ p. IsAhead levels p (get_or number_at j 0)) e (ranking.ascending i j lt in_j) in
    ahead_one_way levels (get_or number_at j 0) (get_or number_at j 0) ahead ahead

-- the rank of a number has that number
record HasRank (number_at : List ℕ) (p rank : ℕ) : Type 0 where
  pub within : rank < length number_at
  pub number : get_or number_at rank 0 ≡ p

rank_is : (levels : List (Option ℕ)) (number_at rank_of : List ℕ) → IsRanking levels number_at → AreRanks number_at rank_of → (p : ℕ) → p < length number_at → HasRank number_at p (get_or rank_of p 0)
rank_is levels number_at rank_of ranking ranks p lt =
    let at = ranking.all p lt in
    let number : p ≡ get_or number_at at.0 0 = get_or_read number_at at.0 p at.1 (sym at.2) 0 in
    let rank : get_or rank_of p 0 ≡ at.0 = ap (λ q. get_or rank_of q 0) number ∙ ranks.back at.0 at.1 in
    record {
      within = omega (arith, rank, at.1);
      number = ap (λ r. get_or number_at r 0) rank ∙ sym number;
    }

module _ {levels : List (Option ℕ)} {by_number by_rank : List Bool} {number_at rank_of : List ℕ} (kept : IsKept levels by_number by_rank number_at rank_of) where
  -- a number of the set has a rank, and the rank its room in the tables
  pub number_fits : (p : ℕ) → p < length by_number → p < length rank_of
  number_fits p lt = omega (arith, kept.by_number_fits, kept.ranks.length_is, lt)

  ranked : (p : ℕ) → p < length by_number → HasRank number_at p (get_or rank_of p 0)
  ranked p lt = rank_is levels number_at rank_of kept.ranking kept.ranks p (omega (arith, kept.by_number_fits, lt))

  pub rank_fits : (p : ℕ) → p < length by_number → get_or rank_of p 0 < length by_rank
  rank_fits p lt = omega (arith, kept.by_rank_fits, (ranked p lt).within)

  -- a number and its rank are written alike
  pub written : (p : ℕ) (b : Bool) → p < length by_number → IsKept levels (set by_number p b) (set by_rank (get_or rank_of p 0) b) number_at rank_of
  written p b lt =
      let rank = get_or rank_of p 0 in
      let has = ranked p lt in
      record {
        by_number_fits = length-set by_number p b ∙ kept.by_number_fits;
        by_rank_fits = length-set by_rank rank b ∙ kept.by_rank_fits;
        ranking = kept.ranking;
        ranks = kept.ranks;
        same = λ r in_r.
            elim (cases_eq r rank) [
              | inl e ↦
                  ap (flag (set by_rank rank b)) e
                  ∙ get_or-set_same by_rank rank b false (rank_fits p lt)
                  ∙ sym (get_or-set_same by_number p b false lt)
                  ∙ sym (ap (λ q. flag (set by_number p b) (get_or number_at q 0)) e ∙ ap (flag (set by_number p b)) has.number)
              | inr ne ↦
                  get_or-set_other by_rank rank r b false ne
                  ∙ kept.same r in_r
                  ∙ sym (get_or-set_other by_number p (get_or number_at r 0) b false (λ e. ne (sym (kept.ranks.back r in_r) ∙ ap (λ q. get_or rank_of q 0) e)))
            ];
      }

  member_has_rank : (p : ℕ) → flag by_number p ≡ true → flag by_rank (get_or rank_of p 0) ≡ true
  member_has_rank p there =
      let has = ranked p (member_within by_number p there) in
      kept.same (get_or rank_of p 0) has.within ∙ ap (flag by_number) has.number ∙ there

  pub empty_is : IsEmpty by_rank → IsEmpty by_number
  empty_is none = λ p.
      elim (cases_Bool (flag by_number p)) [
        | inl there ↦ absurd (true≢false (sym (member_has_rank p there) ∙ none (get_or rank_of p 0)))
        | inr clear ↦ clear
      ]

  -- a rank of the set is one of the tables
  pub number_at_fits : (r : ℕ) → r < length by_rank → r < length number_at
  number_at_fits r lt = omega (arith, kept.by_rank_fits, lt)

  pub within_is : (r : ℕ) → r < length by_rank → get_or number_at r 0 < length by_number
  within_is r lt = omega (arith, kept.by_number_fits, kept.ranking.within r (number_at_fits r lt))

  -- the number of the least rank is the lowest
  pub lowest_is : (r : ℕ) → IsLeast by_rank r → IsLowest levels by_number (get_or number_at r 0)
  lowest_is r least =
      let in_r = number_at_fits r (member_within by_rank r least.member) in
      record {
        member = sym (kept.same r in_r) ∙ least.member;
        before = λ q there ne.
            let has = ranked q (member_within by_number q there) in
            let rank = get_or rank_of q 0 in
            elim (cases_order r rank) [
              | inl e ↦ absurd (ne (sym has.number ∙ sym (ap (λ k. get_or number_at k 0) e)))
              | inr order ↦
                  elim order [
                    | inl lt ↦ subst (λ p. IsAhead levels (get_or number_at r 0) p) has.number (kept.ranking.ascending r rank lt has.within)
                    | inr gt ↦ absurd (true≢false (sym (member_has_rank q there) ∙ least.below rank gt))
                  ]
            ];
      }

none_there : (n k : ℕ) → flag (replicate n false) k ≡ false
none_there n k =
    elim (cases_lt k n) [
      | inl lt ↦ get_or-replicate n k false false lt
      | inr ge ↦ get_or_past (replicate n false) k false (omega (arith, length-replicate n false, ge))
    ]

-- the empty set is kept in any order
pub fresh : (levels : List (Option ℕ)) (n : ℕ) (number_at rank_of : List ℕ) → n ≡ length levels → IsRanking levels number_at → AreRanks number_at rank_of → IsKept levels (replicate n false) (replicate n false) number_at rank_of
fresh levels n number_at rank_of e ranking ranks = record {
  by_number_fits = omega (arith, length-replicate n false, e, ranking.length_is);
  by_rank_fits = omega (arith, length-replicate n false, e, ranking.length_is);
  ranking = ranking;
  ranks = ranks;
  same = λ r in_r. none_there n r ∙ sym (none_there n (get_or number_at r 0));
}
