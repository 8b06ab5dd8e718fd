use Rattle.std.proofs.Common.{◌≡◌, ◌≢◌, ℕ, zero, suc, ◌+◌, ◌/◌, ◌%◌, ◌^◌, ◌<◌, ◌≤◌, Bool, true, false, cond, List, length, get_or, set, take, refl, sym, ◌∙◌, ap, inl, inr, arith, nat_lt, min, replicate}
use Rattle.std.proofs.lemmas.Bool.{cases_eq, cases_lt, cases_Bool, true≢false, lt-ltb, ltb-true, ltb-false}
use Rattle.std.proofs.lemmas.List.{ext_get_or, get_or_past, length-set, get_or-set_same, get_or-set_other, get_or-replicate, length-replicate}
use Rattle.std.proofs.lemmas.List.FromFn.{length-map-range_with_len, get_or-map-range_with_len, take-map-range_with_len}
use Rattle.std.proofs.lemmas.List.Sums.{sum_by-set, sum_by-take-le, count_by-le-length}
use Rattle.rank_set.specs.Ranks.{flag, members, IsEmpty, IsLeast, IsGreatest, IsNth}
use Rattle.rank_set.specs.Words.{has, flags_of, IsClear, IsFirstBit, IsLastBit, IsIndexed, IsSummary}
use Rattle.rank_set.proofs.Bits.{none_in_zero, none_in_zeros}

-- The flags that words stand for.

pub length-flags_of : (words : List ℕ) (size : ℕ) → length (flags_of words size) ≡ size
unfolding flags_of
length-flags_of words size = length-map-range_with_len (has words) 0 size

pub flag_within : (words : List ℕ) (size k : ℕ) → k < size → flag (flags_of words size) k ≡ has words k
unfolding flags_of
flag_within words size k lt = get_or-map-range_with_len (has words) 0 size k k false lt (omega arith)

-- where no bit is set from `size` on
pub flag_is : (words : List ℕ) (size : ℕ) → ((j : ℕ) → has words j ≡ true → j < size) → (k : ℕ) → flag (flags_of words size) k ≡ has words k
flag_is words size inside k =
    elim (cases_lt k size) [
      | inl lt ↦ flag_within words size k lt
      | inr ge ↦
          elim (cases_Bool (has words k)) [
            | inl set_there ↦ absurd (let lt : k < size = inside k set_there in omega arith)
            | inr clear ↦ get_or_past (flags_of words size) k false (let e = length-flags_of words size in omega arith) ∙ sym clear
          ]
    ]

pub take-flags_of : (words : List ℕ) (size r : ℕ) → r ≤ size → take r (flags_of words size) ≡ flags_of words r
unfolding flags_of
take-flags_of words size r le = take-map-range_with_len (has words) 0 size r le

-- one bit that is written is one flag that is written
pub flags_written : (old new : List ℕ) (size rank : ℕ) (b : Bool) → rank < size → has new rank ≡ b → ((k : ℕ) → k ≢ rank → has new k ≡ has old k) → flags_of new size ≡ set (flags_of old size) rank b
flags_written old new size rank b lt here others =
    ext_get_or false (flags_of new size) (set (flags_of old size) rank b)
    (length-flags_of new size ∙ sym (length-set (flags_of old size) rank b ∙ length-flags_of old size))
    (λ k below.
    let within : k < size = let e = length-flags_of new size in omega arith in
    flag_within new size k within
    ∙ (elim (cases_eq k rank) [
      | inl e ↦ ap (has new) e ∙ here ∙ sym (ap (λ j. get_or (set (flags_of old size) rank b) j false) e ∙ get_or-set_same (flags_of old size) rank b false (let e = length-flags_of old size in omega arith))
      | inr ne ↦ others k ne ∙ sym (get_or-set_other (flags_of old size) rank k b false ne ∙ flag_within old size k within)
    ]))

-- a word that has a bit isn't 0
pub some_in_word : (words : List ℕ) (k : ℕ) → has words k ≡ true → nat_lt 0 (get_or words (k / 64) 0) ≡ true
some_in_word words k h =
    elim (cases_eq (get_or words (k / 64) 0) 0) [
      | inl e ↦ absurd (true≢false (sym h ∙ none_in_zero words k e))
      | inr ne ↦ lt-ltb 0 (get_or words (k / 64) 0) (let f : get_or words (k / 64) 0 ≢ 0 = ne in omega arith)
    ]

-- a word whose bit in the summary is clear is 0
pub zero_word : (words summary : List ℕ) (w : ℕ) → IsSummary words summary → has summary w ≡ false → get_or words w 0 ≡ 0
zero_word words summary w i e = let f : get_or words w 0 ≤ 0 = ltb-false 0 (get_or words w 0) (sym (i w) ∙ e) in omega arith

pub some_word : (words summary : List ℕ) (w : ℕ) → IsSummary words summary → has summary w ≡ true → 0 < get_or words w 0
some_word words summary w i e = ltb-true 0 (get_or words w 0) (sym (i w) ∙ e)

-- the summary after one word was written
pub summed_again : (words words' summary summary' : List ℕ) (place : ℕ) → IsSummary words summary → ((w : ℕ) → w ≢ place → get_or words' w 0 ≡ get_or words w 0) → has summary' place ≡ nat_lt 0 (get_or words' place 0) → ((w : ℕ) → w ≢ place → has summary' w ≡ has summary w) → IsSummary words' summary'
summed_again words words' summary summary' place i others here other_bits = λ w.
    elim (cases_eq w place) [
      | inl e ↦ ap (has summary') e ∙ here ∙ ap (λ u. nat_lt 0 (get_or words' u 0)) (sym e)
      | inr ne ↦ other_bits w ne ∙ i w ∙ ap (nat_lt 0) (sym (others w ne))
    ]

-- the invariant after a bit was written
pub rewritten : {size count count' rank : ℕ} {words words' summary summary' : List ℕ} (b : Bool) → IsIndexed size count words summary → rank < size → has words' rank ≡ b → ((k : ℕ) → k ≢ rank → has words' k ≡ has words k) → length words' ≡ length words → length summary' ≡ length summary → IsSummary words' summary' → count' + cond (has words rank) 1 0 ≡ count + cond b 1 0 → IsIndexed size count' words' summary'
rewritten {size} {count} {count'} {rank} {words} {words'} {summary} {summary'} b i lt here others same_words same_summary summed counted = record {
  count_is =
      let e = ap members (flags_written words words' size rank b lt here others) in
      let f = sum_by-set (λ b. cond b 1 0) (flags_of words size) rank b false (let e = length-flags_of words size in omega arith) in
      let g : cond {A = ℕ} (flag (flags_of words size) rank) 1 0 ≡ cond {A = ℕ} (has words rank) 1 0 = ap (λ b. cond b 1 0) (flag_within words size rank lt) in
      let h = i.count_is in
      omega (arith, e, f, g, h, counted);
  within = omega (arith, i.within, same_words);
  summary_within = omega (arith, i.summary_within, same_words, same_summary);
  words_fit = omega (arith, i.words_fit, same_words);
  summary_fit = omega (arith, i.summary_fit, same_summary);
  inside = λ k set_there.
      elim (cases_eq k rank) [
        | inl e ↦ omega arith
        | inr ne ↦ i.inside k (sym (others k ne) ∙ set_there)
      ];
  summed = summed;
}

-- the flags of words that are 0
pub flags_clear : (words : List ℕ) (size : ℕ) → ((k : ℕ) → has words k ≡ false) → flags_of words size ≡ replicate size false
flags_clear words size none =
    ext_get_or false (flags_of words size) (replicate size false)
    (length-flags_of words size ∙ sym (length-replicate size false))
    (λ k below.
    let within : k < size = let e = length-flags_of words size in omega arith in
    flag_within words size k within ∙ none k ∙ sym (get_or-replicate size k false false within))

pub members_clear : (size : ℕ) → members (replicate size false) ≡ 0
members_clear zero = refl
members_clear (suc size) = omega (arith, members_clear size)

get_or-replicate_same : (n k d : ℕ) → get_or (replicate n d) k d ≡ d
get_or-replicate_same n k d =
    elim (cases_lt k n) [
      | inl lt ↦ get_or-replicate n k d d lt
      | inr ge ↦ get_or_past (replicate n d) k d (let e = length-replicate n d in omega arith)
    ]

-- words of which each is 0 have no bit
pub clear_words : (words : List ℕ) (n : ℕ) → words ≡ replicate n 0 → (k : ℕ) → has words k ≡ false
clear_words words n e = none_in_zeros words (λ w _. ap (λ ws. get_or ws w 0) e ∙ get_or-replicate_same n w 0)

-- words of which each is 0 are the empty set
pub fresh : (size : ℕ) (words summary : List ℕ) → size < 2 ^ 64 → words ≡ replicate (size / 64 + min 1 (size % 64)) 0 → summary ≡ replicate (length words / 64 + min 1 (length words % 64)) 0 → IsIndexed size 0 words summary
fresh size words summary fits e f =
    let n = ap length e ∙ length-replicate (size / 64 + min 1 (size % 64)) 0 in
    let m = ap length f ∙ length-replicate (length words / 64 + min 1 (length words % 64)) 0 in
    record {
      count_is = sym (ap members (flags_clear words size (clear_words words _ e)) ∙ members_clear size);
      within = omega (arith, n);
      summary_within = omega (arith, m);
      words_fit = omega (arith, n);
      summary_fit = omega (arith, n, m);
      inside = λ k h. absurd (true≢false (sym h ∙ clear_words words _ e k));
      summed = λ w. clear_words summary _ f w ∙ ap (nat_lt 0) (sym (ap (λ ws. get_or ws w 0) e ∙ get_or-replicate_same _ w 0));
    }

-- where the summary has no bit, there is no member
pub empty_is : {size count : ℕ} {words summary : List ℕ} → IsIndexed size count words summary → IsClear summary → IsEmpty (flags_of words size)
empty_is {size} {count} {words} {summary} i none = λ k.
    flag_is words size i.inside k ∙ none_in_zeros words (λ w _. zero_word words summary w i.summed (none w)) k

pub least_is : {size count r : ℕ} {words summary : List ℕ} → IsIndexed size count words summary → IsFirstBit words r → IsLeast (flags_of words size) r
least_is {size} {count} {r} {words} i first = record {
  member = flag_is words size i.inside r ∙ first.bit;
  below = λ k lt. flag_is words size i.inside k ∙ first.before k lt;
}

pub greatest_is : {size count r : ℕ} {words summary : List ℕ} → IsIndexed size count words summary → IsLastBit words r → IsGreatest (flags_of words size) r
greatest_is {size} {count} {r} {words} i last = record {
  member = flag_is words size i.inside r ∙ last.bit;
  above = λ k lt. flag_is words size i.inside k ∙ last.after k lt;
}

pub nth_is : {size count n r : ℕ} {words summary : List ℕ} → IsIndexed size count words summary → has words r ≡ true → members (flags_of words r) ≡ n → IsNth (flags_of words size) n r
nth_is {size} {count} {n} {r} {words} i here before = record {
  member = flag_is words size i.inside r ∙ here;
  before = ap members (take-flags_of words size r (let lt = i.inside r here in omega arith)) ∙ before;
}

-- no member is lost in the words
pub members_fit : (words : List ℕ) (size end : ℕ) → size ≤ end → members (flags_of words size) ≤ members (flags_of words end)
members_fit words size end le =
    let e = ap members (take-flags_of words end size le) in
    let f = sum_by-take-le (λ b. cond b 1 0) (flags_of words end) size in
    omega (arith, e, f)

-- a rank of the view is below the size
pub room_for : (words : List ℕ) (size rank : ℕ) (flags : List Bool) → flags_of words size ≡ flags → rank < length flags → rank < size
room_for words size rank flags e lt = let f = ap length e in let g = length-flags_of words size in omega arith

-- there are fewer members than ranks where a rank is none, and some where a rank is one
pub clear_count : (words : List ℕ) (size rank : ℕ) → rank < size → has words rank ≡ false → members (flags_of words size) < size
clear_count words size rank lt clear =
    let flags = flags_of words size in
    let e = length-flags_of words size in
    let f = sum_by-set (λ b. cond b 1 0) flags rank true false (omega arith) in
    let g : cond {A = ℕ} (flag flags rank) 1 0 ≡ 0 = ap (λ b. cond b 1 0) (flag_within words size rank lt ∙ clear) in
    let h = count_by-le-length (λ b. b) (set flags rank true) in
    let j = length-set flags rank true in
    omega (arith, e, f, g, h, j)

pub set_count : (words : List ℕ) (size rank : ℕ) → rank < size → has words rank ≡ true → 0 < members (flags_of words size)
set_count words size rank lt there =
    let flags = flags_of words size in
    let e = length-flags_of words size in
    let f = sum_by-set (λ b. cond b 1 0) flags rank false false (omega arith) in
    let g : cond {A = ℕ} (flag flags rank) 1 0 ≡ 1 = ap (λ b. cond b 1 0) (flag_within words size rank lt ∙ there) in
    omega (arith, f, g)
