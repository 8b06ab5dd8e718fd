-- What one driver changes in the tallies of a net.
use Rattle.std.proofs.Common.{ℕ, zero, suc, ◌≡◌, ◌≢◌, ◌∙◌, ◌≤◌, ◌<◌, ◌+◌, ◌^◌, arith, Bool, true, false, cond, List, [], ◌∷◌, length, replicate, Some, refl, sym, ap, subst}
use Rattle.std.specs.Prelude.{if◌then◌else◌, slice_index_or}
use Rattle.std.specs.List.{slice_get}
use Rattle.std.proofs.lemmas.Bool.{eq-eqb, ne_eqb}
use Rattle.std.proofs.lemmas.Option.{slice_get_within}
use Rattle.rtl_bits.specs.declared.Bit.{Bit}
use Rattle.rtl_bits.specs.declared.Bit.TheVariants.{Z}
use Rattle.rtl_bits.specs.Bit.{resolve_bit}
use Rattle.rtl_bits.specs.Bits.{reduced, same_bit, zip_with}
use Rattle.rtl_flat.specs.Process.{Doing, Assign, Comb, Edge', Task}
use Rattle.event_model.specs.Queue.{doing_of, doing_at, drive_with, resolved_from, resolved}
use Rattle.rtl_flat.specs.Flats.{Flat, widths}
use Rattle.event_model.specs.Writes.{driven, no_drive, put}
use Rattle.event_tally.specs.declared.tally.Tally.{Tally}
use Rattle.event_tally.specs.Given.{AreCounted, bit_given, given_bits, given_from}
use Rattle.event_tally.specs.Tallies.{IsTalliedAt, IsTalliedWith, times}
use Rattle.event_tally.specs.Targets.{drives_of}
use Rattle.event_tally.proofs.Lengths.{driven_long, resolved_length, unwritten}
use Rattle.event_tally.proofs.Tallying.{tally_same}

-- a driver that another number has
put_same : {A : Type 0} (f : ℕ → A) (p : ℕ) (a : A) → put f p a p ≡ a
put_same f p a = ap (λ b. if b then a else f p) (eq-eqb p p refl)

put_apart : {A : Type 0} (f : ℕ → A) (p : ℕ) (a : A) (q : ℕ) → q ≢ p → put f p a q ≡ f q
put_apart f p a q apart = ap (λ b. if b then a else f q) (ne_eqb q p apart)

-- z past the end too
all_z : (n k : ℕ) → slice_index_or (replicate n Z) k Z ≡ Z
all_z zero k = refl
all_z (suc n) zero = refl
all_z (suc n) (suc k) = all_z n k

-- ---- a column of bits

given_length : (ws : ℕ → ℕ) (n : ℕ) (tasks : List Task) (driver : ℕ → List Bit) (net k : ℕ) → length (given_from ws n tasks driver net k) ≡ length tasks
given_length ws n [] driver net k = refl
given_length ws n (one ∷ others) driver net k = ap suc (given_length ws (n + 1) others driver net k)

-- drivers below the first number don't count
given_past : (ws : ℕ → ℕ) (n : ℕ) (tasks : List Task) (driver : ℕ → List Bit) (p : ℕ) (bits : List Bit) (net k : ℕ) → p < n → given_from ws n tasks (put driver p bits) net k ≡ given_from ws n tasks driver net k
given_past ws n [] driver p bits net k less = refl
given_past ws n (one ∷ others) driver p bits net k less =
    ap (λ (bs : List Bit). bit_given ws one.does bs net k ∷ given_from ws (n + 1) others (put driver p bits) net k) (put_apart driver p bits n (λ e. omega (arith, less, e)))
    ∙ ap (λ (bs : List Bit). bit_given ws one.does (driver n) net k ∷ bs) (given_past ws (n + 1) others driver p bits net k (omega (arith, less)))

-- one driver's bit beside those of the others: the numbers of bits are those of the column
pub record Split (ws : ℕ → ℕ) (n : ℕ) (tasks : List Task) (driver : ℕ → List Bit) (p : ℕ) (does : Doing) (net k : ℕ) : Type 0 where
  pub others : List Bit
  pub few : length others ≤ length tasks
  pub old : (b : Bit) → times b (given_from ws n tasks driver net k) ≡ times b (bit_given ws does (driver p) net k ∷ others)
  pub new : (bits : List Bit) (b : Bit) → times b (given_from ws n tasks (put driver p bits) net k) ≡ times b (bit_given ws does bits net k ∷ others)

-- two counted bits in either order
swapped : (s t : Bool) (m : ℕ) → cond s (suc (cond t (suc m) m)) (cond t (suc m) m) ≡ cond t (suc (cond s (suc m) m)) (cond s (suc m) m)
swapped true true m = refl
swapped true false m = refl
swapped false true m = refl
swapped false false m = refl

times_swap : (b x y : Bit) (bs : List Bit) → times b (x ∷ y ∷ bs) ≡ times b (y ∷ x ∷ bs)
times_swap b x y bs = swapped (same_bit b x) (same_bit b y) (times b bs)

times_more : (b x : Bit) (bs cs : List Bit) → times b bs ≡ times b cs → times b (x ∷ bs) ≡ times b (x ∷ cs)
times_more b x bs cs e = ap (λ m. cond (same_bit b x) (suc m) m) e

pub split : (ws : ℕ → ℕ) (n j : ℕ) (tasks : List Task) (driver : ℕ → List Bit) (p : ℕ) (does : Doing) (net k : ℕ) → p ≡ n + j → doing_of (slice_get tasks j) ≡ Some does → Split ws n tasks driver p does net k
split ws n j [] driver p does net k at is = absurd (cc)
split ws n zero (one ∷ others) driver p does net k at is =
    let same : p ≡ n = omega (arith, at) in
    let this : one.does ≡ does = cc in
    record {
      others = given_from ws (n + 1) others driver net k;
      few = (let size = given_length ws (n + 1) others driver net k in omega (arith, size));
      old = λ b. ap (λ (x : Doing). times b (bit_given ws x (driver n) net k ∷ given_from ws (n + 1) others driver net k)) this
          ∙ ap (λ i. times b (bit_given ws does (driver i) net k ∷ given_from ws (n + 1) others driver net k)) (sym same);
      new = λ bits b. ap (λ (x : Doing). times b (bit_given ws x (put driver p bits n) net k ∷ given_from ws (n + 1) others (put driver p bits) net k)) this
          ∙ ap (λ i. times b (bit_given ws does (put driver p bits i) net k ∷ given_from ws (n + 1) others (put driver p bits) net k)) (sym same)
          ∙ ap (λ (bs : List Bit). times b (bit_given ws does bs net k ∷ given_from ws (n + 1) others (put driver p bits) net k)) (put_same driver p bits)
          ∙ ap (λ (bs : List Bit). times b (bit_given ws does bits net k ∷ bs)) (given_past ws (n + 1) others driver p bits net k (omega (arith, same)));
    }
split ws n (suc j) (one ∷ others) driver p does net k at is =
    let rest = split ws (n + 1) j others driver p does net k (omega (arith, at)) is in
    let less = rest.few in
    let here = bit_given ws one.does (driver n) net k in
    let apart : n ≢ p = omega (arith, at) in
    record {
      others = here ∷ rest.others;
      few = omega (arith, less);
      old = λ b. times_more b here (given_from ws (n + 1) others driver net k) (bit_given ws does (driver p) net k ∷ rest.others) (rest.old b)
          ∙ times_swap b here (bit_given ws does (driver p) net k) rest.others;
      new = λ bits b. ap (λ (bs : List Bit). times b (bit_given ws one.does bs net k ∷ given_from ws (n + 1) others (put driver p bits) net k)) (put_apart driver p bits n apart)
          ∙ times_more b here (given_from ws (n + 1) others (put driver p bits) net k) (bit_given ws does bits net k ∷ rest.others) (rest.new bits b)
          ∙ times_swap b here (bit_given ws does bits net k) rest.others;
    }

-- ---- a net whose driver changes

pub counted_with : (d : Flat) (driver : ℕ → List Bit) (p : ℕ) (does : Doing) (net : ℕ) (row : List Tally) (k : ℕ) → doing_at d p ≡ Some does → length d.tasks + 1 < 2 ^ 32 → AreCounted d driver net row → IsTalliedWith row k (bit_given (widths d) does (driver p) net k)
counted_with d driver p does net row k is few counted tally there =
    let parts = split (widths d) 0 p d.tasks driver p does net k (omega arith) is in
    let less = parts.few in
    record {
      others = parts.others;
      few = omega (arith, less, few);
      tally_is = tally_same (given_bits d driver net k) (bit_given (widths d) does (driver p) net k ∷ parts.others) tally parts.old (counted.each k tally there);
    }

pub counted_moved : (d : Flat) (driver : ℕ → List Bit) (p : ℕ) (does : Doing) (net : ℕ) (bits : List Bit) (old new : List Tally) → doing_at d p ≡ Some does → length new ≡ length old
    → ((k : ℕ) (others : List Bit) → k < length new → IsTalliedAt old k (bit_given (widths d) does (driver p) net k ∷ others) → IsTalliedAt new k (bit_given (widths d) does bits net k ∷ others))
    → AreCounted d driver net old → AreCounted d (put driver p bits) net new
counted_moved d driver p does net bits old new is size moved counted =
    record {
      inside = (let fits = counted.inside in omega (arith, size, fits));
      each = λ k tally there.
          let parts = split (widths d) 0 p d.tasks driver p does net k (omega arith) is in
          let within = slice_get_within new k tally there in
          let here = moved k parts.others within (λ t was. tally_same (given_bits d driver net k) (bit_given (widths d) does (driver p) net k ∷ parts.others) t parts.old (counted.each k t was)) in
          tally_same (bit_given (widths d) does bits net k ∷ parts.others) (given_bits d (put driver p bits) net k) tally (λ b. sym (parts.new bits b)) (here tally there);
    }

-- a net that a process drives no part of
bit_undriven : (ws : ℕ → ℕ) (does : Doing) (bits : List Bit) (net k : ℕ) → drives_of (Some does) net ≡ false → bit_given ws does bits net k ≡ slice_index_or (no_drive ws net) k Z
bit_undriven ws (Assign target e) bits net k apart =
    ap (λ (bs : List Bit). slice_index_or bs k Z) (unwritten ws (no_drive ws) target bits net apart (no_drive ws))
bit_undriven ws (Comb list body) bits net k apart = sym (all_z (ws net) k)
bit_undriven ws (Edge' events body) bits net k apart = sym (all_z (ws net) k)

pub counted_apart : (d : Flat) (driver : ℕ → List Bit) (p : ℕ) (does : Doing) (net : ℕ) (bits : List Bit) (row : List Tally) → doing_at d p ≡ Some does → drives_of (Some does) net ≡ false → AreCounted d driver net row → AreCounted d (put driver p bits) net row
counted_apart d driver p does net bits row is apart counted =
    counted_moved d driver p does net bits row row is refl
    (λ k others within h. subst (λ (b : Bit). IsTalliedAt row k (b ∷ others)) (bit_undriven (widths d) does (driver p) net k apart ∙ sym (bit_undriven (widths d) does bits net k apart)) h)
    counted

-- ---- what a column gives

zip_at : (f : Bit → Bit → Bit) (a b : List Bit) (k : ℕ) → k < length a → k < length b → slice_index_or (zip_with f a b) k Z ≡ f (slice_index_or a k Z) (slice_index_or b k Z)
zip_at f [] b k h g = absurd (omega (arith, h))
zip_at f (x ∷ a) [] k h g = absurd (omega (arith, g))
zip_at f (x ∷ a) (y ∷ b) zero h g = refl
zip_at f (x ∷ a) (y ∷ b) (suc k) h g = zip_at f a b k (omega (arith, h)) (omega (arith, g))

drive_at : (ws : ℕ → ℕ) (does : Doing) (bits : List Bit) (net : ℕ) (others : List Bit) (k : ℕ) → length others ≡ ws net → k < ws net → slice_index_or (drive_with ws does bits net others) k Z ≡ resolve_bit (bit_given ws does bits net k) (slice_index_or others k Z)
drive_at ws (Assign target e) bits net others k size within =
    let long = driven_long ws target bits net in
    zip_at resolve_bit (driven ws target bits net) others k (omega (arith, long, within)) (omega (arith, size, within))
drive_at ws (Comb list body) bits net others k size within = refl
drive_at ws (Edge' events body) bits net others k size within = refl

column_gives : (ws : ℕ → ℕ) (n : ℕ) (tasks : List Task) (driver : ℕ → List Bit) (net k : ℕ) → k < ws net → slice_index_or (resolved_from ws n tasks driver net) k Z ≡ reduced resolve_bit Z (given_from ws n tasks driver net k)
column_gives ws n [] driver net k within = all_z (ws net) k
column_gives ws n (one ∷ others) driver net k within =
    drive_at ws one.does (driver n) net (resolved_from ws (n + 1) others driver net) k (resolved_length ws (n + 1) others driver net) within
    ∙ ap (resolve_bit (bit_given ws one.does (driver n) net k)) (column_gives ws (n + 1) others driver net k within)

-- the drivers of a net give to a bit what the column of their bits does
pub resolved_at : (d : Flat) (driver : ℕ → List Bit) (net k : ℕ) → k < widths d net → slice_index_or (resolved d driver net) k Z ≡ reduced resolve_bit Z (given_bits d driver net k)
resolved_at d driver net k within = column_gives (widths d) 0 d.tasks driver net k within
