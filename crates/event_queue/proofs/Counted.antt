-- Tallies where a simulator begins.
use Rattle.std.proofs.Common.{ℕ, zero, suc, ◌≡◌, ◌≢◌, ◌∙◌, ◌≤◌, ◌<◌, ◌+◌, ◌⊎◌, arith, Bool, true, false, List, [], ◌∷◌, ◌++◌, take, drop, length, replicate, Option, None, Some, Vec, refl, sym, ap, subst, inl, inr}
use Rattle.std.specs.Prelude.{◌==◌, if◌then◌else◌, nat_lt, slice_index_or}
use Rattle.std.specs.List.{slice_get}
use Rattle.std.specs.declared.alloc.Global.{Global}
use Rattle.std.proofs.lemmas.Bool.{cases_eq, cases_lt, eq-eqb, ne_eqb, lt-ltb, le-ltb}
use Rattle.std.proofs.lemmas.Option.{slice_get_past}
use mathlib.Core.Path.{fun_ext}
use Rattle.rtl_bits.specs.declared.Bit.{Bit}
use Rattle.rtl_bits.specs.declared.Bit.TheVariants.{Z}
use Rattle.rtl_bits.specs.Bits.{replaced, selected}
use Rattle.rtl_flat.specs.Process.{Piece, Doing, Assign, Comb, Edge', Task}
use Rattle.event_model.specs.Writes.{Values, Span, all_written, count_of, counts, no_drive, put, span_of, write_at, writes, written}
use Rattle.rtl_flat.specs.Flats.{Flat, widths}
use Rattle.event_tables.specs.event_tally.declared.tally.Tally.{Tally}
use Rattle.event_tables.specs.event_tally.Given.{bit_given, given_from}
use Rattle.event_tables.specs.event_tally.Tallies.{IsTalliedAt}
use Rattle.event_tables.specs.event_write.QueueState.{AreTallied, driver_of, row}
use Rattle.event_queue.specs.First.{driver_in}
use Rattle.event_queue.specs.Tallying.{AreReady}

-- ---- drivers at z

-- z at each place
abbrev pub AllZ : List Bit → Type 0
AllZ xs = (k : ℕ) → slice_index_or xs k Z ≡ Z

z_many : (n : ℕ) → AllZ (replicate n Z)
z_many zero k = refl
z_many (suc n) zero = refl
z_many (suc n) (suc k) = z_many n k

z_append : (a b : List Bit) → AllZ a → AllZ b → AllZ (a ++ b)
z_append [] b first second k = second k
z_append (x ∷ a) b first second zero = first 0
z_append (x ∷ a) b first second (suc k) = z_append a b (λ i. first (suc i)) second k

z_take : (n : ℕ) (a : List Bit) → AllZ a → AllZ (take n a)
z_take zero a all k = refl
z_take (suc n) [] all k = refl
z_take (suc n) (x ∷ a) all zero = all 0
z_take (suc n) (x ∷ a) all (suc k) = z_take n a (λ i. all (suc i)) k

z_drop : (n : ℕ) (a : List Bit) → AllZ a → AllZ (drop n a)
z_drop zero a all = all
z_drop (suc n) [] all = all
z_drop (suc n) (x ∷ a) all = z_drop n a (λ i. all (suc i))

z_replaced : (at : ℕ) (part a : List Bit) → AllZ part → AllZ a → AllZ (replaced at part a)
z_replaced at part a these those =
    z_append (take at a ++ part) (drop (at + length part) a) (z_append (take at a) part (z_take at a those) these) (z_drop (at + length part) a those)

z_written : (v : Values) (signal : ℕ) (at : ℕ) (bits : List Bit) → AllZ bits → ((i : ℕ) → AllZ (v i)) → (i : ℕ) → AllZ (written v (record { signal = signal; at = at; bits = bits }) i)
z_written v signal at bits these those i =
    by_test (i == signal)
  where
    by_test : (b : Bool) → AllZ (if b then replaced at bits (v signal) else v i)
    by_test true = z_replaced at bits (v signal) these (those signal)
    by_test false = those i

z_writes : (ws : ℕ → ℕ) (u : Values) (target : List Piece) (bits : List Bit) → AllZ bits → (v : Values) → ((i : ℕ) → AllZ (v i)) → (i : ℕ) → AllZ (all_written v (writes ws u target bits) i)
z_writes ws u [] bits these v those i = those i
z_writes ws u (piece ∷ target) bits these v those i =
    by_span (z_writes ws u target bits these) (span_of ws u piece.signal piece.selection)
  where
    part : List Bit
    part = selected (counts ws target) (count_of ws piece.signal piece.selection) bits

    by_span : ((v : Values) → ((i : ℕ) → AllZ (v i)) → (i : ℕ) → AllZ (all_written v (writes ws u target bits) i)) → (s : Option Span) → AllZ (all_written v (write_at piece.signal s part ++ writes ws u target bits) i)
    by_span rest None = rest v those i
    by_span rest (Some s) =
        rest (written v (record { signal = piece.signal; at = s.at; bits = part }))
        (z_written v piece.signal s.at part (z_take (count_of ws piece.signal piece.selection) (drop (counts ws target) bits) (z_drop (counts ws target) bits these)) those) i

bit_z : (ws : ℕ → ℕ) (does : Doing) (bits : List Bit) (net k : ℕ) → AllZ bits → bit_given ws does bits net k ≡ Z
bit_z ws (Assign target e) bits net k these = z_writes ws (no_drive ws) target bits these (no_drive ws) (λ i. z_many (ws i)) net k
bit_z ws (Comb list body) bits net k these = refl
bit_z ws (Edge' events body) bits net k these = refl

given_z : (ws : ℕ → ℕ) (n : ℕ) (tasks : List Task) (driver : ℕ → List Bit) (net k : ℕ) → ((p : ℕ) → AllZ (driver p)) → given_from ws n tasks driver net k ≡ replicate (length tasks) Z
given_z ws n [] driver net k all = refl
given_z ws n (one ∷ others) driver net k all =
    ap (λ (b : Bit). b ∷ given_from ws (n + 1) others driver net k) (bit_z ws one.does (driver n) net k (all n))
    ∙ ap (λ (bs : List Bit). Z ∷ bs) (given_z ws (n + 1) others driver net k all)

-- tallies of nothing count drivers at z
pub ready_tallied : (d : Flat) (driver : ℕ → List Bit) (rows : List (Vec Tally Global)) → ((p : ℕ) → AllZ (driver p)) → AreReady d.signals rows → AreTallied d driver rows
ready_tallied d driver rows all ready i =
    record {
      inside = ready.inside i;
      each = λ k. subst (IsTalliedAt (row rows i) k) (sym (given_z (widths d) 0 d.tasks driver i k all)) (ready.none i k (length d.tasks));
    }

-- ---- one driver after the other

-- the first drivers, and z for all others
pub so_far : (ℕ → List Bit) → ℕ → ℕ → List Bit
so_far driver n p = if nat_lt p n then driver p else replicate (length (driver p)) Z

is_in : (driver : ℕ → List Bit) (n p : ℕ) → p < n → so_far driver n p ≡ driver p
unfolding so_far
is_in driver n p less = ap (λ b. if b then driver p else replicate (length (driver p)) Z) (lt-ltb p n less)

is_out : (driver : ℕ → List Bit) (n p : ℕ) → n ≤ p → so_far driver n p ≡ replicate (length (driver p)) Z
unfolding so_far
is_out driver n p more = ap (λ b. if b then driver p else replicate (length (driver p)) Z) (le-ltb p n more)

pub none_yet : (driver : ℕ → List Bit) (p : ℕ) → AllZ (so_far driver 0 p)
none_yet driver p = subst (λ (bs : List Bit). AllZ bs) (sym (is_out driver 0 p (omega arith))) (z_many (length (driver p)))

pub not_yet : (driver : ℕ → List Bit) (n : ℕ) → so_far driver n n ≡ replicate (length (driver n)) Z
unfolding so_far
not_yet driver n = ap (λ b. if b then driver n else replicate (length (driver n)) Z) (le-ltb n n (omega arith))

one_more_at : (driver : ℕ → List Bit) (n p : ℕ) → put (so_far driver n) n (driver n) p ≡ so_far driver (n + 1) p
unfolding so_far
one_more_at driver n p =
    elim (cases_eq p n) as (λ _. put (so_far driver n) n (driver n) p ≡ so_far driver (n + 1) p) [
      | inl same ↦ ap (λ b. if b then driver n else so_far driver n p) (eq-eqb p n same) ∙ sym (ap driver same)
          ∙ sym (ap (λ b. if b then driver p else replicate (length (driver p)) Z) (lt-ltb p (n + 1) (omega (arith, same))))
      | inr apart ↦ ap (λ b. if b then driver n else so_far driver n p) (ne_eqb p n apart) ∙ by_order p n apart
    ]
  where
    by_order : (p n : ℕ) → p ≢ n → so_far driver n p ≡ so_far driver (n + 1) p
    by_order p n apart =
        elim (cases_lt p n) as (λ _. so_far driver n p ≡ so_far driver (n + 1) p) [
          | inl less ↦ is_in driver n p less ∙ sym (is_in driver (n + 1) p (omega (arith, less)))
          | inr more ↦ is_out driver n p more ∙ sym (is_out driver (n + 1) p (omega (arith, more, apart)))
        ]

pub one_more : (driver : ℕ → List Bit) (n : ℕ) → put (so_far driver n) n (driver n) ≡ so_far driver (n + 1)
one_more driver n = fun_ext (one_more_at driver n)

-- a driver that is put where it is
put_here : (f : ℕ → List Bit) (p : ℕ) (bits : List Bit) → f p ≡ bits → (q : ℕ) → f q ≡ put f p bits q
put_here f p bits has q =
    elim (cases_eq q p) as (λ _. f q ≡ put f p bits q) [
      | inl same ↦ ap f same ∙ has ∙ sym (ap (λ b. if b then bits else f q) (eq-eqb q p same))
      | inr apart ↦ sym (ap (λ b. if b then bits else f q) (ne_eqb q p apart))
    ]

pub put_same : (f : ℕ → List Bit) (p : ℕ) (bits : List Bit) → f p ≡ bits → f ≡ put f p bits
put_same f p bits has = fun_ext (put_here f p bits has)

-- all drivers
all_at : (driver : ℕ → List Bit) (n : ℕ) → ((p : ℕ) → n ≤ p → driver p ≡ []) → (p : ℕ) → so_far driver n p ≡ driver p
all_at driver n past p =
    elim (cases_lt p n) as (λ _. so_far driver n p ≡ driver p) [
      | inl less ↦ is_in driver n p less
      | inr more ↦ is_out driver n p more ∙ ap (λ (bs : List Bit). replicate (length bs) Z) (past p more) ∙ sym (past p more)
    ]

pub all_so_far : (driver : ℕ → List Bit) (n : ℕ) → ((p : ℕ) → n ≤ p → driver p ≡ []) → so_far driver n ≡ driver
all_so_far driver n past = fun_ext (all_at driver n past)

pub no_driver : (drivers : List (Option (List Bit))) (p : ℕ) → length drivers ≤ p → driver_in drivers p ≡ []
no_driver drivers p past = ap driver_of (slice_get_past drivers p past)

-- ---- a list with one more at its end

pub read_push : {A : Type 0} (xs : List A) (x y : A) (k : ℕ) → slice_get (xs ++ x ∷ []) k ≡ Some y → (slice_get xs k ≡ Some y) ⊎ ((k ≡ length xs) × (x ≡ y))
read_push [] x y zero is = inr (refl, (let e = is in cc))
read_push [] x y (suc k) is = absurd (cc)
read_push (z ∷ zs) x y zero is = inl is
read_push (z ∷ zs) x y (suc k) is = by_rest (read_push zs x y k is)
  where
    by_rest : ((slice_get zs k ≡ Some y) ⊎ ((k ≡ length zs) × (x ≡ y))) → (slice_get (z ∷ zs) (suc k) ≡ Some y) ⊎ ((suc k ≡ length (z ∷ zs)) × (x ≡ y))
    by_rest (inl h) = inl h
    by_rest (inr h) = inr (ap suc h.0, h.1)

pub row_pushed : {A : Type 0} (rows : List (Vec A Global)) (v : Vec A Global) (i : ℕ) → (row (rows ++ v ∷ []) i ≡ row rows i) ⊎ ((i ≡ length rows) × (row (rows ++ v ∷ []) i ≡ v.items))
row_pushed [] v zero = inr (refl, refl)
row_pushed [] v (suc i) = inl refl
row_pushed (x ∷ rows) v zero = inl refl
row_pushed (x ∷ rows) v (suc i) = by_rest (row_pushed rows v i)
  where
    by_rest : ((row (rows ++ v ∷ []) i ≡ row rows i) ⊎ ((i ≡ length rows) × (row (rows ++ v ∷ []) i ≡ v.items))) → (row (x ∷ (rows ++ v ∷ [])) (suc i) ≡ row (x ∷ rows) (suc i)) ⊎ ((suc i ≡ length (x ∷ rows)) × (row (x ∷ (rows ++ v ∷ [])) (suc i) ≡ v.items))
    by_rest (inl h) = inl h
    by_rest (inr h) = inr (ap suc h.0, h.1)
