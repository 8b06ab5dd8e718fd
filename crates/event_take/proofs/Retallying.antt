-- Tallies that follow a driver, net by net.
use Rattle.std.proofs.Common.{ℕ, zero, suc, ◌≡◌, ◌≢◌, ◌∙◌, ◌≤◌, ◌<◌, ◌+◌, ◌^◌, arith, Bool, true, false, ◌||◌, cond, List, [], ◌∷◌, drop, length, map, set, get_or, Option, None, Some, Vec, refl, sym, ap, subst, inl, inr}
use Rattle.std.specs.Prelude.{◌==◌, if◌then◌else◌, nat_lt, slice_index_or, ℤ, pos, negsuc, ◌-ℤ◌}
use Rattle.std.specs.declared.alloc.Global.{Global}
use Rattle.std.proofs.lemmas.Bool.{cases_Bool, cases_eq, eq-eqb, ne_eqb}
use Rattle.std.proofs.lemmas.Option.{slice_get-get_or}
use Rattle.std.proofs.lemmas.List.{get_or-take, get_or-drop, length-take, length-drop}
use Rattle.rtl_bits.specs.declared.Bit.{Bit}
use Rattle.rtl_bits.specs.declared.Bit.TheVariants.{Z}
use Rattle.rtl_bits.specs.Bits.{has_unknown, selected}
use Rattle.rtl_flat.specs.declared.act.TargetPart.{TargetPart}
use Rattle.rtl_flat.specs.declared.signal.Signal.{Signal}
use Rattle.rtl_flat.specs.Process.{Assign, Piece, Selection, Whole, BitAt, BitBy, Part, piece}
use Rattle.rtl_flat.specs.Signs.{sign_of, width_in}
use Rattle.rtl_flat.specs.Value.{index_number, value}
use Rattle.rtl_flat.specs.WellFormed.{IsSelection}
use Rattle.rtl_flat.specs.Flats.{Flat, widths}
use Rattle.event_model.specs.Writes.{Span, Values, bit_inside, count_of, driven, put, span_of}
use Rattle.event_write.specs.event_tally.declared.tally.Tally.{Tally}
use Rattle.event_write.specs.event_tally.Given.{AreCounted}
use Rattle.event_write.specs.event_tally.Tallies.{IsTalliedAt, IsTalliedWith}
use Rattle.event_write.specs.event_tally.Targets.{names}
use Rattle.event_write.proofs.event_tally_proofs.Counting.{counted_apart, counted_moved, counted_with}
use Rattle.event_write.proofs.event_tally_proofs.Places.{read_same, read_other}
use Rattle.event_write.specs.Entries.{AreSelected}
use Rattle.event_write.specs.QueueState.{AreTallied, IsInside, items_of, row}
use Rattle.event_write.proofs.Entering.{part_inside}
use Rattle.event_take.specs.Tallied.{IsTarget}

-- ---- rows that are set

pub row_same : {A : Type 0} (rows : List (Vec A Global)) (i : ℕ) (v : Vec A Global) → i < length rows → row (set rows i v) i ≡ v.items
row_same rows i v within = ap items_of (read_same rows i v within)

pub row_other : {A : Type 0} (rows : List (Vec A Global)) (i : ℕ) (v : Vec A Global) (j : ℕ) → j ≢ i → row (set rows i v) j ≡ row rows j
row_other rows i v j apart = ap items_of (read_other rows i j v apart)

pub row_read : {A : Type 0} (rows : List (Vec A Global)) (i : ℕ) (v : Vec A Global) → i < length rows → (get_or rows i v).items ≡ row rows i
row_read rows i v within = sym (ap items_of (slice_get-get_or rows i v within))

-- ---- tallies half way: of the nets that are still named they count the old driver, of all others the new one

abbrev pub Half : Flat → (ℕ → List Bit) → ℕ → List Bit → List Piece → List (Vec Tally Global) → Type 0
Half d driver p new left rows =
    (i : ℕ) → AreCounted d (cond (names left i) driver (put driver p new)) i (row rows i)

pub half_begin : (d : Flat) (driver : ℕ → List Bit) (p : ℕ) (new : List Bit) (target : List Piece) (rows : List (Vec Tally Global)) → IsTarget d p target → AreTallied d driver rows → Half d driver p new target rows
half_begin d driver p new target rows is counted i =
    elim (cases_Bool (names target i)) as (λ _. AreCounted d (cond (names target i) driver (put driver p new)) i (row rows i)) [
      | inl named ↦ subst (λ (b : Bool). AreCounted d (cond b driver (put driver p new)) i (row rows i)) (sym named) (counted i)
      | inr apart ↦ subst (λ (b : Bool). AreCounted d (cond b driver (put driver p new)) i (row rows i)) (sym apart)
          (counted_apart d driver p (Assign target is.value) i new (row rows i) is.does apart (counted i))
    ]

-- a net that is named again
pub half_skip : (d : Flat) (driver : ℕ → List Bit) (p : ℕ) (new : List Bit) (one : Piece) (left : List Piece) (rows : List (Vec Tally Global)) → names left one.signal ≡ true → Half d driver p new (one ∷ left) rows → Half d driver p new left rows
half_skip d driver p new one left rows again half i =
    subst (λ (b : Bool). AreCounted d (cond b driver (put driver p new)) i (row rows i)) same (half i)
  where
    same : ((i == one.signal) || names left i) ≡ names left i
    same =
        elim (cases_eq i one.signal) as (λ _. ((i == one.signal) || names left i) ≡ names left i) [
          | inl e ↦ ap (λ b. b || names left i) (eq-eqb i one.signal e) ∙ sym (ap (names left) e ∙ again)
          | inr apart ↦ ap (λ b. b || names left i) (ne_eqb i one.signal apart)
        ]

-- a net whose tallies follow
pub half_moved : (d : Flat) (driver : ℕ → List Bit) (p : ℕ) (new : List Bit) (target : List Piece) (one : Piece) (left : List Piece) (before after : List (Vec Tally Global)) → IsTarget d p target → names left one.signal ≡ false
    → ((i : ℕ) → i ≢ one.signal → row after i ≡ row before i) → length (row after one.signal) ≡ length (row before one.signal)
    → ((k : ℕ) (others : List Bit) → k < length (row after one.signal) → IsTalliedAt (row before one.signal) k (slice_index_or (driven (widths d) target (driver p) one.signal) k Z ∷ others) → IsTalliedAt (row after one.signal) k (slice_index_or (driven (widths d) target new one.signal) k Z ∷ others))
    → Half d driver p new (one ∷ left) before → Half d driver p new left after
half_moved d driver p new target one left before after is last rest size moved half i =
    elim (cases_eq i one.signal) as (λ _. AreCounted d (cond (names left i) driver (put driver p new)) i (row after i)) [
      | inl e ↦ subst (λ (j : ℕ). AreCounted d (cond (names left j) driver (put driver p new)) j (row after j)) (sym e)
          (subst (λ (b : Bool). AreCounted d (cond b driver (put driver p new)) one.signal (row after one.signal)) (sym last)
          (counted_moved d driver p (Assign target is.value) one.signal new (row before one.signal) (row after one.signal) is.does size moved (here (half one.signal))))
      | inr apart ↦ subst (λ (xs : List Tally). AreCounted d (cond (names left i) driver (put driver p new)) i xs) (sym (rest i apart))
          (subst (λ (b : Bool). AreCounted d (cond (b || names left i) driver (put driver p new)) i (row before i)) (ne_eqb i one.signal apart) (half i))
    ]
  where
    here : AreCounted d (cond ((one.signal == one.signal) || names left one.signal) driver (put driver p new)) one.signal (row before one.signal) → AreCounted d driver one.signal (row before one.signal)
    here h = subst (λ (b : Bool). AreCounted d (cond (b || names left one.signal) driver (put driver p new)) one.signal (row before one.signal)) (eq-eqb one.signal one.signal refl) h

-- the net of the first part that is left still has the old driver
pub half_here : (d : Flat) (driver : ℕ → List Bit) (p : ℕ) (new : List Bit) (one : Piece) (left : List Piece) (rows : List (Vec Tally Global)) → Half d driver p new (one ∷ left) rows → AreCounted d driver one.signal (row rows one.signal)
half_here d driver p new one left rows half =
    subst (λ (b : Bool). AreCounted d (cond (b || names left one.signal) driver (put driver p new)) one.signal (row rows one.signal)) (eq-eqb one.signal one.signal refl) (half one.signal)

pub with_old : (d : Flat) (driver : ℕ → List Bit) (p : ℕ) (old : List Bit) (target : List Piece) (net : ℕ) (xs : List Tally) (k : ℕ) → IsTarget d p target → driver p ≡ old → length d.tasks + 1 < 2 ^ 32 → AreCounted d driver net xs → IsTalliedWith xs k (slice_index_or (driven (widths d) target old net) k Z)
with_old d driver p old target net xs k is has few counted =
    subst (λ (bs : List Bit). IsTalliedWith xs k (slice_index_or (driven (widths d) target bs net) k Z)) has
    (counted_with d driver p (Assign target is.value) net xs k is.does few counted)

-- ---- lists that are the same place by place

pub same_places : (xs ys : List Bit) → length xs ≡ length ys → ((k : ℕ) → k < length xs → slice_index_or xs k Z ≡ slice_index_or ys k Z) → xs ≡ ys
same_places [] [] size at = refl
same_places [] (y ∷ ys) size at = absurd (omega (arith, size))
same_places (x ∷ xs) [] size at = absurd (omega (arith, size))
same_places (x ∷ xs) (y ∷ ys) size at =
    ap (λ b. b ∷ xs) (at 0 (omega arith))
    ∙ ap (λ bs. y ∷ bs) (same_places xs ys (omega (arith, size)) (λ k within. at (suc k) (omega (arith, within))))

pub selected_length : (at count : ℕ) (bits : List Bit) → at + count ≤ length bits → length (selected at count bits) ≡ count
selected_length at count bits inside =
    let few = length-take count (drop at bits) in
    let left = length-drop at bits in
    omega (arith, few, left, inside)

pub selected_at : (at count : ℕ) (bits : List Bit) (k : ℕ) → k < count → slice_index_or (selected at count bits) k Z ≡ slice_index_or bits (at + k) Z
selected_at at count bits k within = get_or-take count (drop at bits) k Z within ∙ get_or-drop at bits k Z

-- ---- the parts of a target

pub selected_later : (signals : List Signal) (parts : List TargetPart) (i : ℕ) → AreSelected signals (map piece parts) → AreSelected signals (map piece (drop i parts))
selected_later signals parts zero h = h
selected_later signals [] (suc i) h = h
selected_later signals (part ∷ parts) (suc i) h = selected_later signals parts i h.2

inside_there : (signals : List Signal) (i : ℕ) (span : Option Span) (bits : List Bit) → IsInside signals i span bits → i < length signals
inside_there signals i None bits h = h
inside_there signals i (Some span) bits h = h.0

pub selection_there : (signals : List Signal) (i : ℕ) (selection : Selection) → IsSelection signals i selection → i < length signals
selection_there signals i selection h =
    inside_there signals i (span_of (width_in signals) (λ k. []) i selection) [] (part_inside signals (λ k. []) i selection [] h (omega arith))

-- whether a span has a bit
abbrev pub HasBit : Option Span → Type 0
HasBit None = Unit {0}
HasBit (Some span) = 1 ≤ span.count

bit_has : (width : ℕ) (index : ℤ) → HasBit (bit_inside width index)
bit_has width (negsuc k) = tt
bit_has width (pos k) = by_test (nat_lt k width)
  where
    by_test : (b : Bool) → HasBit (if b then Some (record { at = k; count = 1 }) else None)
    by_test true = omega arith
    by_test false = tt

cond_has : (b : Bool) (span : Option Span) → HasBit span → HasBit (cond b None span)
cond_has true span h = tt
cond_has false span h = h

pub span_has : (ws : ℕ → ℕ) (v : Values) (i : ℕ) (selection : Selection) → 1 ≤ count_of ws i selection → HasBit (span_of ws v i selection)
span_has ws v i Whole h = h
span_has ws v i (BitAt low index) h = bit_has (ws i) (index -ℤ pos low)
span_has ws v i (BitBy low index) h =
    cond_has (has_unknown (value v index)) (bit_inside (ws i) (index_number (sign_of index) (value v index) -ℤ pos low))
    (bit_has (ws i) (index_number (sign_of index) (value v index) -ℤ pos low))
span_has ws v i (Part low width) h = h
