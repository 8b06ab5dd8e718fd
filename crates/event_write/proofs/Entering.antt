-- Entries as writes and as updates.
use Rattle.std.proofs.Common.{◌≡◌, ◌<◌, ◌≤◌, ◌+◌, ◌∙◌, ℕ, zero, suc, Bool, true, false, cond, List, [], ◌∷◌, ◌++◌, length, map, drop, Option, None, Some, Vec, refl, sym, ap, arith}
use Rattle.std.specs.Prelude.{nat_lt, ℤ, pos, negsuc, ◌-ℤ◌, if◌then◌else◌}
use Rattle.std.specs.declared.alloc.Global.{Global}
use Rattle.std.proofs.lemmas.Bool.{ltb-true}
use Rattle.std.proofs.lemmas.List.{length-take}
use Rattle.rtl_bits.specs.declared.Bit.{Bit}
use Rattle.rtl_bits.specs.Bits.{has_unknown, selected}
use Rattle.rtl_flat.specs.declared.signal.Signal.{Signal}
use Rattle.rtl_flat.specs.Process.{Piece, Selection, Whole, BitAt, BitBy, Part}
use Rattle.rtl_flat.specs.Signs.{Has, width_in, sign_of}
use Rattle.rtl_flat.specs.Value.{value, index_number}
use Rattle.rtl_flat.specs.WellFormed.{IsSelection}
use Rattle.event_model.specs.Writes.{Values, Write, Span, bit_inside, span_of, count_of, counts, write_at, writes}
use Rattle.rtl_flat.specs.Flats.{Flat}
use Rattle.event_write.specs.declared.entries.Entry.{Entry as Code}
use Rattle.event_write.specs.declared.queue_state.QueueState.{QueueState}
use Rattle.event_write.specs.Entries.{Entry, AreSelected, entry, entries, writes_of, all_writes, glue, updates, IsClosed}
use Rattle.event_write.specs.QueueState.{AreInside, IsInside, IsQueueState}

-- the writes of entries are those of the target
pub all_of : (ws : ℕ → ℕ) (v : Values) (parts : List Piece) (bits : List Bit) → all_writes (entries ws v parts bits) ≡ writes ws v parts bits
all_of ws v [] bits = refl
all_of ws v (piece ∷ parts) bits =
    ap (λ rest. write_at piece.signal (span_of ws v piece.signal piece.selection) (selected (counts ws parts) (count_of ws piece.signal piece.selection) bits) ++ rest) (all_of ws v parts bits)

-- ---- updates

nothing : {A : Type 0} (xs : List A) → xs ++ [] ≡ xs
nothing [] = refl
nothing (x ∷ xs) = ap (λ ys. x ∷ ys) (nothing xs)

-- the entries of a target are one update
one_update : (ws : ℕ → ℕ) (v : Values) (piece : Piece) (parts : List Piece) (bits : List Bit) → updates (entries ws v (piece ∷ parts) bits) ≡ writes ws v (piece ∷ parts) bits ∷ []
one_update ws v piece [] bits = ap (λ us. us ∷ []) (sym (nothing (write_at piece.signal (span_of ws v piece.signal piece.selection) (selected 0 (count_of ws piece.signal piece.selection) bits))))
one_update ws v piece (other ∷ parts) bits =
    ap (glue (write_at piece.signal (span_of ws v piece.signal piece.selection) (selected (counts ws (other ∷ parts)) (count_of ws piece.signal piece.selection) bits))) (one_update ws v other parts bits)

glue_append : (ws : List Write) (u : List Write) (us vs : List (List Write)) → glue ws ((u ∷ us) ++ vs) ≡ glue ws (u ∷ us) ++ vs
glue_append ws u us vs = refl

-- updates one after the other
cond_append : (b : Bool) (ws : List Write) (u : List Write) (us vs all : List (List Write)) → all ≡ (u ∷ us) ++ vs → cond b (ws ∷ all) (glue ws all) ≡ cond b (ws ∷ u ∷ us) (glue ws (u ∷ us)) ++ vs
cond_append true ws u us vs all e = ap (λ xs. ws ∷ xs) e
cond_append false ws u us vs all e = ap (glue ws) e

pub some_update : (e : Entry) (es : List Entry) → (u : List Write) × (us : List (List Write)) × (updates (e ∷ es) ≡ u ∷ us)
some_update e es = by_last e.is_last (updates es)
  where
    by_last : (b : Bool) (all : List (List Write)) → (u : List Write) × (us : List (List Write)) × (cond b (writes_of e ∷ all) (glue (writes_of e) all) ≡ u ∷ us)
    by_last true all = (writes_of e, all, refl)
    by_last false [] = (writes_of e, [], refl)
    by_last false (u ∷ us) = (writes_of e ++ u, us, refl)

updates_append : (xs ys : List Entry) → IsClosed xs → updates (xs ++ ys) ≡ updates xs ++ updates ys
updates_append [] ys h = refl
updates_append (x ∷ []) ys h =
    ap (λ b. cond b (writes_of x ∷ updates ys) (glue (writes_of x) (updates ys))) h
    ∙ sym (ap (λ b. cond {A = List (List Write)} b (writes_of x ∷ []) (glue (writes_of x) []) ++ updates ys) h)
updates_append (x ∷ y ∷ xs) ys h =
    let (u, us, is) = some_update y xs in
    cond_append x.is_last (writes_of x) u us (updates ys) (updates ((y ∷ xs) ++ ys)) (updates_append (y ∷ xs) ys h ∙ ap (λ vs. vs ++ updates ys) is)
    ∙ ap (λ vs. cond x.is_last (writes_of x ∷ vs) (glue (writes_of x) vs) ++ updates ys) (sym is)

-- an update behind others
pub another_update : (xs : List Entry) (ws : ℕ → ℕ) (v : Values) (piece : Piece) (parts : List Piece) (bits : List Bit) → IsClosed xs → updates (xs ++ entries ws v (piece ∷ parts) bits) ≡ updates xs ++ writes ws v (piece ∷ parts) bits ∷ []
another_update xs ws v piece parts bits h =
    updates_append xs (entries ws v (piece ∷ parts) bits) h ∙ ap (λ us. updates xs ++ us) (one_update ws v piece parts bits)

entries_closed : (ws : ℕ → ℕ) (v : Values) (parts : List Piece) (bits : List Bit) → IsClosed (entries ws v parts bits)
entries_closed ws v [] bits = tt
entries_closed ws v (piece ∷ []) bits = refl
entries_closed ws v (piece ∷ other ∷ parts) bits = entries_closed ws v (other ∷ parts) bits

closed_append : (xs ys : List Entry) → IsClosed xs → IsClosed ys → IsClosed (xs ++ ys)
closed_append [] ys a b = b
closed_append (x ∷ []) [] a b = a
closed_append (x ∷ []) (y ∷ ys) a b = b
closed_append (x ∷ y ∷ xs) ys a b = closed_append (y ∷ xs) ys a b

pub still_closed : (xs : List Entry) (ws : ℕ → ℕ) (v : Values) (parts : List Piece) (bits : List Bit) → IsClosed xs → IsClosed (xs ++ entries ws v parts bits)
still_closed xs ws v parts bits h =
    closed_append xs (entries ws v parts bits) h (entries_closed ws v parts bits)

-- ---- entries lie inside their signals

pub has_within : (P : Signal → Type 0) (signals : List Signal) (i : ℕ) → Has P signals i → i < length signals
has_within P [] i h = absurd h
has_within P (s ∷ signals) zero h = omega arith
has_within P (s ∷ signals) (suc i) h = omega (arith, has_within P signals i h)

pub has_room : (n : ℕ) (signals : List Signal) (i : ℕ) → Has (λ s. n ≤ s.width) signals i → n ≤ width_in signals i
has_room n [] i h = absurd h
has_room n (s ∷ signals) zero h = h
has_room n (s ∷ signals) (suc i) h = has_room n signals i h

-- what is selected has no more bits than were asked for
at_most : (at count : ℕ) (bits : List Bit) → length (selected at count bits) ≤ count
at_most at count bits = let e = length-take count (drop at bits) in omega (arith, e)

-- one bit
one_inside : (signals : List Signal) (i k : ℕ) (bits : List Bit) (b : Bool) → nat_lt k (width_in signals i) ≡ b → i < length signals → length bits ≤ 1 → IsInside signals i (if b then Some (record { at = k; count = 1 }) else None) bits
one_inside signals i k bits false e there few = there
one_inside signals i k bits true e there few =
    let below : k < width_in signals i = ltb-true k (width_in signals i) e in
    (there, omega (arith, below, few))

bit_is_inside : (signals : List Signal) (i : ℕ) (index : ℤ) (bits : List Bit) → i < length signals → length bits ≤ 1 → IsInside signals i (bit_inside (width_in signals i) index) bits
bit_is_inside signals i (pos k) bits there few = one_inside signals i k bits (nat_lt k (width_in signals i)) refl there few
bit_is_inside signals i (negsuc k) bits there few = there

by_index : (signals : List Signal) (i : ℕ) (unknown : Bool) (span : Option Span) (bits : List Bit) → i < length signals → IsInside signals i span bits → IsInside signals i (cond unknown None span) bits
by_index signals i true span bits there h = there
by_index signals i false span bits there h = h

pub part_inside : (signals : List Signal) (v : Values) (i : ℕ) (selection : Selection) (bits : List Bit) → IsSelection signals i selection → length bits ≤ count_of (width_in signals) i selection → IsInside signals i (span_of (width_in signals) v i selection) bits
part_inside signals v i Whole bits h few = (h, omega (arith, few))
part_inside signals v i (BitAt low index) bits h few =
    bit_is_inside signals i (index -ℤ pos low) bits (has_within (λ s. s.low ≡ low) signals i h) few
part_inside signals v i (BitBy low index) bits h few =
    let there = has_within (λ s. s.low ≡ low) signals i h.0 in
    by_index signals i (has_unknown (value v index)) (bit_inside (width_in signals i) (index_number (sign_of index) (value v index) -ℤ pos low)) bits there
    (bit_is_inside signals i (index_number (sign_of index) (value v index) -ℤ pos low) bits there few)
part_inside signals v i (Part low width) bits h few =
    let room = has_room (low + width) signals i h.1 in
    (has_within (λ s. low + width ≤ s.width) signals i h.1, omega (arith, room, few))

pub all_inside : (signals : List Signal) (v : Values) (parts : List Piece) (bits : List Bit) → AreSelected signals parts → AreInside signals (entries (width_in signals) v parts bits)
all_inside signals v [] bits h k d lt = absurd (omega (arith, lt))
all_inside signals v (piece ∷ parts) bits h zero d lt =
    part_inside signals v piece.signal piece.selection (selected (counts (width_in signals) parts) (count_of (width_in signals) piece.signal piece.selection) bits) h.0 (at_most (counts (width_in signals) parts) (count_of (width_in signals) piece.signal piece.selection) bits)
all_inside signals v (piece ∷ parts) bits h (suc k) d lt =
    all_inside signals v parts bits h.2 k d (omega (arith, lt))

pub inside_append : (signals : List Signal) (xs ys : List Entry) → AreInside signals xs → AreInside signals ys → AreInside signals (xs ++ ys)
inside_append signals [] ys a b k d lt = b k d lt
inside_append signals (x ∷ xs) ys a b zero d lt = a 0 x (omega arith)
inside_append signals (x ∷ xs) ys a b (suc k) d lt =
    inside_append signals xs ys (λ j e within. a (suc j) e (omega (arith, within))) b k d (omega (arith, lt))

pub how_many : (ws : ℕ → ℕ) (v : Values) (parts : List Piece) (bits : List Bit) → length (entries ws v parts bits) ≡ length parts
how_many ws v [] bits = refl
how_many ws v (piece ∷ parts) bits = let e = how_many ws v parts bits in omega (arith, e)

-- an update behind others, whatever its parts
pub later_update : (xs : List Entry) (ws : ℕ → ℕ) (v : Values) (parts : List Piece) (bits : List Bit) → 1 ≤ length parts → IsClosed xs → updates (xs ++ entries ws v parts bits) ≡ updates xs ++ writes ws v parts bits ∷ []
later_update xs ws v [] bits some h = absurd (omega (arith, some))
later_update xs ws v (piece ∷ parts) bits some h = another_update xs ws v piece parts bits h

-- other updates that aren't active yet
pub with_waiting : (d : Flat) (m : QueueState) (waiting : Vec Code Global) → IsQueueState d m → IsClosed (map entry waiting.items) → AreInside d.signals (map entry waiting.items) → IsQueueState d (record m { waiting = waiting })
with_waiting d m waiting is closed inside =
    record {
      values = is.values;
      woken = is.woken;
      drivers = is.drivers;
      driver_widths = is.driver_widths;
      tallies = is.tallies;
      tallied = is.tallied;
      pending = is.pending;
      pending_values = is.pending_values;
      pending_widths = is.pending_widths;
      offered = is.offered;
      offered_values = is.offered_values;
      next = is.next;
      active = is.active;
      active_inside = is.active_inside;
      waiting = closed;
      waiting_inside = inside;
    }
