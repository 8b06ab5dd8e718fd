-- A write that a process doesn't hear leaves what it listens to, and so the value of a continuous assignment's expression.
use Rattle.std.proofs.Common.{◌≡◌, ◌∙◌, ◌⊎◌, ◌+◌, ◌<◌, ◌≤◌, ℕ, zero, suc, Bool, true, false, not, ◌&&◌, List, [], ◌∷◌, length, get_or, Option, None, Some, All, refl, sym, ap, inl, inr, arith}
use Rattle.std.specs.List.{list_any}
use Rattle.std.proofs.lemmas.Bool.{and_cases, cases_eq, cases_lt, not-false, or_cases, or_parts, true≢false}
use Rattle.std.proofs.lemmas.List.{get_or_past}
use Rattle.std.proofs.lemmas.List.Elements.{All-head, All-tail}
use Rattle.rtl_bits.specs.declared.Bit.{Bit}
use Rattle.rtl_bits.specs.declared.Bit.TheVariants.{Zero, One, X, Z}
use Rattle.rtl_bits.specs.declared.Edge.{Edge}
use Rattle.rtl_bits.specs.declared.Edge.TheVariants.{No, Pos, Neg}
use Rattle.rtl_bits.specs.Bits.{replaced, same_bit}
use Rattle.rtl_flat.specs.declared.signal.Signal.{Signal}
use Rattle.rtl_flat.specs.Expression.{Tree}
use Rattle.rtl_flat.specs.Flows.{may_select, reads}
use Rattle.rtl_flat.specs.Paths.{BitSet}
use Rattle.rtl_flat.specs.PathSets.{items_list, listed}
use Rattle.rtl_flat.specs.Process.{Actions, Piece, Watched, Doing, Assign, Comb}
use Rattle.rtl_flat.specs.Sizes.{IsSized}
use Rattle.rtl_flat.specs.Value.{value}
use Rattle.rtl_flat.specs.WellFormed.{has_edge, IsList}
use Rattle.event_model.specs.Traces.{Same}
use Rattle.event_model.specs.Writes.{Values, Write, written}
use Rattle.event_model.specs.Queue.{happens, hears, hears_from, item_hears, listens}
use Rattle.rtl_flat.specs.Flats.{Flat, widths}
use Rattle.event_laws.specs.Steady.{HaveWidths, IsWithin, SignalsHaveWidths}
use Rattle.event_laws.proofs.Agreement.{value_agrees}
use Rattle.event_laws.proofs.Lengths.{fits, have_written, is_there, put_other, signal_fits, signals_written, written_length}

pub same_bits : (a b : Bit) → same_bit a b ≡ true → a ≡ b
same_bits Zero Zero h = refl
same_bits One One h = refl
same_bits X X h = refl
same_bits Z Z h = refl
same_bits Zero One h = absurd (cc)
same_bits Zero X h = absurd (cc)
same_bits Zero Z h = absurd (cc)
same_bits One Zero h = absurd (cc)
same_bits One X h = absurd (cc)
same_bits One Z h = absurd (cc)
same_bits X Zero h = absurd (cc)
same_bits X One h = absurd (cc)
same_bits X Z h = absurd (cc)
same_bits Z Zero h = absurd (cc)
same_bits Z One h = absurd (cc)
same_bits Z X h = absurd (cc)

unheard_bit : (read : Bool) (a b : Bit) → (read && not (same_bit a b)) ≡ false → read ≡ true → a ≡ b
unheard_bit read a b deaf is =
    elim (and_cases read (not (same_bit a b)) deaf) [
      | inl unread ↦ absurd (true≢false (sym is ∙ unread))
      | inr same ↦ same_bits a b (not-false (same_bit a b) same)
    ]

-- of a change that a process isn't sensitive to, it listens to no bit
pub unheard_from :
    (ws : ℕ → ℕ) (s : ℕ) (does : Doing) (k : ℕ) (old new : List Bit) → length old ≡ length new → hears_from ws s k old new does ≡ false →
    (j : ℕ) → j < length old → listens ws s (k + j) (get_or old j X) (get_or new j X) does ≡ false
unheard_from ws s does k [] new size deaf j inside = absurd (omega (arith, inside))
unheard_from ws s does k (a ∷ old) [] size deaf j inside = absurd (omega (arith, size))
unheard_from ws s does k (a ∷ old) (b ∷ new) size deaf zero inside =
    let parts = or_parts (listens ws s k a b does) (hears_from ws s (k + 1) old new does) deaf in
    let here : k + 0 ≡ k = omega arith in
    ap (λ place. listens ws s place a b does) here ∙ parts.0
unheard_from ws s does k (a ∷ old) (b ∷ new) size deaf (suc j) inside =
    let parts = or_parts (listens ws s k a b does) (hears_from ws s (k + 1) old new does) deaf in
    let there : k + suc j ≡ k + 1 + j = omega arith in
    ap (λ place. listens ws s place (get_or old j X) (get_or new j X) does) there
    ∙ unheard_from ws s does (k + 1) old new (omega (arith, size)) parts.1 j (omega (arith, inside))

-- ---- which bits each process listens to

-- what a continuous assignment reads
read_heard :
    (ws : ℕ → ℕ) (target : List Piece) (e : Tree) (s k : ℕ) (a b : Bit) → listens ws s k a b (Assign target e) ≡ false →
    reads ws e s k ≡ true → a ≡ b
read_heard ws target e s k a b deaf is = unheard_bit (reads ws e s k) a b deaf is

-- what a list without edges has
item_heard :
    (ws : ℕ → ℕ) (item : Watched) (s k : ℕ) (a b : Bit) → (edge : Edge) → item.edge ≡ edge → has_edge edge ≡ false →
    item_hears ws s k a b item ≡ false → may_select ws item.signal item.selection s k ≡ true → a ≡ b
item_heard ws item s k a b No level none deaf is =
    let chosen = may_select ws item.signal item.selection s k in
    unheard_bit chosen a b (ap (λ edge. chosen && happens edge a b) (sym level) ∙ deaf) is
item_heard ws item s k a b Pos level none deaf is = absurd (true≢false none)
item_heard ws item s k a b Neg level none deaf is = absurd (true≢false none)

items_heard :
    (ws : ℕ → ℕ) (items : List Watched) → All (λ item. has_edge item.edge ≡ false) items → (s k : ℕ) (a b : Bit) →
    list_any (item_hears ws s k a b) items ≡ false → items_list ws items s k ≡ true → a ≡ b
items_heard ws [] levels s k a b deaf is = absurd (true≢false (sym is))
items_heard ws (item ∷ others) levels s k a b deaf is =
    let parts = or_parts (item_hears ws s k a b item) (list_any (item_hears ws s k a b) others) deaf in
    elim (or_cases (may_select ws item.signal item.selection s k) (items_list ws others s k) is) [
      | inl here ↦
          item_heard ws item s k a b item.edge refl (All-head (λ (one : Watched). has_edge one.edge ≡ false) item others levels) parts.0 here
      | inr there ↦
          items_heard ws others (All-tail (λ (one : Watched). has_edge one.edge ≡ false) item others levels) s k a b parts.1 there
    ]

listed_heard :
    (signals : List Signal) (ws : ℕ → ℕ) (list : Option (List Watched)) (body : Actions) → IsList signals list → (s k : ℕ) (a b : Bit) →
    listens ws s k a b (Comb list body) ≡ false → listed ws (Comb list body) s k ≡ true → a ≡ b
listed_heard signals ws None body lawful s k a b deaf is =
    unheard_bit (listed ws (Comb None body) s k) a b deaf is
listed_heard signals ws (Some items) body lawful s k a b deaf is = items_heard ws items lawful.1 s k a b deaf is

-- ---- a write that isn't heard

-- it leaves each bit that the process listens to
pub unheard_bits :
    (ws : ℕ → ℕ) (v : Values) (w : Write) (does : Doing) (bits : BitSet) → w.at + length w.bits ≤ length (v w.signal) →
    hears ws w.signal (v w.signal) (written v w w.signal) (Some does) ≡ false →
    ((s k : ℕ) (a b : Bit) → listens ws s k a b does ≡ false → bits s k ≡ true → a ≡ b) →
    (i k : ℕ) → bits i k ≡ true → Same (written v w) v i k
unheard_bits ws v w does bits inside deaf heard i k is =
    elim (cases_eq i w.signal) [
      | inl here ↦
          ap (λ j. get_or (written v w j) k X) here
          ∙ sym (at_it (cases_lt k (length (v w.signal))) (ap (λ j. bits j k) (sym here) ∙ is))
          ∙ ap (λ j. get_or (v j) k X) (sym here)
      | inr other ↦ ap (λ a. get_or a k X) (put_other v w.signal i (replaced w.at w.bits (v w.signal)) other)
    ]
  where
    size : length (written v w w.signal) ≡ length (v w.signal)
    size = written_length v w inside w.signal

    at_it : (k < length (v w.signal)) ⊎ (length (v w.signal) ≤ k) → bits w.signal k ≡ true → get_or (v w.signal) k X ≡ get_or (written v w w.signal) k X
    at_it (inl below) listens_to =
        let there : 0 + k ≡ k = omega arith in
        let quiet = unheard_from ws w.signal does 0 (v w.signal) (written v w w.signal) (sym size) deaf k below in
        heard w.signal k (get_or (v w.signal) k X) (get_or (written v w w.signal) k X)
        (ap (λ place. listens ws w.signal place (get_or (v w.signal) k X) (get_or (written v w w.signal) k X) does) (sym there) ∙ quiet) listens_to
    at_it (inr past) listens_to =
        get_or_past (v w.signal) k X past ∙ sym (get_or_past (written v w w.signal) k X (omega (arith, size, past)))

-- it leaves what a continuous assignment reads, and so the value of its expression
pub unheard :
    (d : Flat) (v : Values) (w : Write) (target : List Piece) (e : Tree) → HaveWidths d v → IsWithin (widths d) w →
    IsSized (length d.signals) (widths d) e → hears (widths d) w.signal (v w.signal) (written v w w.signal) (Some (Assign target e)) ≡ false →
    value (written v w) e ≡ value v e
unheard d v w target e have inside sized deaf =
    value_agrees (length d.signals) (widths d) (written v w) v (λ i below. have_written d v w have inside i) (λ i below. have i) e sized
    (unheard_bits (widths d) v w (Assign target e) (reads (widths d) e) (fits d v w have inside) deaf (read_heard (widths d) target e))

pub signals_unheard :
    (d : Flat) (v : Values) (w : Write) (target : List Piece) (e : Tree) → SignalsHaveWidths d v → IsWithin (widths d) w →
    IsSized (length d.signals) (widths d) e → hears (widths d) w.signal (v w.signal) (written v w w.signal) (Some (Assign target e)) ≡ false →
    value (written v w) e ≡ value v e
signals_unheard d v w target e have inside sized deaf =
    value_agrees (length d.signals) (widths d) (written v w) v (λ i below. signals_written d v w have inside i (is_there d.signals i below))
    (λ i below. have i (is_there d.signals i below)) e sized
    (unheard_bits (widths d) v w (Assign target e) (reads (widths d) e) (signal_fits d v w have inside) deaf (read_heard (widths d) target e))

-- it leaves what a body lists that waits for levels alone
pub unheard_list :
    (d : Flat) (v : Values) (w : Write) (list : Option (List Watched)) (body : Actions) → HaveWidths d v → IsWithin (widths d) w →
    IsList d.signals list → hears (widths d) w.signal (v w.signal) (written v w w.signal) (Some (Comb list body)) ≡ false →
    (i k : ℕ) → listed (widths d) (Comb list body) i k ≡ true → Same (written v w) v i k
unheard_list d v w list body have inside lawful deaf =
    unheard_bits (widths d) v w (Comb list body) (listed (widths d) (Comb list body)) (fits d v w have inside) deaf
    (listed_heard d.signals (widths d) list body lawful)
