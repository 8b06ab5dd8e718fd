-- What an assignment writes may be what it writes from other values, and so may what the writes leave.
use Rattle.std.proofs.Common.{◌≡◌, ◌∙◌, ◌+◌, ◌==◌, ℕ, Bool, true, false, ◌&&◌, ◌||◌, cond, if◌then◌else◌, nat_lt, nat_le, pos, ◌-ℤ◌, List, [], ◌∷◌, ◌++◌, length, map, take, drop, Option, None, Some, refl, sym, ap, subst}
use Rattle.std.specs.List.{list_any}
use Rattle.std.proofs.lemmas.Bool.{or_left, or_right, true≢false}
use Rattle.std.proofs.lemmas.List.Elements.{All-head, All-tail}
use Rattle.rtl_bits.specs.declared.Bit.{Bit}
use Rattle.rtl_bits.specs.Bits.{has_unknown, replaced, selected}
use Rattle.rtl_flat.specs.Expression.{Tree}
use Rattle.rtl_flat.specs.Flats.{Flat, widths}
use Rattle.rtl_flat.specs.Flows.{index_reads, reads, target_reads}
use Rattle.rtl_flat.specs.Process.{Piece, Selection, Whole, BitAt, BitBy, Part}
use Rattle.rtl_flat.specs.Signs.{IsExpression, sign_of}
use Rattle.rtl_flat.specs.Value.{index_number, value}
use Rattle.rtl_flat.specs.WellFormed.{IsSelection}
use Rattle.event_model.specs.Bodies.{Made, Now, Later, after_made, assigned}
use Rattle.event_model.specs.Traces.{covers, makes_now}
use Rattle.event_model.specs.Writes.{Values, Write, Span, bit_inside, count_of, counts, span_of, write_at, writes, written}
use Rattle.event_laws.specs.Steady.{HaveWidths}
use Rattle.event_laws.proofs.Agreement.{value_agrees}
use Rattle.event_laws.proofs.Alike.{AgreeOn}
use Rattle.event_laws.proofs.Inside.{AreSelections}
use Rattle.event_covers.specs.Covers.{AllMayBe, MadeMayBe, WriteMayBe, WritesMayBe}
use Rattle.event_covers.proofs.MayBe.{append_may, drop_may, may_length, selected_may, take_may, zip_append}

-- ---- what is written

write_may :
    (signal : ℕ) (at : Option Span) (bits bits' : List Bit) → AllMayBe bits bits' →
    WritesMayBe (write_at signal at bits) (write_at signal at bits')
write_may signal None bits bits' is = tt
write_may signal (Some at) bits bits' is = (record { signal = refl; at = refl; bits = is }, tt)

now_may : (ws zs : List Write) → WritesMayBe ws zs → MadeMayBe (map Now ws) (map Now zs)
now_may [] [] is = tt
now_may [] (z ∷ zs) is = absurd is
now_may (w ∷ ws) [] is = absurd is
now_may (w ∷ ws) (z ∷ zs) is = (is.0, now_may ws zs is.1)

pub assigned_may :
    (delayed : Bool) (ws zs : List Write) → WritesMayBe ws zs → MadeMayBe (assigned delayed ws) (assigned delayed zs)
assigned_may false ws zs is = now_may ws zs is
assigned_may true ws zs is = (is, tt)

module _ (d : Flat) (v u : Values) (have : HaveWidths d v) (have' : HaveWidths d u) where
  pub same_value : (e : Tree) → IsExpression d.signals e → AgreeOn v u (reads (widths d) e) → value v e ≡ value u e
  same_value e lawful same =
      value_agrees (length d.signals) (widths d) v u (λ i below. have i) (λ i below. have' i) e lawful.widths same

  -- where indices are the same, the same bits are meant
  same_span :
      (signal : ℕ) (selection : Selection) → IsSelection d.signals signal selection →
      AgreeOn v u (index_reads (widths d) selection) →
      span_of (widths d) v signal selection ≡ span_of (widths d) u signal selection
  same_span signal Whole lawful same = refl
  same_span signal (BitAt low index) lawful same = refl
  same_span signal (BitBy low index) lawful same =
      ap (λ a. cond (has_unknown a) None (bit_inside (widths d signal) (index_number (sign_of index) a -ℤ pos low)))
      (same_value index lawful.1 same)
  same_span signal (Part low width) lawful same = refl

  pub writes_may :
      (target : List Piece) → AreSelections d.signals target → AgreeOn v u (target_reads (widths d) target) →
      (bits bits' : List Bit) → AllMayBe bits bits' →
      WritesMayBe (writes (widths d) v target bits) (writes (widths d) u target bits')
  writes_may [] lawful same bits bits' is = tt
  writes_may (piece ∷ others) lawful same bits bits' is =
      let ws = widths d in
      let low = counts ws others in
      let count = count_of ws piece.signal piece.selection in
      let at = span_of ws v piece.signal piece.selection in
      let here = All-head (λ (one : Piece). IsSelection d.signals one.signal one.selection) piece others lawful in
      let rest = All-tail (λ (one : Piece). IsSelection d.signals one.signal one.selection) piece others lawful in
      let span = same_span piece.signal piece.selection here
      (λ i k is. same i k (or_left (index_reads ws piece.selection i k) _ is)) in
      zip_append WriteMayBe (write_at piece.signal at (selected low count bits)) (writes ws v others bits)
      (write_at piece.signal (span_of ws u piece.signal piece.selection) (selected low count bits')) (writes ws u others bits')
      (subst (λ there. WritesMayBe (write_at piece.signal at (selected low count bits))
      (write_at piece.signal there (selected low count bits'))) span
      (write_may piece.signal at (selected low count bits) (selected low count bits') (selected_may low count bits bits' is)))
      (writes_may others rest (λ i k is. same i k (or_right (index_reads ws piece.selection i k) _ is)) bits bits' is)

-- ---- what writes leave

-- each signal's value may be its other value
abbrev pub SignalsMayBe : Values → Values → Type 0
SignalsMayBe v u = (i : ℕ) → AllMayBe (v i) (u i)

replaced_may :
    (at at' : ℕ) (part part' a a' : List Bit) → at ≡ at' → AllMayBe part part' → AllMayBe a a' →
    AllMayBe (replaced at part a) (replaced at' part' a')
replaced_may at at' part part' a a' same new old =
    subst (λ n. AllMayBe (replaced at part a) (replaced n part' a')) same
    (append_may (take at a ++ part) (drop (at + length part) a) (take at a' ++ part') (drop (at + length part') a')
    (append_may (take at a) part (take at a') part' (take_may at a a' old) new)
    (subst (λ n. AllMayBe (drop (at + length part) a) (drop (at + n) a')) (may_length part part' new)
    (drop_may (at + length part) a a' old)))

chosen_bits :
    (b c : Bool) (x y x' y' : List Bit) → b ≡ c → AllMayBe x x' → AllMayBe y y' →
    AllMayBe (if b then x else y) (if c then x' else y')
chosen_bits true true x y x' y' same left right = left
chosen_bits true false x y x' y' same left right = absurd (true≢false same)
chosen_bits false true x y x' y' same left right = absurd (true≢false (sym same))
chosen_bits false false x y x' y' same left right = right

pub written_may : (v u : Values) (w z : Write) → WriteMayBe w z → SignalsMayBe v u → SignalsMayBe (written v w) (written u z)
written_may v u w z is may i =
    chosen_bits (i == w.signal) (i == z.signal) (replaced w.at w.bits (v w.signal)) (v i)
    (replaced z.at z.bits (u z.signal)) (u i)
    (ap (λ n. i == n) is.signal)
    (replaced_may w.at z.at w.bits z.bits (v w.signal) (u z.signal) is.at is.bits
    (subst (λ n. AllMayBe (v w.signal) (u n)) is.signal (may w.signal)))
    (may i)

pub after_may :
    (v u : Values) (ms ns : List Made) → MadeMayBe ms ns → SignalsMayBe v u →
    SignalsMayBe (after_made v ms) (after_made u ns)
after_may v u [] [] is may = may
after_may v u [] (n ∷ ns) is may = absurd is
after_may v u (m ∷ ms) [] is may = absurd is
after_may v u (Now w ∷ ms) (Now z ∷ ns) is may =
    after_may (written v w) (written u z) ms ns is.1 (written_may v u w z is.0 may)
after_may v u (Now w ∷ ms) (Later zs ∷ ns) is may = absurd is.0
after_may v u (Later ws ∷ ms) (Now z ∷ ns) is may = absurd is.0
after_may v u (Later ws ∷ ms) (Later zs ∷ ns) is may = after_may v u ms ns is.1 may

-- ---- which bits are written

same_covers : (i k : ℕ) (w z : Write) → WriteMayBe w z → covers i k w ≡ covers i k z
same_covers i k w z is =
    ap (λ s. (s == i) && (nat_le w.at k && nat_lt k (w.at + length w.bits))) is.signal
    ∙ ap (λ n. (z.signal == i) && (nat_le n k && nat_lt k (n + length w.bits))) is.at
    ∙ ap (λ n. (z.signal == i) && (nat_le z.at k && nat_lt k (z.at + n))) (may_length w.bits z.bits is.bits)

pub same_now : (i k : ℕ) (ms ns : List Made) → MadeMayBe ms ns → list_any (makes_now i k) ms ≡ list_any (makes_now i k) ns
same_now i k [] [] is = refl
same_now i k [] (n ∷ ns) is = absurd is
same_now i k (m ∷ ms) [] is = absurd is
same_now i k (Now w ∷ ms) (Now z ∷ ns) is =
    ap (λ b. b || list_any (makes_now i k) ms) (same_covers i k w z is.0)
    ∙ ap (λ b. covers i k z || b) (same_now i k ms ns is.1)
same_now i k (Now w ∷ ms) (Later zs ∷ ns) is = absurd is.0
same_now i k (Later ws ∷ ms) (Now z ∷ ns) is = absurd is.0
same_now i k (Later ws ∷ ms) (Later zs ∷ ns) is = same_now i k ms ns is.1
