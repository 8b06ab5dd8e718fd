-- A continuous assignment gives digits.
use Rattle.std.proofs.Common.{◌≡◌, ◌-◌, ◌≤◌, ℕ, true, List, [], ◌∷◌, length, All, Option, None, Some, inl, inr, arith}
use Rattle.std.proofs.lemmas.Bool.{or_cases, or_left, or_right}
use Rattle.std.proofs.lemmas.List.{length-replicate}
use Rattle.std.proofs.lemmas.List.Elements.{All-append, All-cons, All-head, All-nil, All-tail}
use Rattle.rtl_bits.specs.declared.Bit.{Bit}
use Rattle.rtl_bits.specs.declared.Bit.TheVariants.{Z}
use Rattle.rtl_bits.specs.Bits.{selected}
use Rattle.rtl_flat.specs.Expression.{Tree}
use Rattle.rtl_flat.specs.Flows.{may_select, may_target, selects, targets}
use Rattle.rtl_flat.specs.Process.{Assign, Piece, Selection, Whole, BitAt, BitBy, Part}
use Rattle.rtl_flat.specs.Sizes.{width_of}
use Rattle.rtl_flat.specs.WellFormed.{IsFixed, IsProcess}
use Rattle.rtl_flat.specs.Flats.{Flat, widths}
use Rattle.event_model.specs.Writes.{Span, Values, count_of, counts, driven, no_drive, span_of, write_at, writes}
use Rattle.net_body.proofs.event_laws_proofs.Inside.{writes_within}
use Rattle.net_body.proofs.event_laws_proofs.Targets.{same_count, target_over}
use Rattle.net_body.proofs.event_laws_proofs.Written.{covered}
use Rattle.net_model.specs.declared.fill.Fill.{Fill}
use Rattle.net_model.specs.Numbers.{AreNumbers, bit, digits}
use Rattle.net_solve.proofs.event_runs_proofs.Resolved.{GivesSo, over_so}
use Rattle.net_body.specs.net_laws.Laws.{IsNumber}
use Rattle.net_body.proofs.net_laws_proofs.Known.{Known, KnownBit, known_at, selected_known}
use Rattle.net_body.proofs.net_laws_proofs.Laws.{digits_known}

part_gives : (signal i k : ℕ) (span : Option Span) (bits : List Bit) → Known bits → All (GivesSo KnownBit i k) (write_at signal span bits)
part_gives signal i k None bits known = All-nil (GivesSo KnownBit i k)
part_gives signal i k (Some span) bits known =
    All-cons (GivesSo KnownBit i k) (record { signal = signal; at = span.at; bits = bits }) []
    (λ over. let (here, from, below) = covered i k (record { signal = signal; at = span.at; bits = bits }) over in
    known_at bits (k - span.at) known (omega (arith, from, below)))
    (All-nil (GivesSo KnownBit i k))

all_give :
    (ws : ℕ → ℕ) (v : Values) (i k : ℕ) (target : List Piece) (bits : List Bit) → Known bits → All (GivesSo KnownBit i k) (writes ws v target bits)
all_give ws v i k [] bits known = All-nil (GivesSo KnownBit i k)
all_give ws v i k (piece ∷ others) bits known =
    let count = count_of ws piece.signal piece.selection in
    let span = span_of ws v piece.signal piece.selection in
    let part = selected (counts ws others) count bits in
    All-append (GivesSo KnownBit i k) (write_at piece.signal span part) (writes ws v others bits)
    (part_gives piece.signal i k span part (selected_known (counts ws others) count bits known))
    (all_give ws v i k others bits known)

-- a fixed target has each of its bits whatever indices are
fixed_part : (ws : ℕ → ℕ) (signal : ℕ) (selection : Selection) → IsFixed selection → (i k : ℕ) → may_select ws signal selection i k ≡ true → selects ws signal selection i k ≡ true
fixed_part ws signal Whole fixed i k is = is
fixed_part ws signal (BitAt low index) fixed i k is = is
fixed_part ws signal (BitBy low index) fixed i k is = absurd fixed
fixed_part ws signal (Part low width) fixed i k is = is

fixed_target : (ws : ℕ → ℕ) (target : List Piece) → All (λ piece. IsFixed piece.selection) target → (i k : ℕ) → may_target ws target i k ≡ true → targets ws target i k ≡ true
fixed_target ws [] fixed i k is = is
fixed_target ws (piece ∷ others) fixed i k is =
    elim (or_cases (may_select ws piece.signal piece.selection i k) (may_target ws others i k) is) [
      | inl here ↦
          or_left (selects ws piece.signal piece.selection i k) _
          (fixed_part ws piece.signal piece.selection (All-head (λ (one : Piece). IsFixed one.selection) piece others fixed) i k here)
      | inr there ↦
          or_right (selects ws piece.signal piece.selection i k) _
          (fixed_target ws others (All-tail (λ (one : Piece). IsFixed one.selection) piece others fixed) i k there)
    ]

-- so the number of an expression gives
pub driven_known :
    (d : Flat) (f : Fill) (n : Values) → AreNumbers d n → (target : List Piece) (e : Tree) → IsProcess d.signals (Assign target e) →
    (i k : ℕ) → may_target (widths d) target i k ≡ true → KnownBit (bit (driven (widths d) target (digits f n e)) i k)
driven_known d f n are target e lawful i k is =
    over_so d KnownBit i k (no_drive (widths d)) (writes (widths d) (no_drive (widths d)) target (digits f n e)) (λ j. length-replicate (widths d j) Z)
    (writes_within d.signals (no_drive (widths d)) target (digits f n e) lawful.0.parts)
    (all_give (widths d) (no_drive (widths d)) i k target (digits f n e) number.known)
    (inr (target_over (widths d) (no_drive (widths d)) target (digits f n e) enough i k (fixed_target (widths d) target lawful.1 i k is)))
  where
    number : IsNumber (width_of (widths d) e) (digits f n e)
    number = digits_known d f n e are lawful.0.sized

    enough : counts (widths d) target ≤ length (digits f n e)
    enough =
        let size = number.wide in
        let count = same_count d.signals target in
        let covered' = lawful.0.covered in
        omega (arith, size, count, covered')
