-- What an assignment of a design says of its target.
use Rattle.std.proofs.Common.{◌≡◌, ◌≤◌, ◌<◌, ◌+◌, ◌∙◌, ℕ, zero, suc, List, [], ◌∷◌, length, refl, sym, ap, arith}
use Rattle.std.specs.List.{All}
use Rattle.std.proofs.lemmas.List.Elements.{All-head, All-tail}
use Rattle.std.proofs.lemmas.List.Sums.{sum_by-cons}
use Rattle.rtl_flat.specs.declared.instance.Instance.{Instance}
use Rattle.rtl_flat.specs.declared.signal.Signal.{Signal}
use Rattle.rtl_flat.specs.Process.{Piece, Selection, Whole, BitAt, BitBy, Part}
use Rattle.rtl_flat.specs.Signs.{width_in}
use Rattle.rtl_flat.specs.WellFormed.{IsSelection, IsSignal, selection_width, target_width}
use Rattle.event_model.specs.Writes.{count_of, counts}
use Rattle.event_write.specs.Entries.{AreSelected}

-- a signal has a bit at least
pub some_bits : (instances : List Instance) (signals : List Signal) → All (IsSignal instances) signals → (i : ℕ) → i < length signals → 1 ≤ width_in signals i
some_bits instances [] h i lt = absurd (omega (arith, lt))
some_bits instances (s ∷ signals) h zero lt = (All-head (IsSignal instances) s signals h).0
some_bits instances (s ∷ signals) h (suc i) lt =
    some_bits instances signals (All-tail (IsSignal instances) s signals h) i (omega (arith, lt))

-- so has a selection
pub a_bit : (signals : List Signal) → ((i : ℕ) → i < length signals → 1 ≤ width_in signals i) → (i : ℕ) (selection : Selection) → IsSelection signals i selection → 1 ≤ count_of (width_in signals) i selection
a_bit signals some i Whole h = some i h
a_bit signals some i (BitAt low index) h = omega arith
a_bit signals some i (BitBy low index) h = omega arith
a_bit signals some i (Part low width) h = h.0

pub are_selected : (signals : List Signal) → ((i : ℕ) → i < length signals → 1 ≤ width_in signals i) → (parts : List Piece) → All (λ piece. IsSelection signals piece.signal piece.selection) parts → AreSelected signals parts
are_selected signals some [] h = tt
are_selected signals some (piece ∷ parts) h =
    let first = All-head (λ (p : Piece). IsSelection signals p.signal p.selection) piece parts h in
    (first, a_bit signals some piece.signal piece.selection first, are_selected signals some parts (All-tail (λ (p : Piece). IsSelection signals p.signal p.selection) piece parts h))

count_is : (signals : List Signal) (i : ℕ) (selection : Selection) → count_of (width_in signals) i selection ≡ selection_width signals i selection
count_is signals i Whole = refl
count_is signals i (BitAt low index) = refl
count_is signals i (BitBy low index) = refl
count_is signals i (Part low width) = refl

pub counts_is : (signals : List Signal) (parts : List Piece) → counts (width_in signals) parts ≡ target_width signals parts
counts_is signals [] = refl
counts_is signals (piece ∷ parts) =
    ap (λ n. n + counts (width_in signals) parts) (count_is signals piece.signal piece.selection)
    ∙ ap (λ n. selection_width signals piece.signal piece.selection + n) (counts_is signals parts)
    ∙ sym (sum_by-cons (λ (p : Piece). selection_width signals p.signal p.selection) piece parts)

-- a target has no more parts than bits
pub few_parts : (signals : List Signal) (parts : List Piece) → AreSelected signals parts → length parts ≤ counts (width_in signals) parts
few_parts signals [] h = omega arith
few_parts signals (piece ∷ parts) h =
    let here = h.1 in
    let rest = few_parts signals parts h.2 in
    omega (arith, here, rest)

-- a target with a bit has a part
pub some_part : (signals : List Signal) (parts : List Piece) → 1 ≤ target_width signals parts → 1 ≤ length parts
some_part signals [] h = h
some_part signals (piece ∷ parts) h = omega arith
