-- What a continuous assignment makes of digits.
use Rattle.std.proofs.Common.{◌≡◌, ◌∙◌, ◌⊎◌, ◌+◌, ◌≤◌, ℕ, Bool, true, false, cond, ◌||◌, List, [], ◌∷◌, ◌++◌, length, get_or, inl, inr, ap, refl, sym, arith}
use Rattle.std.specs.List.{All, list_any}
use Rattle.std.proofs.lemmas.Bool.{cases_Bool, false_from_ne_true, or_cases, or_left, or_right, true≢false}
use Rattle.std.proofs.lemmas.List.{length-replicate}
use Rattle.std.proofs.lemmas.List.Elements.{All-head, All-tail}
use Rattle.rtl_bits.specs.declared.Bit.{Bit}
use Rattle.rtl_bits.specs.declared.Bit.TheVariants.{X, Z}
use Rattle.rtl_bits.specs.Bits.{selected, tabulate}
use Rattle.rtl_bits.proofs.Lists.{tabulate-congr}
use Rattle.rtl_flat.specs.declared.signal.Signal.{Signal}
use Rattle.rtl_flat.specs.Expression.{Tree}
use Rattle.rtl_flat.specs.Flows.{may_select, may_target, selects, targets}
use Rattle.rtl_flat.specs.Process.{Assign, Piece, Selection, Whole, BitAt, BitBy, Part}
use Rattle.rtl_flat.specs.Signs.{width_in}
use Rattle.rtl_flat.specs.WellFormed.{IsFixed, IsProcess}
use Rattle.event_model.specs.Traces.{covers}
use Rattle.event_model.specs.Writes.{Values, Write, all_written, count_of, counts, driven, no_drive, span_of, write_at, writes, written}
use Rattle.net_number.specs.event_laws.Steady.{IsWithin}
use Rattle.net_number.proofs.event_laws_proofs.Inside.{writes_within}
use Rattle.net_number.proofs.event_laws_proofs.Lengths.{written_length}
use Rattle.net_number.proofs.event_laws_proofs.Targets.{IsOver, none_over, target_may, target_over}
use Rattle.net_number.proofs.event_laws_proofs.Written.{bit_kept, bit_written}
use Rattle.net_model.specs.declared.fill.Fill.{Fill}
use Rattle.net_model.specs.Block.{digit_writes, span_by}
use Rattle.net_model.specs.Numbers.{bit}

-- ---- fixed targets

fixed_span : (ws : ℕ → ℕ) (f : Fill) (n v : Values) (signal : ℕ) (selection : Selection) → IsFixed selection → span_by ws f n signal selection ≡ span_of ws v signal selection
fixed_span ws f n v signal Whole fixed = refl
fixed_span ws f n v signal (BitAt low index) fixed = refl
fixed_span ws f n v signal (BitBy low index) fixed = absurd fixed
fixed_span ws f n v signal (Part low width) fixed = refl

fixed_writes : (ws : ℕ → ℕ) (f : Fill) (n v : Values) (target : List Piece) (bits : List Bit) → All (λ piece. IsFixed piece.selection) target → digit_writes ws f n target bits ≡ writes ws v target bits
fixed_writes ws f n v [] bits fixed = refl
fixed_writes ws f n v (piece ∷ others) bits fixed =
    let part = selected (counts ws others) (count_of ws piece.signal piece.selection) bits in
    ap (λ span. write_at piece.signal span part ++ digit_writes ws f n others bits)
    (fixed_span ws f n v piece.signal piece.selection (All-head (λ (one : Piece). IsFixed one.selection) piece others fixed))
    ∙ ap (λ (us : List Write). write_at piece.signal (span_of ws v piece.signal piece.selection) part ++ us)
    (fixed_writes ws f n v others bits (All-tail (λ (one : Piece). IsFixed one.selection) piece others fixed))

fixed_part : (ws : ℕ → ℕ) (signal : ℕ) (selection : Selection) → IsFixed selection → (i k : ℕ) → may_select ws signal selection i k ≡ true → selects ws signal selection i k ≡ true
fixed_part ws signal Whole fixed i k is = is
fixed_part ws signal (BitAt low index) fixed i k is = is
fixed_part ws signal (BitBy low index) fixed i k is = absurd fixed
fixed_part ws signal (Part low width) fixed i k is = is

fixed_target : (ws : ℕ → ℕ) (target : List Piece) → All (λ piece. IsFixed piece.selection) target → (i k : ℕ) → may_target ws target i k ≡ true → targets ws target i k ≡ true
fixed_target ws [] fixed i k is = is
fixed_target ws (piece ∷ others) fixed i k is =
    elim (or_cases (may_select ws piece.signal piece.selection i k) (may_target ws others i k) is) [
      | inl here ↦
          or_left (selects ws piece.signal piece.selection i k) _
          (fixed_part ws piece.signal piece.selection (All-head (λ (one : Piece). IsFixed one.selection) piece others fixed) i k here)
      | inr there ↦
          or_right (selects ws piece.signal piece.selection i k) _
          (fixed_target ws others (All-tail (λ (one : Piece). IsFixed one.selection) piece others fixed) i k there)
    ]

-- ---- writes over two stores

module _ (ws : ℕ → ℕ) where
  inside_of : (v : Values) (w : Write) → ((i : ℕ) → length (v i) ≡ ws i) → IsWithin ws w → w.at + length w.bits ≤ length (v w.signal)
  inside_of v w wide inside = let size = wide w.signal in omega (arith, inside, size)

  wide_after : (v : Values) (us : List Write) → ((i : ℕ) → length (v i) ≡ ws i) → All (IsWithin ws) us → (i : ℕ) → length (all_written v us i) ≡ ws i
  wide_after v [] wide inside i = wide i
  wide_after v (w ∷ us) wide inside i =
      let here = inside_of v w wide (All-head (IsWithin ws) w us inside) in
      wide_after (written v w) us (λ j. written_length v w here j ∙ wide j) (All-tail (IsWithin ws) w us inside) i

  -- a bit that is written is the same whatever was before
  same_over : (v u : Values) (us : List Write) → ((i : ℕ) → length (v i) ≡ ws i) → ((i : ℕ) → length (u i) ≡ ws i) → All (IsWithin ws) us → (i k : ℕ) → (bit v i k ≡ bit u i k) ⊎ IsOver i k us → bit (all_written v us) i k ≡ bit (all_written u us) i k
  same_over v u [] wide wide' inside i k (inl same) = same
  same_over v u [] wide wide' inside i k (inr over) = absurd (none_over i k over)
  same_over v u (w ∷ us) wide wide' inside i k before =
      let first = inside_of v w wide (All-head (IsWithin ws) w us inside) in
      let second = inside_of u w wide' (All-head (IsWithin ws) w us inside) in
      same_over (written v w) (written u w) us (λ j. written_length v w first j ∙ wide j) (λ j. written_length u w second j ∙ wide' j) (All-tail (IsWithin ws) w us inside) i k
      (elim (cases_Bool (covers i k w)) [
        | inl over ↦ inl (bit_written v w i k first over ∙ sym (bit_written u w i k second over))
        | inr not_over ↦ later before (bit_kept v w i k first not_over) (bit_kept u w i k second not_over) not_over
      ])
    where
      later : (bit v i k ≡ bit u i k) ⊎ IsOver i k (w ∷ us) → bit (written v w) i k ≡ bit v i k → bit (written u w) i k ≡ bit u i k → covers i k w ≡ false → (bit (written v w) i k ≡ bit (written u w) i k) ⊎ IsOver i k us
      later (inl same) stays stays' not_over = inl (stays ∙ same ∙ sym stays')
      later (inr over) stays stays' not_over =
          elim (or_cases (covers i k w) (list_any (covers i k) us) over) [
            | inl here ↦ absurd (true≢false (sym here ∙ not_over))
            | inr others ↦ inr others
          ]

  -- and one that isn't stays
  kept_under : (v : Values) (us : List Write) → ((i : ℕ) → length (v i) ≡ ws i) → All (IsWithin ws) us → (i k : ℕ) → list_any (covers i k) us ≡ false → bit (all_written v us) i k ≡ bit v i k
  kept_under v [] wide inside i k none = refl
  kept_under v (w ∷ us) wide inside i k none =
      let first = inside_of v w wide (All-head (IsWithin ws) w us inside) in
      kept_under (written v w) us (λ j. written_length v w first j ∙ wide j) (All-tail (IsWithin ws) w us inside) i k (or_none_right (covers i k w) (list_any (covers i k) us) none)
      ∙ bit_kept v w i k first (or_none_left (covers i k w) (list_any (covers i k) us) none)
    where
      or_none_left : (a b : Bool) → (a || b) ≡ false → a ≡ false
      or_none_left true b e = e
      or_none_left false b e = refl

      or_none_right : (a b : Bool) → (a || b) ≡ false → b ≡ false
      or_none_right true b e = absurd (true≢false e)
      or_none_right false b e = e

-- ---- bits of a list

table_of : (a : List Bit) → a ≡ tabulate (length a) (λ k. get_or a k X)
table_of [] = refl
table_of (x ∷ a) = ap (λ (xs : List Bit). x ∷ xs) (table_of a)

-- a target that is driven has what its driver gives, and all other bits stay
pub drives : (signals : List Signal) (f : Fill) (n new : Values) (target : List Piece) (e : Tree) (bits : List Bit) → ((i : ℕ) → length (n i) ≡ width_in signals i) → IsProcess signals (Assign target e) → counts (width_in signals) target ≤ length bits → new ≡ all_written n (digit_writes (width_in signals) f n target bits) →
    (i : ℕ) → new i ≡ tabulate (width_in signals i) (λ k. cond (may_target (width_in signals) target i k) (bit (driven (width_in signals) target bits) i k) (bit n i k))
drives signals f n new target e bits wide lawful enough is i =
    let ws = width_in signals in
    let none : Values = no_drive ws in
    let us = writes ws none target bits in
    let within = writes_within signals none target bits lawful.0.parts in
    let written_is : new ≡ all_written n us = is ∙ ap (all_written n) (fixed_writes ws f n none target bits lawful.1) in
    let long : length (new i) ≡ ws i = ap (λ (v : Values). length (v i)) written_is ∙ wide_after ws n us wide within i in
    table_of (new i) ∙ ap (λ (m : ℕ). tabulate m (λ k. get_or (new i) k X)) long
    ∙ tabulate-congr (ws i) (λ k. get_or (new i) k X) (λ k. cond (may_target ws target i k) (bit (driven ws target bits) i k) (bit n i k))
    (λ k below. ap (λ (v : Values). bit v i k) written_is
    ∙ elim (cases_Bool (may_target ws target i k)) as (λ _. bit (all_written n us) i k ≡ cond (may_target ws target i k) (bit (driven ws target bits) i k) (bit n i k)) [
      | inl may ↦
          same_over ws n none us wide (λ j. length-replicate (ws j) Z) within i k (inr (target_over ws none target bits enough i k (fixed_target ws target lawful.1 i k may)))
          ∙ sym (ap (λ b. cond b (bit (driven ws target bits) i k) (bit n i k)) may)
      | inr cannot ↦
          kept_under ws n us wide within i k (false_from_ne_true (list_any (covers i k) us) (λ over. true≢false (sym (target_may signals none target bits lawful.0.parts i k over) ∙ cannot)))
          ∙ sym (ap (λ b. cond b (bit (driven ws target bits) i k) (bit n i k)) cannot)
    ])
