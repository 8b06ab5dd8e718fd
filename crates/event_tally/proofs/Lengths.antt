-- What drivers give to a net: as many bits as it has, and all that others give where they drive none of it.
use Rattle.std.proofs.Common.{ℕ, zero, suc, ◌≡◌, ◌∙◌, ◌≤◌, ◌+◌, arith, Bool, true, false, ◌||◌, List, [], ◌∷◌, ◌++◌, take, drop, length, Option, None, Some, refl, ap, inl, inr}
use Rattle.std.specs.Prelude.{◌==◌, if◌then◌else◌, replicate}
use Rattle.std.proofs.lemmas.Bool.{cases_eq, eq-eqb, ne_eqb}
use Rattle.std.proofs.lemmas.List.{length-append, length-take, length-drop, length-replicate}
use Rattle.rtl_bits.specs.declared.Bit.{Bit}
use Rattle.rtl_bits.specs.declared.Bit.TheVariants.{Z}
use Rattle.rtl_bits.specs.Bit.{resolve_bit}
use Rattle.rtl_bits.specs.Bits.{zip_with, replaced, selected}
use Rattle.rtl_flat.specs.Process.{Piece, Doing, Assign, Comb, Edge', Task}
use Rattle.event_model.specs.Writes.{Values, Write, Span, written, all_written, span_of, write_at, counts, count_of, writes, no_drive, driven}
use Rattle.event_model.specs.Queue.{drive_with, resolved_from}
use Rattle.event_tally.specs.Targets.{names, drives_of}

-- ---- lengths

replaced_long : (at : ℕ) (part a : List Bit) → length a ≤ length (replaced at part a)
replaced_long at part a =
    let all = length-append (take at a ++ part) (drop (at + length part) a) in
    let front = length-append (take at a) part in
    let kept = length-take at a in
    let back = length-drop (at + length part) a in
    let long : length a ≤ length (take at a ++ part ++ drop (at + length part) a) = omega (arith, all, front, kept, back) in
    long

written_long : (v : Values) (w : Write) (i n : ℕ) → n ≤ length (v i) → n ≤ length (written v w i)
written_long v w i n h =
    elim (cases_eq i w.signal) [
      | inl e ↦
          let is : written v w i ≡ replaced w.at w.bits (v w.signal) = ap (λ b. if b then replaced w.at w.bits (v w.signal) else v i) (eq-eqb i w.signal e) in
          let long = replaced_long w.at w.bits (v w.signal) in
          let same : length (v i) ≡ length (v w.signal) = ap (λ j. length (v j)) e in
          let size = ap length is in
          omega (arith, h, long, same, size)
      | inr apart ↦
          let is : written v w i ≡ v i = ap (λ b. if b then replaced w.at w.bits (v w.signal) else v i) (ne_eqb i w.signal apart) in
          let size = ap length is in
          omega (arith, h, size)
    ]

all_long : (v : Values) (ws : List Write) (i n : ℕ) → n ≤ length (v i) → n ≤ length (all_written v ws i)
all_long v [] i n h = h
all_long v (w ∷ ws) i n h = all_long (written v w) ws i n (written_long v w i n h)

pub driven_long : (ws : ℕ → ℕ) (target : List Piece) (bits : List Bit) (i : ℕ) → ws i ≤ length (driven ws target bits i)
driven_long ws target bits i =
    all_long (no_drive ws) (writes ws (no_drive ws) target bits) i (ws i) (let size = length-replicate (ws i) Z in omega (arith, size))

zip_length : (f : Bit → Bit → Bit) (a b : List Bit) → length b ≤ length a → length (zip_with f a b) ≡ length b
zip_length f [] [] h = refl
zip_length f [] (y ∷ b) h = absurd (omega (arith, h))
zip_length f (x ∷ a) [] h = refl
zip_length f (x ∷ a) (y ∷ b) h = ap suc (zip_length f a b (omega (arith, h)))

drive_length : (ws : ℕ → ℕ) (does : Doing) (bits : List Bit) (i : ℕ) (others : List Bit) → length others ≡ ws i → length (drive_with ws does bits i others) ≡ ws i
drive_length ws (Assign target e) bits i others same =
    zip_length resolve_bit (driven ws target bits i) others (let long = driven_long ws target bits i in omega (arith, long, same)) ∙ same
drive_length ws (Comb list body) bits i others same = same
drive_length ws (Edge' events body) bits i others same = same

pub resolved_length : (ws : ℕ → ℕ) (n : ℕ) (tasks : List Task) (driver : ℕ → List Bit) (i : ℕ) → length (resolved_from ws n tasks driver i) ≡ ws i
resolved_length ws n [] driver i = length-replicate (ws i) Z
resolved_length ws n (one ∷ others) driver i =
    drive_length ws one.does (driver n) i (resolved_from ws (n + 1) others driver i) (resolved_length ws (n + 1) others driver i)

-- ---- a net that isn't named

next_write : (v : Values) (signal : ℕ) (span : Option Span) (bits : List Bit) (rest : List Write) (i : ℕ) → (i == signal) ≡ false → ((u : Values) → all_written u rest i ≡ u i) → all_written v (write_at signal span bits ++ rest) i ≡ v i
next_write v signal None bits rest i e h = h v
next_write v signal (Some span) bits rest i e h =
    h (written v (record { signal = signal; at = span.at; bits = bits }))
    ∙ ap (λ b. if b then replaced span.at bits (v signal) else v i) e

first_false : (a b : Bool) → (a || b) ≡ false → a ≡ false
first_false true b h = h
first_false false b h = refl

second_false : (a b : Bool) → (a || b) ≡ false → b ≡ false
second_false true b h = absurd (cc)
second_false false b h = h

pub unwritten : (ws : ℕ → ℕ) (u : Values) (target : List Piece) (bits : List Bit) (i : ℕ) → names target i ≡ false → (v : Values) → all_written v (writes ws u target bits) i ≡ v i
unwritten ws u [] bits i h v = refl
unwritten ws u (piece ∷ others) bits i h v =
    next_write v piece.signal (span_of ws u piece.signal piece.selection) (selected (counts ws others) (count_of ws piece.signal piece.selection) bits) (writes ws u others bits) i
    (first_false (i == piece.signal) (names others i) h)
    (unwritten ws u others bits i (second_false (i == piece.signal) (names others i) h))

zip_z : (n : ℕ) (xs : List Bit) → length xs ≡ n → zip_with resolve_bit (replicate n Z) xs ≡ xs
zip_z zero [] h = refl
zip_z zero (x ∷ xs) h = absurd (omega (arith, h))
zip_z (suc n) [] h = refl
zip_z (suc n) (x ∷ xs) h = ap (λ ys. x ∷ ys) (zip_z n xs (omega (arith, h)))

-- a process that drives none of a net leaves what others give
pub undriven : (ws : ℕ → ℕ) (does : Doing) (bits : List Bit) (i : ℕ) (others : List Bit) → drives_of (Some does) i ≡ false → length others ≡ ws i → drive_with ws does bits i others ≡ others
undriven ws (Assign target e) bits i others h same =
    ap (λ xs. zip_with resolve_bit xs others) (unwritten ws (no_drive ws) target bits i h (no_drive ws))
    ∙ zip_z (ws i) others same
undriven ws (Comb list body) bits i others h same = refl
undriven ws (Edge' events body) bits i others h same = refl
