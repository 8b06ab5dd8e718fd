-- All that a simulator begins with is known.
use Rattle.std.proofs.Common.{◌≡◌, ◌∙◌, ◌<◌, ℕ, zero, suc, Bool, true, false, not, List, [], ◌∷◌, ◌++◌, length, map, refl, sym, subst, arith}
use Rattle.std.specs.Prelude.{None, Option, Some}
use Rattle.std.specs.List.{list_all}
use Rattle.std.proofs.lemmas.Bool.{and_parts, false≢true}
use Rattle.rtl_bits.specs.declared.Bit.{Bit}
use Rattle.rtl_bits.specs.Bits.{has_unknown}
use Rattle.rtl_flat.specs.Value.{store}
use Rattle.netlist_eval.specs.net_start.Start.{AreKnown, IsFirstUnknown}
use Rattle.vcd_check.specs.Departure.{is_known, or_none}

known_one : (o : Option (List Bit)) → is_known o ≡ true → has_unknown (or_none o) ≡ false
known_one None h = absurd (false≢true h)
known_one (Some bits) h = by (has_unknown bits) h
  where
    by : (t : Bool) → not t ≡ true → t ≡ false
    by true g = absurd (false≢true g)
    by false g = refl

known_all : (f : ℕ → Option (List Bit)) (xs : List ℕ) → list_all (λ i. is_known (f i)) xs ≡ true → AreKnown (map (λ i. or_none (f i)) xs)
known_all f [] h j below = absurd (omega (arith, below))
known_all f (i ∷ xs) h zero below = known_one (f i) (and_parts (is_known (f i)) (list_all (λ k. is_known (f k)) xs) h).0
known_all f (i ∷ xs) h (suc j) below =
    known_all f xs (and_parts (is_known (f i)) (list_all (λ k. is_known (f k)) xs) h).1 j (omega (arith, below))

both_known : (xs ys : List (List Bit)) → AreKnown xs → AreKnown ys → AreKnown (xs ++ ys)
both_known [] ys left right j below = right j below
both_known (x ∷ xs) ys left right zero below = left zero (omega arith)
both_known (x ∷ xs) ys left right (suc j) below =
    both_known xs ys (λ i inside. left (suc i) (omega (arith, inside))) right j (omega (arith, below))

pub none_unknown : (f : ℕ → Option (List Bit)) (xs ys : List ℕ) (registers inputs : List (List Bit)) (place : ℕ) → list_all (λ i. is_known (f i)) xs ≡ true → list_all (λ i. is_known (f i)) ys ≡ true → registers ≡ map (λ i. or_none (f i)) xs → inputs ≡ map (λ i. or_none (f i)) ys → IsFirstUnknown (registers ++ inputs) place → ⊥
none_unknown f xs ys registers inputs place first second are given unknown =
    let left = subst AreKnown (sym are) (known_all f xs first) in
    let right = subst AreKnown (sym given) (known_all f ys second) in
    false≢true (sym (both_known registers inputs left right place unknown.there) ∙ unknown.unknown)
