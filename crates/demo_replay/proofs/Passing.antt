-- The signals that differ, one number after another.
use Rattle.std.proofs.Common.{◌≡◌, ◌∙◌, ◌&&◌, ◌+◌, ℕ, Bool, true, false, not, cond, if◌then◌else◌, List, [], ◌∷◌, ◌++◌, map, refl, sym, ap, add-one}
use Rattle.std.proofs.lemmas.List.{map-append}
use Rattle.rtl_bits.specs.declared.Bit.{Bit}
use Rattle.demo_told.specs.Same.{are_same}
use Rattle.demo_told.specs.declared.demo.Shown.{Shown}
use Rattle.demo_replay.specs.declared.compare.Difference.{Difference}
use Rattle.demo_replay.specs.Firsts.{differs}
use Rattle.demo_replay.specs.Runs.{Moment}
use Rattle.demo_replay.specs.Tables.{difference, passing}

-- ---- one signal

abbrev made : ℕ → List Bit → List Bit → Difference
made n a b = record { signal = record { 0 = n }; shown = record { simulated = a; synthesised = b } }

pub is_difference : (m : Moment) (n : ℕ) (shown : Shown) → shown.simulated ≡ m.simulated n → shown.synthesised ≡ m.synthesised n → record { signal = record { 0 = n }; shown = shown } ≡ difference m n
is_difference m n shown simulated synthesised =
    ap (λ (a : List Bit). made n a shown.synthesised) simulated ∙ ap (made n (m.simulated n)) synthesised

pub is_test : (m : Moment) (n : ℕ) (shown : Shown) (b : Bool) → shown.simulated ≡ m.simulated n → shown.synthesised ≡ m.synthesised n → b ≡ not (are_same shown.simulated shown.synthesised) → b ≡ differs m n
is_test m n shown b simulated synthesised is =
    is ∙ ap (λ (a : List Bit). not (are_same a shown.synthesised)) simulated
    ∙ ap (λ (a : List Bit). not (are_same (m.simulated n) a)) synthesised

-- a temporary is passed over
pub where_free : (t b x : Bool) → t ≡ false → b ≡ x → b ≡ (not t && x)
where_free true b x free is = absurd (cc)
where_free false b x free is = is

pub where_marked : (t b x : Bool) → t ≡ true → b ≡ false → b ≡ (not t && x)
where_marked true b x marked is = is
where_marked false b x marked is = absurd (cc)

-- ---- one number more

mapped_if : (m : Moment) (n : ℕ) (b : Bool) → cond b (difference m n ∷ []) [] ≡ map (difference m) (if b then n ∷ [] else [])
mapped_if m n true = refl
mapped_if m n false = refl

pub one_more : (m : Moment) (test : ℕ → Bool) (n : ℕ) (b : Bool) (one : Difference) (old new : List Difference) → b ≡ test n → one ≡ difference m n → new ≡ old ++ cond b (one ∷ []) [] → old ≡ map (difference m) (passing n test) → new ≡ map (difference m) (passing (n + 1) test)
one_more m test n b one old new tested is made_of before =
    made_of ∙ ap (λ (l : List Difference). l ++ cond b (one ∷ []) []) before
    ∙ ap (λ (l : List Difference). map (difference m) (passing n test) ++ l)
    (ap (λ (d : Difference). cond b (d ∷ []) []) is ∙ ap (λ c. cond c (difference m n ∷ []) []) tested ∙ mapped_if m n (test n))
    ∙ sym (map-append (difference m) (passing n test) (if test n then n ∷ [] else []))
    ∙ ap (λ (k : ℕ). map (difference m) (passing k test)) (sym (add-one n))
