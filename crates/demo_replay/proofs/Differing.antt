-- The first place among the signals that differ after each step is the first place of what is there.
use Rattle.std.proofs.Common.{◌≡◌, ◌∙◌, ℕ, zero, suc, Bool, true, false, not, ◌&&◌, ◌||◌, if◌then◌else◌, List, [], ◌∷◌, ◌++◌, map, Option, None, Some, Vec, refl, sym, ap}
use Rattle.std.specs.declared.alloc.Global.{Global}
use Rattle.std.proofs.lemmas.Bool.{false≢true}
use Rattle.std.proofs.lemmas.List.{map-append}
use Rattle.rtl_flat.specs.declared.expr.SigId.{SigId}
use Rattle.rtl_rule.specs.Parts.{first_below, number, some_below}
use Rattle.demo_replay.specs.declared.compare.Difference.{Difference}
use Rattle.demo_replay.specs.Firsts as first
use Rattle.demo_replay.specs.Firsts.{Place, differs, first_place, first_signal}
use Rattle.demo_replay.specs.Runs.{Moment}
use Rattle.demo_replay.specs.Tables.{AreDifferences, difference, differences, first_among, first_in, is_marked, passing, place_or}

-- the first, or else another
abbrev or_else : {A : Type 0} → Option A → Option A → Option A
or_else None other = other
or_else (Some a) other = Some a

abbrev is_there : Option SigId → Bool
is_there None = false
is_there (Some s) = true

-- ---- one moment

-- a number as a signal that differs
abbrev as_difference : Moment → Option SigId → Option Difference
as_difference m None = None
as_difference m (Some s) = Some (difference m s.0)

by_test : (b : Bool) (x : Difference) (rest whole next : Option Difference) → whole ≡ or_else rest next → (if b then Some x else whole) ≡ or_else (if b then Some x else rest) next
by_test true x rest whole next same = refl
by_test false x rest whole next same = same

among_append : (p : ℕ → Bool) (xs ys : List Difference) → first_among p (xs ++ ys) ≡ or_else (first_among p xs) (first_among p ys)
among_append p [] ys = refl
among_append p (x ∷ xs) ys =
    by_test (p x.signal.0) x (first_among p xs) (first_among p (xs ++ ys)) (first_among p ys) (among_append p xs ys)

there_next : (b c : Bool) (f : Option SigId) (n : ℕ) → b ≡ is_there f → (b || c) ≡ is_there (if b then f else if c then number n else None)
there_next true c f n same = same
there_next false true f n same = refl
there_next false false f n same = refl

there : (n : ℕ) (test : ℕ → Bool) → some_below n test ≡ is_there (first_below n test)
there zero test = refl
there (suc n) test = there_next (some_below n test) (test n) (first_below n test) n (there n test)

joined : (b : Bool) (m : Moment) (f x : Option SigId) → b ≡ is_there f → as_difference m (if b then f else x) ≡ or_else (as_difference m f) (as_difference m x)
joined true m None x same = absurd (false≢true (sym same))
joined true m (Some s) x same = refl
joined false m None x same = refl
joined false m (Some s) x same = absurd (false≢true same)

-- one number, where a test says whether it is compared
abbrev single : Bool → Moment → ℕ → Bool → Option Difference
single b m n true = if b then Some (difference m n) else None
single b m n false = None

single_is : (p : ℕ → Bool) (m : Moment) (n : ℕ) (c : Bool) → first_among p (map (difference m) (if c then n ∷ [] else [])) ≡ single (p n) m n c
single_is p m n true = refl
single_is p m n false = refl

single_first : (b t d : Bool) (m : Moment) (n : ℕ) → (b ≡ true → t ≡ false) → single b m n (not t && d) ≡ as_difference m (if b && d then number n else None)
single_first true true d m n free = absurd (false≢true (sym (free refl)))
single_first true false true m n free = refl
single_first true false false m n free = refl
single_first false true d m n free = refl
single_first false false true m n free = refl
single_first false false false m n free = refl

module _ (p : ℕ → Bool) (temporaries : List Bool) (free : (s : ℕ) → p s ≡ true → is_marked temporaries s ≡ false) where
  abbrev test : Moment → ℕ → Bool
  test m s = not (is_marked temporaries s) && differs m s

  among_is : (m : Moment) (n : ℕ) → first_among p (map (difference m) (passing n (test m))) ≡ as_difference m (first_below n (λ s. p s && differs m s))
  among_is m zero = refl
  among_is m (suc n) =
      let both = λ (s : ℕ). p s && differs m s in
      let last = if test m n then n ∷ [] else [] in
      ap (first_among p) (map-append (difference m) (passing n (test m)) last)
      ∙ among_append p (map (difference m) (passing n (test m))) (map (difference m) last)
      ∙ ap (λ (o : Option Difference). or_else o (first_among p (map (difference m) last))) (among_is m n)
      ∙ ap (or_else (as_difference m (first_below n both))) (single_is p m n (test m n) ∙ single_first (p n) (is_marked temporaries n) (differs m n) m n (free n))
      ∙ sym (joined (some_below n both) m (first_below n both) (if both n then number n else None) (there n both))

  -- ---- all steps

  place_is : (step : ℕ) (m : Moment) (o : Option SigId) (otherwise : Option Place) → place_or step (as_difference m o) otherwise ≡ first.place_or step m o otherwise
  place_is step m None otherwise = refl
  place_is step m (Some s) otherwise = refl

  pub first_is : (count step : ℕ) (moments : List Moment) (steps : List (Vec Difference Global)) → AreDifferences count temporaries moments steps → first_in p step steps ≡ first_place count p step moments
  first_is count step [] [] same = refl
  first_is count step [] (s ∷ steps) same = absurd (cc)
  first_is count step (m ∷ moments) [] same = absurd (cc)
  first_is count step (m ∷ moments) (s ∷ steps) same =
      let here : s.items ≡ differences count temporaries m = cc in
      let others : AreDifferences count temporaries moments steps = cc in
      ap (λ (all : List Difference). place_or step (first_among p all) (first_in p (suc step) steps)) here
      ∙ ap (λ (o : Option Difference). place_or step o (first_in p (suc step) steps)) (among_is m count)
      ∙ place_is step m (first_signal count p m) (first_in p (suc step) steps)
      ∙ ap (first.place_or step m (first_signal count p m)) (first_is count (suc step) moments steps others)
