-- Instances behind one of a depth, of which those right under it are kept.
use Rattle.std.specs.Prelude.{ℕ, ◌+◌, ◌<◌, ◌≤◌, ◌≢◌, ◌==◌, nat_lt, true, false, List, [], ◌∷◌, ◌++◌, length, map, drop, Option, None, Some, IfSome}
use Rattle.std.proofs.Common.{◌≡◌, ◌∙◌, Bor, ap, append-nil, append_assoc, arith, get_or, refl, subst, sym}
use Rattle.std.proofs.lemmas.Bool.Decides.{nat_tests}
use Rattle.std.proofs.lemmas.List.{at_drop_all, at_drop_more}
use Rattle.elab_walk.specs.elab_scope.Names.{Meanings, meanings}
use Rattle.elab_walk.specs.elab_scope.declared.names.Names.{Names}
use Rattle.elab_walk.specs.declared.trail.Placement.{Placement as Made}
use Rattle.elab_walk.specs.Placements.{Placement}
use Rattle.elab_walk.specs.Trails.{placement}
use Rattle.elab_walk.specs.Visits.{scope_in}
use Rattle.elab_flat.specs.declared.works.Child.{Child}
use Rattle.elab_flat.specs.Children.{AreKept, IsKnown}
use Rattle.elab_flat.specs.Held.{depth_of, held_under}

own_held : (d : ℕ) (p : Placement) (others : List Placement) → depth_of p ≡ d + 1 → held_under d (p ∷ others) ≡ p ∷ held_under d others
own_held d p others at =
    let first : nat_lt d (depth_of p) ≡ true = grind (arith, nat_tests) in
    let second : (depth_of p == d + 1) ≡ true = grind (arith, nat_tests) in
    rw (first, second) refl

past_held : (d : ℕ) (p : Placement) (others : List Placement) → d < depth_of p → depth_of p ≢ d + 1 → held_under d (p ∷ others) ≡ held_under d others
past_held d p others deeper isnt =
    let first : nat_lt d (depth_of p) ≡ true = grind (arith, nat_tests) in
    let second : (depth_of p == d + 1) ≡ false = grind (arith, nat_tests) in
    rw (first, second) refl

none_held : (d : ℕ) (p : Placement) (others : List Placement) → depth_of p ≤ d → held_under d (p ∷ others) ≡ []
none_held d p others low =
    let first : nat_lt d (depth_of p) ≡ false = grind (arith, nat_tests) in
    rw first refl

-- names that stand for this, where they are kept
pub is_known : (base : ℕ) (names : Option (Bor Names)) (scope : Meanings) → IfSome names (λ names. meanings names.now ≡ scope) → IsKnown (record { base = base; names = names }) scope
is_known base None scope h = tt
is_known base (Some names) scope h = h

-- those right under it from a place on
abbrev pub held_from : ℕ → List Made → ℕ → List Placement
held_from d behind i = held_under d (map placement (drop i behind))

-- whether what is kept so far is right, once those from a place on are kept too
abbrev pub AreKeptTo : ℕ → List Made → ℕ → List Child → Type 0
AreKeptTo d behind i made =
    (kept : List Child) → AreKept kept (held_from d behind i) → AreKept (made ++ kept) (held_under d (map placement behind))

first_held : (d : ℕ) (behind : List Made) (i : ℕ) (other : Made) → i < length behind → other ≡ get_or behind i other → held_from d behind i ≡ held_under d (placement other ∷ map placement (drop (i + 1) behind))
first_held d behind i other inside is =
    at_drop_more (λ ps. held_under d (map placement ps)) behind i other inside
    ∙ ap (λ p. held_under d (placement p ∷ map placement (drop (i + 1) behind))) (sym is)

pub keep_own : (d : ℕ) (behind : List Made) (i : ℕ) (other : Made) (made : List Child) (child : Child) → i < length behind → other ≡ get_or behind i other → depth_of (placement other) ≡ d + 1 → child.base ≡ (placement other).base → IsKnown child (scope_in (placement other).visit) → AreKeptTo d behind i made → AreKeptTo d behind (i + 1) (made ++ child ∷ [])
keep_own d behind i other made child inside is at base known h kept more =
    let here : placement other ∷ held_from d behind (i + 1) ≡ held_from d behind i =
    sym (first_held d behind i other inside is ∙ own_held d (placement other) (map placement (drop (i + 1) behind)) at) in
    subst (λ all. AreKept all (held_under d (map placement behind))) (sym (append_assoc made (child ∷ []) kept)) (h (child ∷ kept) (subst (AreKept (child ∷ kept)) here ((base, known), more)))

pub keep_past : (d : ℕ) (behind : List Made) (i : ℕ) (other : Made) (made : List Child) → i < length behind → other ≡ get_or behind i other → d < depth_of (placement other) → depth_of (placement other) ≢ d + 1 → AreKeptTo d behind i made → AreKeptTo d behind (i + 1) made
keep_past d behind i other made inside is deeper isnt h kept more =
    h kept (subst (AreKept kept) (sym (first_held d behind i other inside is ∙ past_held d (placement other) (map placement (drop (i + 1) behind)) deeper isnt)) more)

-- where no others are right under it
keep_all : (d : ℕ) (behind : List Made) (i : ℕ) (made : List Child) → held_from d behind i ≡ [] → AreKeptTo d behind i made → AreKept made (held_under d (map placement behind))
keep_all d behind i made none h =
    subst (λ all. AreKept all (held_under d (map placement behind))) (append-nil made) (h [] (subst (AreKept []) (sym none) tt))

pub keep_low : (d : ℕ) (behind : List Made) (i : ℕ) (other : Made) (made : List Child) → i < length behind → other ≡ get_or behind i other → depth_of (placement other) ≤ d → AreKeptTo d behind i made → AreKept made (held_under d (map placement behind))
keep_low d behind i other made inside is low h =
    keep_all d behind i made (first_held d behind i other inside is ∙ none_held d (placement other) (map placement (drop (i + 1) behind)) low) h

pub keep_end : (d : ℕ) (behind : List Made) (i : ℕ) (made : List Child) → length behind ≤ i → AreKeptTo d behind i made → AreKept made (held_under d (map placement behind))
keep_end d behind i made past h =
    keep_all d behind i made (at_drop_all (λ ps. held_under d (map placement ps)) behind i past) h
