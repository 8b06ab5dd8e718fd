-- The next token, as the code reads it.
use Rattle.std.proofs.Common.{◌≡◌, ◌-◌, ◌<◌, ◌≤◌, true, false, List, [], ◌∷◌, length, map, take, drop, get_or, take_all, Some, None, refl, arith}
use Rattle.rtl_tree.specs.declared.symbol.Symbol.{Symbol}
use Rattle.rtl_tree.specs.declared.symbol.Terminal.{Terminal}
use Rattle.rtl_tree.specs.Symbols.{terminal}
use Rattle.text_build.specs.Reading.{same_symbol, starts, after, token, place, advance}

pub starts_none : (s : Symbol) (ts : List Terminal) → length ts ≡ 0 → starts s (map terminal ts) ≡ false
unfolding starts
starts_none s [] h = refl
starts_none s (t ∷ ts) h = absurd (omega arith)

pub starts_some : (s : Symbol) (ts : List Terminal) (d : Terminal) → 1 ≤ length ts → starts s (map terminal ts) ≡ same_symbol (get_or ts 0 d).symbol s
unfolding starts
starts_some s [] d h = absurd (omega arith)
starts_some s (t ∷ ts) d h = refl

pub rest_is : {X : Type 0} (t : X) (ts : List X) → take (length (t ∷ ts) - 1) ts ≡ ts
rest_is t ts = let n : length (t ∷ ts) - 1 ≡ length ts = omega arith in rw n (take_all (length ts) ts (omega arith))

pub token_some : (s : Symbol) (ts : List Terminal) (d : Terminal) → 1 ≤ length ts → same_symbol (get_or ts 0 d).symbol s ≡ true
    → token s (map terminal ts) ≡ Some (terminal (get_or ts 0 d), map terminal (take (length ts - 1) (drop 1 ts)))
unfolding token
token_some s [] d h e = absurd (omega arith)
token_some s (t ∷ ts) d h e = rw (e, rest_is t ts) refl

pub token_other : (s : Symbol) (ts : List Terminal) (d : Terminal) → 1 ≤ length ts → same_symbol (get_or ts 0 d).symbol s ≡ false → token s (map terminal ts) ≡ None
unfolding token
token_other s [] d h e = absurd (omega arith)
token_other s (t ∷ ts) d h e = rw e refl

pub token_none : (s : Symbol) (ts : List Terminal) → length ts < 1 → token s (map terminal ts) ≡ None
unfolding token
token_none s [] h = refl
token_none s (t ∷ ts) h = absurd (omega arith)

pub after_some : (s : Symbol) (ts : List Terminal) (d : Terminal) → 1 ≤ length ts → same_symbol (get_or ts 0 d).symbol s ≡ true
    → map terminal (take (length ts - 1) (drop 1 ts)) ≡ after s (map terminal ts)
unfolding after
after_some s [] d h e = absurd (omega arith)
after_some s (t ∷ ts) d h e = rw (e, rest_is t ts) refl

pub after_other : (s : Symbol) (ts : List Terminal) (d : Terminal) → 1 ≤ length ts → same_symbol (get_or ts 0 d).symbol s ≡ false → map terminal ts ≡ after s (map terminal ts)
unfolding after
after_other s [] d h e = absurd (omega arith)
after_other s (t ∷ ts) d h e = rw e refl

pub after_none : (s : Symbol) (ts : List Terminal) → length ts < 1 → map terminal ts ≡ after s (map terminal ts)
unfolding after
after_none s [] h = refl
after_none s (t ∷ ts) h = absurd (omega arith)

pub place_some : (ts : List Terminal) (d : Terminal) → 1 ≤ length ts → place (map terminal ts) ≡ Some ((get_or ts 0 d).at, map terminal ts)
unfolding place
place_some [] d h = absurd (omega arith)
place_some (t ∷ ts) d h = refl

pub place_none : (ts : List Terminal) → length ts ≡ 0 → place (map terminal ts) ≡ None
unfolding place
place_none [] h = refl
place_none (t ∷ ts) h = absurd (omega arith)

pub advance_some : (ts : List Terminal) (d : Terminal) → 1 ≤ length ts → advance (map terminal ts) ≡ Some ((get_or ts 0 d).at, map terminal (take (length ts - 1) (drop 1 ts)))
unfolding advance
advance_some [] d h = absurd (omega arith)
advance_some (t ∷ ts) d h = rw (rest_is t ts) refl

pub advance_none : (ts : List Terminal) → length ts < 1 → advance (map terminal ts) ≡ None
unfolding advance
advance_none [] h = refl
advance_none (t ∷ ts) h = absurd (omega arith)
