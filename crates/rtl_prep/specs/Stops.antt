-- What stops preparation, and doing one thing after another until something stops it.
-- Worked examples: crates/tests_layers/stdin.
use Rattle.std.specs.Prelude.{◌≡◌, ℕ, List, [], ◌∷◌, Result, Ok, Err}
use Rattle.rtl_tree.specs.declared.token.Token.{Token}
use Rattle.rtl_prep.specs.declared.fault.PrepFault.{PrepFault}
use Rattle.rtl_prep.specs.declared.fault.PrepFault.TheVariants.{Directive, Unbalanced, MacroLoop, TooManyTokens, Memory}

-- the first step of preparation that can't be done, with its name and its place
pub data Stop : Type 0 where
  Refused : (name : List ℕ) (at : ℕ) → Stop
  Alone : (at : ℕ) → Stop
  Loops : (name : List ℕ) (at : ℕ) → Stop
  Full : (at : ℕ) → Stop

-- a call answers this, seen as it is here, or the fault that stops it; want of memory may come at any time
abbrev pub Tells : {A B : Type 0} → (B → A) → Result A Stop → Result B PrepFault → Type 0
Tells seen outcome (Ok x) = outcome ≡ Ok (seen x)
Tells seen outcome (Err (Directive name at)) = outcome ≡ Err (Refused name.items at)
Tells seen outcome (Err (Unbalanced at)) = outcome ≡ Err (Alone at)
Tells seen outcome (Err (MacroLoop name at)) = outcome ≡ Err (Loops name.items at)
Tells seen outcome (Err (TooManyTokens at)) = outcome ≡ Err (Full at)
Tells seen outcome (Err Memory) = Unit {0}

abbrev pub and_then : {A B : Type 0} → Result A Stop → (A → Result B Stop) → Result B Stop
and_then (Ok a) f = f a
and_then (Err stop) f = Err stop

-- a step at each token, from left to right
unfoldable pub each : {S : Type 0} → (S → Token → Result S Stop) → S → List Token → Result S Stop
each f s [] = Ok s
each f s (t ∷ ts) = and_then (f s t) (λ s'. each f s' ts)
