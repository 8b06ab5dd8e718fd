-- What is in a list of none, and in a list of one.
use Rattle.std.specs.List.{Contains}
use Rattle.std.proofs.Common.{◌≡◌, [], ◌∷◌, inl, inr, arith}
use Rattle.std.proofs.lemmas.List.Elements.{Contains-push_cases}

pub none_in : {X : Type 0} (x : X) → Contains [] x → ⊥
none_in x h = let below = h.1 in omega (arith, below)

pub only : {X : Type 0} (x y : X) → Contains (x ∷ []) y → x ≡ y
only x y h = elim (Contains-push_cases [] x y h) [ inl none ↦ absurd (none_in y none) | inr same ↦ same ]
