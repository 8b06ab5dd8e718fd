-- The front and the end of a text.
use Rattle.std.proofs.Common.{◌≡◌, ◌≤◌, ◌+◌, ◌-◌, ℕ, true, false, List, length, take, drop, refl, ap, Option, None, Some, Bor}
use Rattle.std.proofs.lemmas.List.{take_all}
use Rattle.std.specs.Prelude.{MatchOption, bytes_eq}
use Rattle.desk_http.specs.Routes.{before, behind, plain}

-- a text that fits its front is all of it
pub short_front : (bytes : List ℕ) → length bytes ≤ 16384 → take 16384 bytes ≡ bytes
short_front bytes fits = take_all 16384 bytes fits

pub behind_cases : (front text : List ℕ) (found : Option (Bor (List ℕ)))
    → MatchOption found (bytes_eq (take (length front) text) front ≡ false)
    (λ it. (bytes_eq (take (length front) text) front ≡ true) × (it.now ≡ drop (length front) text) × (length it.now + length front ≡ length text))
    → plain found ≡ behind front text
unfolding behind
behind_cases front text None missing = rw missing refl
behind_cases front text (Some it) there = rw there.0 (ap Some there.1)

pub before_cases : (end text : List ℕ) (found : Option (Bor (List ℕ)))
    → MatchOption found (bytes_eq (drop (length text - length end) text) end ≡ false)
    (λ it. (bytes_eq (drop (length text - length end) text) end ≡ true) × (it.now ≡ take (length text - length end) text) × (length it.now + length end ≡ length text))
    → plain found ≡ before end text
unfolding before
before_cases end text None missing = rw missing refl
before_cases end text (Some it) there = rw there.0 (ap Some there.1)
