-- What is left of a number that a design may have.
-- Worked examples: proofs/Examples.antt.
use Rattle.std.specs.Prelude.{ℕ, ◌-◌, nat_le, if◌then◌else◌, Option, None, Some}

-- how many of so many are left behind a number of them; none where there are fewer
abbrev pub spared : ℕ → ℕ → Option ℕ
spared most count = if nat_le count most then Some (most - count) else None
