-- Short names as numbers. No two have the same number.
-- Worked examples: crates/name_map/proofs/Example.antt.
use Rattle.std.specs.Prelude.{ℕ, ◌+◌, ◌*◌, ◌&&◌, Bool, List, [], ◌∷◌, length, nat_le, nat_lt}
use Rattle.std.specs.List.{list_all}

abbrev pub is_byte : ℕ → Bool
is_byte b = nat_lt b 256

-- at most 15 bytes
abbrev pub is_short : List ℕ → Bool
is_short name = nat_le (length name) 15 && list_all is_byte name

-- the bytes, the first of them the lowest, below a 1
unfoldable pub packed : List ℕ → ℕ
packed [] = 1
packed (b ∷ bs) = packed bs * 256 + b
