-- It serves inner contracts and proofs; no answer of the program is stated by it.
-- The places of the bits that indices select.
use Rattle.std.specs.Prelude.{ℕ, ℤ, pos, negsuc, ◌-ℤ◌, nat_lt, Bool, cond, if◌then◌else◌, List, Option, Some, None}
use Rattle.rtl_bits.specs.declared.Bit.{Bit}
use Rattle.rtl_bits.specs.Bits.{has_unknown}
use Rattle.rtl_flat.specs.Value.{index_number}

-- the place of a bit, where a signal of so many bits has it (section 4.2.1)
abbrev pub place_in : ℕ → ℤ → Option ℕ
place_in width (pos k) = if nat_lt k width then Some k else None
place_in width (negsuc k) = None

-- the place that an index selects where the declaration numbers the lowest bit `low`; none where the index has an x or z
abbrev pub place_by : ℕ → ℕ → Bool → List Bit → Option ℕ
place_by width low signed index =
    cond (has_unknown index) None (place_in width (index_number signed index -ℤ pos low))
