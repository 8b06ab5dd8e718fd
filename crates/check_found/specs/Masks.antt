-- It serves inner contracts and proofs; no answer of the program is stated by it.
-- Sets of bits as a mask of each signal.
use Rattle.std.specs.Prelude.{ℕ, slice_index_or}
use Rattle.rtl_bits.specs.Bits.{is_one_at}
use Rattle.rtl_flat.specs.Paths.{BitSet}
use Rattle.check_found.specs.declared.masks.SignalMasks.{SignalMasks}

-- the mask of a signal; one behind the last that has a bit has none
abbrev pub mask_in : SignalMasks → ℕ → ℕ
mask_in set s = slice_index_or set.masks.items s 0

-- the bits of all masks
abbrev pub has_in : SignalMasks → BitSet
has_in set s k = is_one_at (mask_in set s) k
