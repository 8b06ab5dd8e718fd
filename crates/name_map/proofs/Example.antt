-- Worked examples of short names as numbers: 1 for the empty name, and "ab" is 97 + 256 * (98 + 256).
use Rattle.std.specs.Prelude.{[], codes, true, false}
use Rattle.std.proofs.Common.{◌≡◌, refl}
use Rattle.name_map.specs.Packed.{is_short, packed}

empty : packed [] ≡ 1
unfolding packed
empty = refl

two : packed (codes "ab") ≡ 90721
unfolding packed
two = refl

longest : is_short (codes "fifteen_letters") ≡ true
longest = refl

longer : is_short (codes "sixteen__letters") ≡ false
longer = refl
