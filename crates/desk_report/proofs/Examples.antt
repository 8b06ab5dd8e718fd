-- Values as they are written.
use Rattle.std.specs.Prelude.{[], ◌∷◌, codes, replicate}
use Rattle.std.proofs.Common.{◌≡◌, refl}
use Rattle.rtl_bits.specs.declared.Bit.TheVariants.{Zero, One, X, Z}
use Rattle.desk_report.specs.Values.{digits_text}

bits : digits_text (Z ∷ X ∷ One ∷ Zero ∷ []) ≡ codes "'b01xz"
bits = refl

-- 16 bits stand in base 2, and 17 known ones in base 16
sixteen : digits_text (replicate 16 One) ≡ codes "'b1111111111111111"
sixteen = refl

seventeen : digits_text (Zero ∷ One ∷ Zero ∷ One ∷ replicate 13 One) ≡ codes "'h1fffa"
seventeen = refl

unknown : digits_text (X ∷ replicate 16 Zero) ≡ codes "'b0000000000000000x"
unknown = refl
