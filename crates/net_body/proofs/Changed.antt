-- Digits that a run changed, place by place.
use Rattle.std.proofs.Common.{◌≡◌, ◌∙◌, ◌<◌, ℕ, zero, suc, List, [], ◌∷◌, length, get_or, refl, sym, ap, arith}
use Rattle.std.proofs.lemmas.Bool.{true≢false}
use Rattle.rtl_bits.specs.declared.Bit.{Bit}
use Rattle.rtl_bits.specs.declared.Bit.TheVariants.{Zero, One, X, Z}
use Rattle.rtl_bits.specs.Bit.{xor_bit}
use Rattle.rtl_bits.specs.Bits.{zip_with}
use Rattle.net_number.proofs.net_laws_proofs.Known.{KnownBit}
use Rattle.net_body.specs.Ends.{changed_digits}

zip_length : (g : Bit → Bit → Bit) (a b : List Bit) → length a ≡ length b → length (zip_with g a b) ≡ length a
zip_length g [] b e = refl
zip_length g (x ∷ a) [] e = absurd (omega (arith, e))
zip_length g (x ∷ a) (y ∷ b) e = let more = zip_length g a b (omega (arith, e)) in omega (arith, more)

zip_at : (g : Bit → Bit → Bit) (a b : List Bit) (k : ℕ) → k < length a → length a ≡ length b → get_or (zip_with g a b) k X ≡ g (get_or a k X) (get_or b k X)
zip_at g [] b k below e = absurd (omega (arith, below))
zip_at g (x ∷ a) [] k below e = absurd (omega (arith, e))
zip_at g (x ∷ a) (y ∷ b) zero below e = refl
zip_at g (x ∷ a) (y ∷ b) (suc k) below e = zip_at g a b k (omega (arith, below)) (omega (arith, e))

pub changed_length : (old ran after : List Bit) → length ran ≡ length old → length after ≡ length old → length (changed_digits old ran after) ≡ length after
changed_length old ran after e e' =
    let inner = zip_length xor_bit old ran (sym e) in
    zip_length xor_bit after (zip_with xor_bit old ran) (omega (arith, inner, e'))

pub changed_at : (old ran after : List Bit) (k : ℕ) → k < length after → length ran ≡ length old → length after ≡ length old → get_or (changed_digits old ran after) k X ≡ xor_bit (get_or after k X) (xor_bit (get_or old k X) (get_or ran k X))
changed_at old ran after k below e e' =
    let inner = zip_length xor_bit old ran (sym e) in
    zip_at xor_bit after (zip_with xor_bit old ran) k below (omega (arith, inner, e'))
    ∙ ap (xor_bit (get_or after k X)) (zip_at xor_bit old ran k (omega (arith, below, e')) (sym e))

-- a digit that a run leaves
pub xor_left : (a b : Bit) → KnownBit a → KnownBit b → xor_bit a (xor_bit b b) ≡ a
xor_left Zero Zero h h' = refl
xor_left Zero One h h' = refl
xor_left One Zero h h' = refl
xor_left One One h h' = refl
xor_left Zero X h h' = absurd (true≢false h')
xor_left Zero Z h h' = absurd (true≢false h')
xor_left One X h h' = absurd (true≢false h')
xor_left One Z h h' = absurd (true≢false h')
xor_left X b h h' = absurd (true≢false h)
xor_left Z b h h' = absurd (true≢false h)

-- a digit that nothing before it changed
pub xor_taken : (a b : Bit) → KnownBit a → KnownBit b → xor_bit a (xor_bit a b) ≡ b
xor_taken Zero Zero h h' = refl
xor_taken Zero One h h' = refl
xor_taken One Zero h h' = refl
xor_taken One One h h' = refl
xor_taken Zero X h h' = absurd (true≢false h')
xor_taken Zero Z h h' = absurd (true≢false h')
xor_taken One X h h' = absurd (true≢false h')
xor_taken One Z h h' = absurd (true≢false h')
xor_taken X b h h' = absurd (true≢false h)
xor_taken Z b h h' = absurd (true≢false h)

pub xor_known : (a b : Bit) → KnownBit a → KnownBit b → KnownBit (xor_bit a b)
xor_known Zero Zero h h' = refl
xor_known Zero One h h' = refl
xor_known One Zero h h' = refl
xor_known One One h h' = refl
xor_known Zero X h h' = absurd (true≢false h')
xor_known Zero Z h h' = absurd (true≢false h')
xor_known One X h h' = absurd (true≢false h')
xor_known One Z h h' = absurd (true≢false h')
xor_known X b h h' = absurd (true≢false h)
xor_known Z b h h' = absurd (true≢false h)
