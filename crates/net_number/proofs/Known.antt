-- For callers: the number of an expression has no x or z where those of the signals have none.
use Rattle.std.proofs.Common.{◌≡◌, ℕ, zero, suc, false, List, [], ◌∷◌, length, map, refl, sym, subst}
use Rattle.std.proofs.lemmas.List.{length-map}
use mathlib.Core.Path.{fun_ext}
use Rattle.rtl_bits.specs.declared.Bit.{Bit}
use Rattle.rtl_bits.specs.Bits.{has_unknown}
use Rattle.rtl_flat.specs.declared.signal.Signal.{Signal}
use Rattle.rtl_flat.specs.declared.signal.Kind.TheVariants.{Net}
use Rattle.rtl_flat.specs.Expression.{Tree}
use Rattle.rtl_flat.specs.Signs.{width_in}
use Rattle.rtl_flat.specs.Sizes.{IsSized}
use Rattle.rtl_flat.specs.Value.{store, widths}
use Rattle.rtl_flat.specs.Flats.{Flat}
use Rattle.net_model.specs.declared.fill.Fill.{Fill}
use Rattle.net_model.specs.Numbers.{digits}
use Rattle.net_laws.proofs.Digits.{digits_known}

-- a design with a signal for each number
abbrev signal_of : List Bit → Signal
signal_of bits =
    record {
      path = [];
      width = length bits;
      signed = false;
      low = 0;
      kind = Net;
      top_output = false;
      instance = 0;
      spot = record { file = 0; at = 0 };
    }

abbrev flat_of : List (List Bit) → Flat
flat_of numbers = record { signals = map signal_of numbers; tasks = [] }

same_width : (numbers : List (List Bit)) (i : ℕ) → width_in (map signal_of numbers) i ≡ widths numbers i
same_width [] zero = refl
same_width [] (suc i) = refl
same_width (bits ∷ numbers) zero = refl
same_width (bits ∷ numbers) (suc i) = same_width numbers i

pub numbers_known : (numbers : List (List Bit)) (f : Fill) (e : Tree) → ((i : ℕ) → has_unknown (store numbers i) ≡ false) → IsSized (length numbers) (widths numbers) e → has_unknown (digits f (store numbers) e) ≡ false
numbers_known numbers f e known sized =
    let P : ℕ → Type 0 = λ n. IsSized n (widths numbers) e in
    let Q : (ℕ → ℕ) → Type 0 = λ ws. IsSized (length (map signal_of numbers)) ws e in
    let ws : widths numbers ≡ width_in (map signal_of numbers) = fun_ext (λ i. sym (same_width numbers i)) in
    digits_known (flat_of numbers) f (store numbers) (record { wide = λ i. sym (same_width numbers i); known = known }) e
    (subst Q ws (subst P (sym (length-map numbers signal_of)) sized))
