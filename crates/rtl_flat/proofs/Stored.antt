-- An expression of a design is sized for values of its signals' widths.
use Rattle.std.proofs.Common.{◌≡◌, ℕ, List, length, subst}
use mathlib.Core.Path.{fun_ext}
use Rattle.rtl_bits.specs.declared.Bit.{Bit}
use Rattle.rtl_flat.specs.declared.signal.Signal.{Signal}
use Rattle.rtl_flat.specs.Expression.{Tree}
use Rattle.rtl_flat.specs.Sizes.{IsSized}
use Rattle.rtl_flat.specs.Signs.{width_in, IsExpression}
use Rattle.rtl_flat.specs.Value.{widths}

pub sized_for_values : (signals : List Signal) (values : List (List Bit)) (e : Tree) → length signals ≡ length values → ((i : ℕ) → width_in signals i ≡ widths values i) → IsExpression signals e → IsSized (length values) (widths values) e
sized_for_values signals values e same each h =
    let P : ℕ → Type 0 = λ n. IsSized n (widths values) e in
    let Q : (ℕ → ℕ) → Type 0 = λ ws. IsSized (length signals) ws e in
    subst P same (subst Q (fun_ext each) h.widths)
