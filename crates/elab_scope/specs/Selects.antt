-- The bits between which a select of several lies (IEEE 1364-2001 section 4.2.1).
-- Worked examples: proofs/Example.antt.
use Rattle.std.specs.Prelude.{pos, ◌+ℤ◌, ◌-ℤ◌, Ok}
use Rattle.rtl_const.specs.Constant.{Outcome, constant, then_with}
use Rattle.rtl_tree.specs.declared.tree.operators.PartKind.{PartKind}
use Rattle.rtl_tree.specs.declared.tree.operators.PartKind.TheVariants.{Between, Up, Down}
use Rattle.rtl_tree.specs.TreeExpr.{Formula}
use Rattle.elab_scope.specs.Names.{Meanings, numbers_in}

-- the number of the highest bit, from what stands in the brackets: `[msb:lsb]`, `[base +: width]` or `[base -: width]`
abbrev pub msb_of : PartKind → Outcome → Outcome → Outcome
msb_of Between msb lsb = msb
msb_of Up base width = then_with base (λ base. then_with width (λ width. Ok (base +ℤ width -ℤ pos 1)))
msb_of Down base width = base

-- and that of the lowest
abbrev pub lsb_of : PartKind → Outcome → Outcome → Outcome
lsb_of Between msb lsb = lsb
lsb_of Up base width = base
lsb_of Down base width = then_with base (λ base. then_with width (λ width. Ok (base -ℤ width +ℤ pos 1)))

abbrev pub msb_in : Meanings → PartKind → Formula → Formula → Outcome
msb_in scope kind first second =
    msb_of kind (constant (numbers_in scope) first) (constant (numbers_in scope) second)

abbrev pub lsb_in : Meanings → PartKind → Formula → Formula → Outcome
lsb_in scope kind first second =
    lsb_of kind (constant (numbers_in scope) first) (constant (numbers_in scope) second)
