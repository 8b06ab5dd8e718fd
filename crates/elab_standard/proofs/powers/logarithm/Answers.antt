use Rattle.std.specs.Prelude.{pos, int_le, false, true}
use Rattle.std.proofs.Common.{◌≡◌, ◌∙◌, ap, sym}
use Rattle.rtl_bits.specs.Bits.{bits_of, has_unknown}
use Rattle.rtl_const.specs.Constant.{clog2}
use Rattle.rtl_flat.specs.Value.{index_number}
use Rattle.elab_standard.proofs.Raising.{known_is, no_logarithm, some_logarithm, unknown_is, unknown_logarithm}
use Rattle.elab_standard.proofs.powers.logarithm.Goals as goal

pub returns-then-not-is_known-clause-bits : goal.returns-then-not-is_known-clause-bits
returns-then-not-is_known-clause-bits c =
    c.filled.ensures.bits
    ∙ unknown_logarithm c.args.signed c.args.bits (unknown_is _ _ c.is_known.ensures c.if-not-is_known.true)

pub returns-then-not-is_natural-clause-bits : goal.returns-then-not-is_natural-clause-bits
returns-then-not-is_natural-clause-bits c =
    let known : has_unknown c.args.bits ≡ false = known_is _ _ c.is_known.ensures c.if-not-is_known.false in
    let negative : int_le (pos 0) (index_number c.args.signed c.args.bits) ≡ false = sym c.is_natural.ensures ∙ c.if-not-is_natural.true in
    c.filled-then-not-is_natural.ensures.bits ∙ no_logarithm c.args.signed c.args.bits known negative

pub returns-clause-bits : goal.returns-clause-bits
returns-clause-bits c =
    let known : has_unknown c.args.bits ≡ false = known_is _ _ c.is_known.ensures c.if-not-is_known.false in
    let natural : int_le (pos 0) (index_number c.args.signed c.args.bits) ≡ true = sym c.is_natural.ensures ∙ c.if-not-is_natural.false in
    c.of_number.ensures.bits
    ∙ ap (bits_of 32) (c.from.ensures ∙ c.clog2.ensures ∙ ap clog2 c.number.ensures.exact)
    ∙ some_logarithm c.args.signed c.args.bits known natural
