use Rattle.std.proofs.Common.{◌∙◌, ◌^◌, ap, arith, to_z, w64}
use Rattle.std.proofs.lemmas.Int.{to_z_pos}
use Rattle.std.proofs.lemmas.Nat.{one_shl, pow_below}
use Rattle.elab_scope.proofs.powers.weight.Goals as goal

pub returns : goal.returns
returns c =
    ap (to_z w64) (one_shl c.args.places 64 (omega (arith, c.requires)))
    ∙ to_z_pos w64 (2 ^ c.args.places) (pow_below c.args.places 63 c.requires)
