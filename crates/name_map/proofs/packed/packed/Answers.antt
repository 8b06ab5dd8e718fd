use Rattle.std.proofs.Common.{◌-◌, arith}
use Rattle.std.proofs.lemmas.Grind.{common_steps}
use Rattle.name_map.specs.Packed as spec
use Rattle.name_map.proofs.Numbers.{fits, packed_at}
use Rattle.name_map.proofs.packed.packed.Goals as goal

pub loop-left-init : goal.loop-left-init
unfolding spec.packed
loop-left-init c = record { within = omega arith; number = grind (arith, common_steps) }

pub overflow_mul-number : goal.overflow_mul-number
overflow_mul-number c = omega (arith, c.loop-left.invariant.number, fits c.args.name.now c.loop-left.left c.requires (omega arith) (omega arith))

pub overflow_add-number : goal.overflow_add-number
overflow_add-number c = omega (arith, c.loop-left.invariant.number, fits c.args.name.now c.loop-left.left c.requires (omega arith) (omega arith))

pub loop-left-preserved : goal.loop-left-preserved
loop-left-preserved c = record { within = omega arith; number = grind (arith, packed_at c.args.name.now (c.loop-left.left - 1) (omega arith)) }
