use Rattle.std.proofs.Common.{◌≡◌}
use Rattle.rtl_bits.specs.Bits.{copies}
use Rattle.rtl_bits.proofs.Vec4.repeat.Given as goal

abbrev pub invariant-loop : goal.invariant-loop
invariant-loop l = l.all ≡ copies l.counter l.self
