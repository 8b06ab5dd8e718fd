use Rattle.std.proofs.Common.{length}
use Rattle.rtl_flat.specs.Flats.{flat}
use Rattle.check_clocks.specs.Roles.{AreRoles}
use Rattle.check_gates.specs.Tops.{AreTops}
use Rattle.check_clocks.proofs.roles.roles_of.Given as goal

abbrev pub invariant-loop-process : goal.invariant-loop-process
invariant-loop-process l =
    let d = flat l.design in
    AreTops d (length d.signals) l.tops → AreRoles d l.process-index l.roles.clocks.items l.roles.resets.items
