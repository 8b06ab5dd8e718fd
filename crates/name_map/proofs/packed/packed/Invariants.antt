use Rattle.std.proofs.Common.{◌≡◌, ◌≤◌, length, drop}
use Rattle.name_map.specs.Packed as spec
use Rattle.name_map.proofs.packed.packed.Given as goal

abbrev pub invariant-loop-left : goal.invariant-loop-left
invariant-loop-left l = record {
  within : l.left ≤ length l.name;
  number : l.number ≡ spec.packed (drop l.left l.name);
}

abbrev pub decreases-loop-left : goal.decreases-loop-left
decreases-loop-left l = l.left
