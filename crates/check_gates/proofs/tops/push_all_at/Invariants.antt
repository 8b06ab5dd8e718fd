use Rattle.std.proofs.Common.{take}
use Rattle.check_gates.specs.Tops.{IsNotedFor}
use Rattle.check_gates.proofs.tops.push_all_at.Given as goal

abbrev pub invariant-loop-place : goal.invariant-loop-place
invariant-loop-place l =
    IsNotedFor (take l.place-index l.places) l.value l.fn.rows.items l.rows.items
