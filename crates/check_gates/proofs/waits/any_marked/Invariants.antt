use Rattle.std.proofs.Common.{◌≡◌, false, take, slice_index_or}
use Rattle.std.specs.List.{list_any}
use Rattle.check_gates.proofs.waits.any_marked.Given as goal

abbrev pub invariant-loop-place : goal.invariant-loop-place
invariant-loop-place l =
    list_any (λ place. slice_index_or l.marks place false) (take l.place-index l.places) ≡ false
