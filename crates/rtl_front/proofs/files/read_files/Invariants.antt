use Rattle.std.proofs.Common.{◌≤◌, ◌+◌}
use Rattle.rtl_front.proofs.Asked.{SoAsked}
use Rattle.rtl_front.proofs.Reading.{SoFar}
use Rattle.rtl_front.proofs.files.read_files.Given as goal

abbrev pub invariant-loop-number : goal.invariant-loop-number
invariant-loop-number g l = record {
  so_far : SoFar l.sources l.number l.files.modules.items;
  asked : SoAsked l.sources l.number l.files.conditions.items;
  few : l.steps ≤ l.initial.steps + l.number;
}
