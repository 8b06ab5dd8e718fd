use Rattle.std.proofs.Common.{◌≡◌, ◌≤◌, ◌*◌, ◌-◌, ◌++◌, length}
use Rattle.desk_stages.specs.Stages.{head_lines, stages}
use Rattle.desk_stages.proofs.stages_text.Given as goal

abbrev pub invariant-loop-stage : goal.invariant-loop-stage
invariant-loop-stage l = record {
  some : 1 ≤ l.stage;
  text : l.out.items ≡ head_lines ++ stages (l.stage - 1);
  short : length l.out.items ≤ 200 * l.stage;
}
