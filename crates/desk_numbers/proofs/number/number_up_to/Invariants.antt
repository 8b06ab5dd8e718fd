use Rattle.std.proofs.Common.{◌≡◌, ◌≤◌, drop}
use Rattle.std.specs.Prelude.{min}
use Rattle.desk_numbers.specs.Numbers.{number_behind}
use Rattle.desk_numbers.proofs.number.number_up_to.Given as goal

abbrev pub invariant-loop-digit : goal.invariant-loop-digit
invariant-loop-digit l = record {
  rest : min (number_behind l.number (drop l.digit-index l.text)) l.most ≡ min (number_behind 0 l.text) l.most;
  capped : l.number ≤ l.most;
}
