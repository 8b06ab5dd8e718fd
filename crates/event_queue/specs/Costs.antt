-- It serves inner contracts and proofs; no answer of the program is stated by it.
-- What the processes of a design cost.
use Rattle.std.specs.Prelude.{◌≡◌, ◌≤◌, ◌+◌, ◌*◌, suc, List, [], ◌∷◌, ◌++◌, map, sum_by, Some}
use Rattle.std.specs.List.{All}
use Rattle.rtl_flat.specs.Process.{Doing, Task}
use Rattle.event_model.specs.Policies.{nonblocking_of, one_if}
use Rattle.event_model.specs.Queue.{is_assignment}
use Rattle.event_queue.specs.declared.costs.Costs.{Costs}
use Rattle.event_queue.specs.Lates.{room_in}

-- the costs of processes
pub record AreCosts (tasks : List Task) (costs : Costs) : Type 0 where
  pub runs : costs.runs.items ≡ map (λ task. suc (nonblocking_of task.does)) tasks
  pub late : costs.late ≡ sum_by (λ task. nonblocking_of task.does) tasks
  pub assignments : costs.assignments ≡ sum_by (λ task. one_if (is_assignment (Some task.does))) tasks
  pub share : All (λ task. room_in task.does ≤ costs.share * suc (nonblocking_of task.does)) tasks
  pub few : costs.share ≤ 1000000000000

-- the costs of one process more
pub record IsEntered (does : Doing) (old new : Costs) : Type 0 where
  pub runs : new.runs.items ≡ old.runs.items ++ suc (nonblocking_of does) ∷ []
  pub late : new.late ≡ old.late + nonblocking_of does
  pub assignments : new.assignments ≡ old.assignments + one_if (is_assignment (Some does))
  pub more : old.share ≤ new.share
  pub share : room_in does ≤ new.share * suc (nonblocking_of does)
  pub few : old.share ≤ 1000000000000 → new.share ≤ 1000000000000
