-- The costs of processes, one after the other.
use Rattle.std.proofs.Common.{◌≡◌, ◌≤◌, ◌<◌, ◌+◌, ◌*◌, ◌∙◌, ◌++◌, ℕ, zero, suc, List, [], ◌∷◌, length, map, get_or, Some, sym, ap, arith}
use Rattle.std.specs.List.{All, slice_get}
use Rattle.std.proofs.lemmas.List.{map-append}
use Rattle.std.proofs.lemmas.List.Elements.{All-head, All-nil, All-push, All-tail, All-weaker}
use Rattle.std.proofs.lemmas.List.Sums.{sum_by_push}
use Rattle.rtl_flat.specs.Process.{Doing, Assign, Comb, Edge', Task}
use Rattle.event_model.specs.Policies.{nonblocking_of, one_if, run_cost}
use Rattle.event_model.specs.Queue.{doing_of, is_assignment}
use Rattle.event_take.specs.Rooms.{room_of}
use Rattle.event_queue.specs.declared.costs.Costs.{Costs}
use Rattle.event_queue.specs.Costs.{AreCosts, IsEntered}
use Rattle.event_queue.specs.Lates.{room_in}

-- the room for a process is what its cost pays for
abbrev pub IsPaid : ℕ → Task → Type 0
IsPaid share task = room_in task.does ≤ share * suc (nonblocking_of task.does)

more_times : (a b n : ℕ) → a ≤ b → a * n ≤ b * n
more_times a b zero h = omega arith
more_times a b (suc n) h = let rest = more_times a b n h in omega (arith, h, rest)

paid_more : (a b : ℕ) → a ≤ b → (task : Task) → IsPaid a task → IsPaid b task
paid_more a b more task h =
    let times = more_times a b (suc (nonblocking_of task.does)) more in omega (arith, h, times)

pub entered : (xs : List Task) (x : Task) (old new : Costs) → AreCosts xs old → IsEntered x.does old new → AreCosts (xs ++ x ∷ []) new
entered xs x old new are is =
    record {
      runs = is.runs ∙ ap (λ ns. ns ++ suc (nonblocking_of x.does) ∷ []) are.runs ∙ sym (map-append (λ (task : Task). suc (nonblocking_of task.does)) xs (x ∷ []));
      late = is.late ∙ ap (λ n. n + nonblocking_of x.does) are.late ∙ sym (sum_by_push (λ (task : Task). nonblocking_of task.does) xs x);
      assignments = is.assignments ∙ ap (λ n. n + one_if (is_assignment (Some x.does))) are.assignments ∙ sym (sum_by_push (λ (task : Task). one_if (is_assignment (Some task.does))) xs x);
      share = All-push (IsPaid new.share) xs x (All-weaker (IsPaid old.share) (IsPaid new.share) (paid_more old.share new.share is.more) xs are.share) is.share;
      few = is.few are.few;
    }

pub nothing_entered : (costs : Costs) → costs.runs.items ≡ [] → costs.late ≡ 0 → costs.assignments ≡ 0 → costs.share ≡ 0 → AreCosts [] costs
nothing_entered costs runs late assignments share =
    record {
      runs = runs;
      late = late;
      assignments = assignments;
      share = All-nil (IsPaid costs.share);
      few = omega (arith, share);
    }

-- ---- what is read of them

pub cost_at : (tasks : List Task) (p x : ℕ) → p < length tasks → x ≡ get_or (map (λ task. suc (nonblocking_of task.does)) tasks) p x → x ≡ run_cost (doing_of (slice_get tasks p))
cost_at [] p x within is = absurd (omega (arith, within))
cost_at (t ∷ tasks) zero x within is = is
cost_at (t ∷ tasks) (suc p) x within is = cost_at tasks p x (omega (arith, within)) is

task_room : (share : ℕ) (does : Doing) → room_in does ≤ share * suc (nonblocking_of does) → room_of (Some does) ≤ share * run_cost (Some does)
task_room share (Assign target e) h = h
task_room share (Comb list body) h = h
task_room share (Edge' events body) h = h

pub room_at : (share : ℕ) (tasks : List Task) → All (IsPaid share) tasks → (p : ℕ) → room_of (doing_of (slice_get tasks p)) ≤ share * run_cost (doing_of (slice_get tasks p))
room_at share [] all p = omega arith
room_at share (t ∷ tasks) all zero = task_room share t.does (All-head (IsPaid share) t tasks all)
room_at share (t ∷ tasks) all (suc p) = room_at share tasks (All-tail (IsPaid share) t tasks all) p
