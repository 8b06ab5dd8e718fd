-- How many nonblocking assignments a body has at most, and how many parts they have.
use Rattle.std.proofs.Common.{◌≡◌, ◌≤◌, ◌<◌, ◌+◌, ◌*◌, ◌∙◌, ℕ, zero, suc, Bool, true, false, List, [], ◌∷◌, ◌++◌, length, map, take, get_or, Some, sym, ap, subst, arith}
use Rattle.std.specs.Prelude.{sum_by}
use Rattle.std.specs.List.{All}
use Rattle.std.proofs.lemmas.List.Elements.{All-get_or}
use Rattle.std.proofs.lemmas.List.{length-map, take_more}
use Rattle.std.proofs.lemmas.List.Sums.{get_or-le-sum_by, sum_by-cons, sum_by-le-sum_by, sum_by-take-le}
use Rattle.rtl_flat.specs.declared.act.Process.{Process}
use Rattle.rtl_flat.specs.declared.design.Design.{Design}
use Rattle.rtl_flat.specs.declared.signal.Signal.{Signal}
use Rattle.rtl_flat.specs.declared.signal.Kind.TheVariants.{Var}
use Rattle.rtl_flat.specs.Expression.{Tree}
use Rattle.rtl_flat.specs.Process.{Piece, Action, Set, If, Case, Block, Actions, Done, Then, Otherwise, Without, With, Branches, NoBranch, Branch, Doing, Assign, Comb, Edge', Task, doing, task}
use Rattle.rtl_flat.specs.WellFormed.{IsAction, IsAssignment, IsBody, IsOtherwise, AreBranches, IsProcess, statements, statements_of, other_statements, branch_statements, process_statements}
use Rattle.rtl_flat.specs.Signs.{width_in}
use Rattle.event_model.specs.Queue.{is_assignment, is_input_kind}
use Rattle.event_model.specs.Policies.{late, one_if, nonblocking, nonblocking_in, nonblocking_other, nonblocking_branches, nonblocking_of}
use Rattle.event_tables.specs.event_write.Rooms.{branch_rooms, late_parts, other_room, room, rooms}
use Rattle.event_tables.proofs.event_write_proofs.Targets.{are_selected, counts_is, few_parts, some_bits}
use Rattle.event_queue.specs.declared.costs.Costs.{Costs}
use Rattle.event_queue.specs.Costs.{AreCosts, IsEntered}
use Rattle.event_queue.specs.Lates.{IsFew, room_in}
use Rattle.event_queue.proofs.Costing.{entered}

late_once : (b : Bool) → late b ≤ 1
late_once true = omega arith
late_once false = omega arith

mutual
  -- no more nonblocking assignments than statements
  few_in : (a : Action) → nonblocking a ≤ statements a
  few_in (Set target e delayed spot) = late_once delayed
  few_in (If test taken other spot) =
      let x = few_in_body taken in let y = few_in_other other in omega (arith, x, y)
  few_in (Case kind full parallel selector branches fallback spot) =
      let x = few_in_branches branches in let y = few_in_other fallback in omega (arith, x, y)
  few_in (Block body) = let x = few_in_body body in omega (arith, x)

  few_in_body : (body : Actions) → nonblocking_in body ≤ statements_of body
  few_in_body Done = omega arith
  few_in_body (Then first others) =
      let x = few_in first in let y = few_in_body others in omega (arith, x, y)

  few_in_other : (body : Otherwise) → nonblocking_other body ≤ other_statements body
  few_in_other Without = omega arith
  few_in_other (With body) = few_in_body body

  few_in_branches : (branches : Branches) → nonblocking_branches branches ≤ branch_statements branches
  few_in_branches NoBranch = omega arith
  few_in_branches (Branch labels body others) =
      let x = few_in_body body in let y = few_in_branches others in omega (arith, x, y)

-- no more than 128 parts for each statement
few_late_parts : (signals : List Signal) → ((i : ℕ) → i < length signals → 1 ≤ width_in signals i) → (target : List Piece) (e : Tree) (b : Bool) → IsAssignment signals Var target e → late_parts b target ≤ 128 * 1
few_late_parts signals some target e true h =
    let all = counts_is signals target in
    let few = few_parts signals target (are_selected signals some target h.parts) in
    let most = h.at_most in
    omega (arith, all, few, most)
few_late_parts signals some target e false h = omega arith

mutual
  parts_in : (signals : List Signal) → ((i : ℕ) → i < length signals → 1 ≤ width_in signals i) → (a : Action) → IsAction signals a → room a ≤ 128 * statements a
  parts_in signals some (Set target e delayed spot) h = few_late_parts signals some target e delayed h
  parts_in signals some (If test taken other spot) h =
      let x = parts_in_body signals some taken h.1 in let y = parts_in_other signals some other h.2 in omega (arith, x, y)
  parts_in signals some (Case kind full parallel selector branches fallback spot) h =
      let x = parts_in_branches signals some selector branches h.1 in let y = parts_in_other signals some fallback h.2 in omega (arith, x, y)
  parts_in signals some (Block body) h = let x = parts_in_body signals some body h in omega (arith, x)

  parts_in_body : (signals : List Signal) → ((i : ℕ) → i < length signals → 1 ≤ width_in signals i) → (body : Actions) → IsBody signals body → rooms body ≤ 128 * statements_of body
  parts_in_body signals some Done h = omega arith
  parts_in_body signals some (Then first others) h =
      let x = parts_in signals some first h.0 in let y = parts_in_body signals some others h.1 in omega (arith, x, y)

  parts_in_other : (signals : List Signal) → ((i : ℕ) → i < length signals → 1 ≤ width_in signals i) → (body : Otherwise) → IsOtherwise signals body → other_room body ≤ 128 * other_statements body
  parts_in_other signals some Without h = omega arith
  parts_in_other signals some (With body) h = parts_in_body signals some body h

  parts_in_branches : (signals : List Signal) → ((i : ℕ) → i < length signals → 1 ≤ width_in signals i) → (selector : Tree) (branches : Branches) → AreBranches signals selector branches → branch_rooms branches ≤ 128 * branch_statements branches
  parts_in_branches signals some selector NoBranch h = omega arith
  parts_in_branches signals some selector (Branch labels body others) h =
      let x = parts_in_body signals some body h.3 in let y = parts_in_branches signals some selector others h.4 in omega (arith, x, y)

-- ---- processes

few_of : (does : Doing) → nonblocking_of does ≤ process_statements does
few_of (Assign target e) = omega arith
few_of (Comb list body) = few_in_body body
few_of (Edge' events body) = few_in_body body

parts_of : (signals : List Signal) → ((i : ℕ) → i < length signals → 1 ≤ width_in signals i) → (does : Doing) → IsProcess signals does → room_in does ≤ 128 * process_statements does
parts_of signals some (Assign target e) h = omega arith
parts_of signals some (Comb list body) h = parts_in_body signals some body h.1
parts_of signals some (Edge' events body) h = parts_in_body signals some body h.2

-- in a design
pub few_process : (signals : List Signal) → ((i : ℕ) → i < length signals → 1 ≤ width_in signals i) → (tasks : List Task) → All (λ one. IsProcess signals one.does) tasks → sum_by (λ one. process_statements one.does) tasks ≤ 100000 → (p : ℕ) (one : Task) → p < length tasks → one ≡ get_or tasks p one → IsFew (nonblocking_of one.does) (room_in one.does)
few_process signals some tasks all limit p one within is =
    let lawful : IsProcess signals one.does = subst (λ (t : Task). IsProcess signals t.does) (sym is) (All-get_or (λ (t : Task). IsProcess signals t.does) tasks p one within all) in
    let share : process_statements (get_or tasks p one).does ≤ sum_by (λ (t : Task). process_statements t.does) tasks = get_or-le-sum_by (λ (t : Task). process_statements t.does) tasks p one within in
    let same : process_statements one.does ≡ process_statements (get_or tasks p one).does = ap (λ (t : Task). process_statements t.does) is in
    let count = few_of one.does in
    let parts = parts_of signals some one.does lawful in
    record {
      count_fits = omega (arith, share, same, count, limit);
      parts_fit = omega (arith, share, same, parts, limit);
    }

pub few_late : (tasks : List Task) → sum_by (λ (one : Task). process_statements one.does) tasks ≤ 100000 → sum_by (λ (one : Task). nonblocking_of one.does) tasks ≤ 100000
few_late tasks limit =
    let few = sum_by-le-sum_by (λ (one : Task). nonblocking_of one.does) (λ (one : Task). process_statements one.does) tasks (λ one. few_of one.does) in
    omega (arith, few, limit)

-- ---- as they are read

read_task : (processes : List Process) (i : ℕ) (x : Process) → i < length processes → x ≡ get_or processes i x → task x ≡ get_or (map task processes) i (task x)
read_task [] i x within is = absurd (omega (arith, within))
read_task (y ∷ ys) zero x within is = ap task is
read_task (y ∷ ys) (suc i) x within is = read_task ys i x (omega (arith, within)) is

-- a process that is read of a design
pub record IsRead (design : Design) (i : ℕ) (x : Process) : Type 0 where
  pub within : i < length (map task design.processes.items)
  pub is : task x ≡ get_or (map task design.processes.items) i (task x)

pub is_read : (design : Design) (xs : List Process) (i : ℕ) (x : Process) → xs ≡ design.processes.items → i < length xs → x ≡ get_or xs i x → IsRead design i x
is_read design xs i x same within is =
    let size = ap (λ (ys : List Process). length ys) same in
    let count = length-map design.processes.items task in
    record {
      within = omega (arith, within, size, count);
      is = read_task design.processes.items i x (omega (arith, within, size)) (is ∙ ap (λ (ys : List Process). get_or ys i x) same);
    }

pub lawful_at : (design : Design) (i : ℕ) (x : Process) → IsRead design i x → IsProcess design.signals.items (doing x.does)
lawful_at design i x read =
    subst (λ (t : Task). IsProcess design.signals.items t.does) (sym read.is) (All-get_or (λ (t : Task). IsProcess design.signals.items t.does) (map task design.processes.items) i (task x) read.within design.is_design.each_process)

pub few_at : (design : Design) (i : ℕ) (x : Process) → IsRead design i x → IsFew (nonblocking_of (doing x.does)) (room_in (doing x.does))
few_at design i x read =
    few_process design.signals.items (some_bits design.instances.items design.signals.items design.is_design.each_signal) (map task design.processes.items) design.is_design.each_process design.is_design.statement_limit i (task x) read.within read.is

-- ---- what is counted so far

ones_few : {A : Type 0} (test : A → Bool) (xs : List A) → sum_by (λ x. one_if (test x)) xs ≤ length xs
ones_few test [] = omega arith
ones_few test (x ∷ xs) =
    let more = sum_by-cons (λ y. one_if (test y)) x xs in
    let one = at_most_one (test x) in
    let rest = ones_few test xs in
    omega (arith, more, one, rest)
  where
    at_most_one : (b : Bool) → one_if b ≤ 1
    at_most_one true = omega arith
    at_most_one false = omega arith

pub late_so_far : (design : Design) (i : ℕ) (costs : Costs) → AreCosts (take i (map task design.processes.items)) costs → costs.late ≤ 1000000000000
late_so_far design i costs are =
    let all = few_late (map task design.processes.items) design.is_design.statement_limit in
    let some = sum_by-take-le (λ (t : Task). nonblocking_of t.does) (map task design.processes.items) i in
    let is = are.late in
    omega (arith, all, some, is)

pub assignments_so_far : (design : Design) (i : ℕ) (costs : Costs) → AreCosts (take i (map task design.processes.items)) costs → costs.assignments ≤ 1000000000000
assignments_so_far design i costs are =
    let all = ones_few (λ (t : Task). is_assignment (Some t.does)) (map task design.processes.items) in
    let some = sum_by-take-le (λ (t : Task). one_if (is_assignment (Some t.does))) (map task design.processes.items) i in
    let most = design.is_design.process_limit in
    let is = are.assignments in
    omega (arith, all, some, most, is)

pub entered_at : (design : Design) (i : ℕ) (x : Process) (old new : Costs) → IsRead design i x → AreCosts (take i (map task design.processes.items)) old → IsEntered (doing x.does) old new → AreCosts (take (i + 1) (map task design.processes.items)) new
entered_at design i x old new read are is =
    let xs = map task design.processes.items in
    subst (λ (ts : List Task). AreCosts ts new) (ap (λ (t : Task). take i xs ++ t ∷ []) read.is ∙ sym (take_more xs i (task x) read.within))
    (entered (take i xs) (task x) old new are is)

pub few_inputs : (signals : List Signal) → length signals ≤ 20000 → sum_by (λ signal. one_if (is_input_kind signal.kind)) signals ≤ 20000
few_inputs signals few =
    let all = ones_few (λ (signal : Signal). is_input_kind signal.kind) signals in omega (arith, all, few)

-- the budget of a step, where so many inputs are counted
pub few_budget : (design : Design) (costs : Costs) (processes inputs : ℕ) → AreCosts (map task design.processes.items) costs → processes ≡ length design.processes.items → inputs ≤ 20000 → 4 * processes + costs.late + inputs + costs.assignments ≤ 300000
few_budget design costs processes inputs are size few =
    let late = few_late (map task design.processes.items) design.is_design.statement_limit in
    let ones = ones_few (λ (t : Task). is_assignment (Some t.does)) (map task design.processes.items) in
    let most = design.is_design.process_limit in
    let count = length-map design.processes.items task in
    let is = are.late in
    let assigned = are.assignments in
    omega (arith, late, ones, most, count, is, assigned, size, few)
