-- The items of a module without faults, but for connections, are lawful processes.
use Rattle.std.specs.Prelude.{ℕ, zero, suc, ◌+◌, ◌<◌, ◌≤◌, Bool, true, false, List, [], ◌∷◌, ◌++◌, length, map, Option, None, Some}
use Rattle.std.specs.List.{All}
use Rattle.std.proofs.Common.{◌≡◌, refl, sym, subst, arith, length-append}
use Rattle.std.proofs.lemmas.List.Elements.{All-cons, All-nil, All-weaker}
use Rattle.rtl_tree.specs.TreeExpr.{Identifier, Formula}
use Rattle.rtl_tree.specs.TreeStmt.{Action, Pause, Target, Whole}
use Rattle.rtl_tree.specs.TreeItem.{Drive, Happening, ModuleItem, Net, Ports, Nets, Variables, Integers, Parameters, Drives, Gates, Always, Instances, Sensitivity, Star, StarInParens, Listed}
use Rattle.rtl_flat.specs.declared.instance.Delay.{Delay}
use Rattle.rtl_flat.specs.declared.signal.Signal.{Signal}
use Rattle.rtl_flat.specs.Process.{Actions, Watched, body_of}
use Rattle.rtl_flat.specs.WellFormed.{IsProcess, process_statements, statements_of}
use Rattle.elab_laws.specs.elab_scope.declared.rules.Writer.TheVariants.{Continuous}
use Rattle.elab_laws.specs.elab_scope.Expressions.{faults}
use Rattle.elab_laws.specs.elab_scope.Names.{Meanings}
use Rattle.elab_laws.specs.elab_scope.Targets.{target_faults}
use Rattle.elab_laws.specs.elab_body.Acts.{acts}
use Rattle.elab_laws.specs.elab_body.Bodies.{pause_steps, steps}
use Rattle.elab_laws.specs.elab_body.Events.{is_clocked_by, listing_of, sensitivity_faults, watched_of}
use Rattle.elab_laws.specs.elab_body.Steps.{Step, delays_of, faulty}
use Rattle.elab_laws.specs.elab_body.Faultless.{AreFaultless, statement_count}
use Rattle.elab_laws.specs.Scopes.{IsScopeOf}
use Rattle.elab_laws.proofs.Always.{comb, count, edge}
use Rattle.elab_laws.proofs.Assignments.{continuous}
use Rattle.elab_laws.proofs.Steps.{count_append, count_faulty, faultless_left, faultless_right, no_faults}
use Rattle.elab_flat.specs.elab_parts.Delays.{delay_in, item_delays, repeated}
use Rattle.elab_flat.specs.elab_parts.Gates.{assignments_of, terminal_faults}
use Rattle.elab_flat.specs.elab_parts.Items.{always_steps, assignment_steps, drive_places, drive_steps, gate_steps, item_places, item_steps, net_places, net_steps, value_places, value_steps}
use Rattle.elab_flat.specs.elab_parts.Tasks.{always_task, assigned_task, drive_tasks, item_tasks, net_tasks, value_tasks, waited}
use Rattle.elab_lawful.proofs.Tasks.{AreTasks, more_tasks, no_tasks, one_task, tasks_weaker}

assignment_lawful : (file base instance : ℕ) (scope : Meanings) (signals : List Signal) (many : ℕ) (target : Target) (value : Formula) → IsScopeOf base signals scope → instance < many → AreFaultless (assignment_steps scope target value) → AreTasks signals many 1 0 (assigned_task file base instance scope target value ∷ [])
assignment_lawful file base instance scope signals many target value d inside h =
    let first : List Step = faulty (target_faults Continuous scope target) in
    let second : List Step = faulty (faults scope value) in
    let driven : target_faults Continuous scope target ≡ [] =
    no_faults (target_faults Continuous scope target) (faultless_left first second h) in
    let read : faults scope value ≡ [] = no_faults (faults scope value) (faultless_right first second h) in
    one_task signals many 0 (assigned_task file base instance scope target value) (continuous file base scope signals d target value driven read) inside (omega arith)

value_lawful : (file base instance : ℕ) (scope : Meanings) (signals : List Signal) (many : ℕ) (name : Identifier) (value : Option Formula) → IsScopeOf base signals scope → instance < many → AreFaultless (value_steps scope name value) → AreTasks signals many (length (value_places name value)) 0 (value_tasks file base instance scope name value)
value_lawful file base instance scope signals many name None d inside h = no_tasks signals many 0 0
value_lawful file base instance scope signals many name (Some value) d inside h =
    assignment_lawful file base instance scope signals many (Whole name) value d inside h

nets_lawful : (file base instance : ℕ) (scope : Meanings) (signals : List Signal) (many : ℕ) (nets : List Net) → IsScopeOf base signals scope → instance < many → AreFaultless (net_steps scope nets) → AreTasks signals many (length (net_places nets)) 0 (net_tasks file base instance scope nets)
nets_lawful file base instance scope signals many [] d inside h = no_tasks signals many 0 0
nets_lawful file base instance scope signals many (net ∷ nets) d inside h =
    let own : List Step = value_steps scope net.name net.value in
    let more : List Step = net_steps scope nets in
    let p : ℕ = length (value_places net.name net.value) in
    let q : ℕ = length (net_places nets) in
    tasks_weaker signals many (p + q) 0 (length (net_places (net ∷ nets))) 0 (net_tasks file base instance scope (net ∷ nets)) (omega (arith, length-append (value_places net.name net.value) (net_places nets))) (omega arith) (more_tasks signals many p 0 q 0 (value_tasks file base instance scope net.name net.value) (net_tasks file base instance scope nets) (value_lawful file base instance scope signals many net.name net.value d inside (faultless_left own more h)) (nets_lawful file base instance scope signals many nets d inside (faultless_right own more h)))

drives_lawful : (file base instance : ℕ) (scope : Meanings) (signals : List Signal) (many : ℕ) (pause : Option Pause) (drives : List Drive) → IsScopeOf base signals scope → instance < many → AreFaultless (drive_steps scope pause drives) → AreTasks signals many (length (drive_places drives)) 0 (drive_tasks file base instance scope drives)
drives_lawful file base instance scope signals many pause [] d inside h = no_tasks signals many 0 0
drives_lawful file base instance scope signals many pause (drive ∷ drives) d inside h =
    let before : List Step = pause_steps pause in
    let own : List Step = assignment_steps scope drive.target drive.value in
    let more : List Step = drive_steps scope pause drives in
    let q : ℕ = length (drive_places drives) in
    let one : AreFaultless own = faultless_right before own (faultless_left (before ++ own) more h) in
    tasks_weaker signals many (1 + q) 0 (length (drive_places (drive ∷ drives))) 0 (drive_tasks file base instance scope (drive ∷ drives)) (omega arith) (omega arith) (more_tasks signals many 1 0 q 0 (assigned_task file base instance scope drive.target drive.value ∷ []) (drive_tasks file base instance scope drives) (assignment_lawful file base instance scope signals many drive.target drive.value d inside one) (drives_lawful file base instance scope signals many pause drives d inside (faultless_right (before ++ own) more h)))

waited_lawful : (file base : ℕ) (scope : Meanings) (signals : List Signal) (events : List Happening) (body : Action) (b : Bool) → IsScopeOf base signals scope → sensitivity_faults scope (Listed events) ≡ [] → AreFaultless (steps body scope) → is_clocked_by (Listed events) ≡ b → IsProcess signals (waited b (Some (map (watched_of file base scope) events)) (body_of (acts file base body scope)))
waited_lawful file base scope signals events body true d h none is =
    edge file base scope signals d events body h is none
waited_lawful file base scope signals events body false d h none is =
    comb file base scope signals d (Listed events) body h is none

does_lawful : (file base : ℕ) (scope : Meanings) (signals : List Signal) (sensitivity : Sensitivity) (body : Action) → IsScopeOf base signals scope → sensitivity_faults scope sensitivity ≡ [] → AreFaultless (steps body scope) → IsProcess signals (waited (is_clocked_by sensitivity) (listing_of file base scope sensitivity) (body_of (acts file base body scope)))
does_lawful file base scope signals Star body d h none = comb file base scope signals d Star body h refl none
does_lawful file base scope signals StarInParens body d h none =
    comb file base scope signals d StarInParens body h refl none
does_lawful file base scope signals (Listed events) body d h none =
    waited_lawful file base scope signals events body (is_clocked_by (Listed events)) d h none refl

waited_statements : (b : Bool) (list : Option (List Watched)) (body : Actions) → process_statements (waited b list body) ≡ statements_of body
waited_statements true None body = refl
waited_statements true (Some events) body = refl
waited_statements false list body = refl

always_lawful : (file base instance : ℕ) (scope : Meanings) (signals : List Signal) (many at : ℕ) (sensitivity : Sensitivity) (body : Action) → IsScopeOf base signals scope → instance < many → AreFaultless (always_steps scope at sensitivity body) → AreTasks signals many 1 (statement_count (always_steps scope at sensitivity body)) (always_task file base instance scope at sensitivity body ∷ [])
always_lawful file base instance scope signals many at sensitivity body d inside h =
    let first : List Step = faulty (sensitivity_faults scope sensitivity) in
    let all : List Step = steps body scope in
    let list : sensitivity_faults scope sensitivity ≡ [] =
    no_faults (sensitivity_faults scope sensitivity) (faultless_left first all h) in
    let none : AreFaultless (steps body scope) = faultless_right first all h in
    let small : statements_of (body_of (acts file base body scope)) ≤ statement_count (steps body scope) =
    count file base scope signals d body none in
    let joined : statement_count (always_steps scope at sensitivity body) ≡ statement_count first + statement_count (steps body scope) =
    count_append first all in
    let quiet : statement_count first ≡ 0 = count_faulty (sensitivity_faults scope sensitivity) in
    let own : process_statements (waited (is_clocked_by sensitivity) (listing_of file base scope sensitivity) (body_of (acts file base body scope))) ≡ statements_of (body_of (acts file base body scope)) =
    waited_statements (is_clocked_by sensitivity) (listing_of file base scope sensitivity) (body_of (acts file base body scope)) in
    one_task signals many (statement_count (always_steps scope at sensitivity body)) (always_task file base instance scope at sensitivity body) (does_lawful file base scope signals sensitivity body d list none) inside (omega arith)

-- the processes of an item: no more than its places, with no more statements than its steps count
pub item_lawful : (file base instance : ℕ) (scope : Meanings) (signals : List Signal) (many : ℕ) (item : ModuleItem) → IsScopeOf base signals scope → instance < many → AreFaultless (item_steps scope item) → AreTasks signals many (length (item_places item)) (statement_count (item_steps scope item)) (item_tasks file base instance scope item)
item_lawful file base instance scope signals many (Ports head names) d inside h = no_tasks signals many 0 0
item_lawful file base instance scope signals many (Nets at signed bounds nets) d inside h =
    let p : ℕ = length (net_places nets) in
    tasks_weaker signals many p 0 p (statement_count (net_steps scope nets)) (net_tasks file base instance scope nets) (omega arith) (omega arith) (nets_lawful file base instance scope signals many nets d inside h)
item_lawful file base instance scope signals many (Variables at signed bounds variables) d inside h =
    no_tasks signals many 0 0
item_lawful file base instance scope signals many (Integers at names) d inside h = no_tasks signals many 0 0
item_lawful file base instance scope signals many (Parameters at kind bounds values) d inside h =
    no_tasks signals many 0 0
item_lawful file base instance scope signals many (Drives at pause drives) d inside h =
    let p : ℕ = length (drive_places drives) in
    tasks_weaker signals many p 0 p (statement_count (drive_steps scope pause drives)) (drive_tasks file base instance scope drives) (omega arith) (omega arith) (drives_lawful file base instance scope signals many pause drives d inside h)
item_lawful file base instance scope signals many (Gates at names pause drives) d inside h =
    let all : List Drive = assignments_of drives in
    let own : AreFaultless (drive_steps scope pause all) =
    faultless_right (faulty (terminal_faults scope drives)) (drive_steps scope pause all) h in
    let p : ℕ = length (drive_places all) in
    tasks_weaker signals many p 0 p (statement_count (gate_steps scope pause drives)) (drive_tasks file base instance scope all) (omega arith) (omega arith) (drives_lawful file base instance scope signals many pause all d inside own)
item_lawful file base instance scope signals many (Always at sensitivity body) d inside h =
    always_lawful file base instance scope signals many at sensitivity body d inside h
item_lawful file base instance scope signals many (Instances child parameters instantiations) d inside h =
    no_tasks signals many 0 0

-- ---- delays

abbrev pub IsBefore : ℕ → Delay → Type 0
IsBefore end one = one.process.0 < end

pub before_weaker : (m n : ℕ) (all : List Delay) → m ≤ n → All (IsBefore m) all → All (IsBefore n) all
before_weaker m n all less h =
    All-weaker (IsBefore m) (IsBefore n) (λ one before. let own : one.process.0 < m = before in omega arith) all h

repeated_before : (file process at n : ℕ) → All (IsBefore (process + n)) (repeated file process at n)
repeated_before file process at zero = All-nil (IsBefore (process + zero))
repeated_before file process at (suc n) =
    let own : process < process + suc n = omega arith in
    let same : process + 1 + n ≡ process + suc n = omega arith in
    All-cons (IsBefore (process + suc n)) (delay_in file process at) (repeated file (process + 1) at n) own (subst (λ end. All (IsBefore end) (repeated file (process + 1) at n)) same (repeated_before file (process + 1) at n))

mapped_before : (file process : ℕ) (places : List ℕ) → All (IsBefore (process + 1)) (map (delay_in file process) places)
mapped_before file process [] = All-nil (IsBefore (process + 1))
mapped_before file process (at ∷ places) =
    let own : process < process + 1 = omega arith in
    All-cons (IsBefore (process + 1)) (delay_in file process at) (map (delay_in file process) places) own (mapped_before file process places)

drive_count : (file base instance : ℕ) (scope : Meanings) (drives : List Drive) → length (drive_tasks file base instance scope drives) ≡ length drives
drive_count file base instance scope [] = refl
drive_count file base instance scope (drive ∷ drives) =
    let rest : length (drive_tasks file base instance scope drives) ≡ length drives =
    drive_count file base instance scope drives in
    omega arith

-- each delay of an item stands in one of its processes
pub delays_inside : (file base instance process : ℕ) (scope : Meanings) (item : ModuleItem) → All (IsBefore (process + length (item_tasks file base instance scope item))) (item_delays file process scope item)
delays_inside file base instance process scope (Ports head names) = All-nil (IsBefore (process + 0))
delays_inside file base instance process scope (Nets at signed bounds nets) =
    All-nil (IsBefore (process + length (net_tasks file base instance scope nets)))
delays_inside file base instance process scope (Variables at signed bounds variables) =
    All-nil (IsBefore (process + 0))
delays_inside file base instance process scope (Integers at names) = All-nil (IsBefore (process + 0))
delays_inside file base instance process scope (Parameters at kind bounds values) =
    All-nil (IsBefore (process + 0))
delays_inside file base instance process scope (Drives at None drives) =
    All-nil (IsBefore (process + length (drive_tasks file base instance scope drives)))
delays_inside file base instance process scope (Drives at (Some pause) drives) =
    subst (λ n. All (IsBefore (process + n)) (repeated file process pause.at (length drives))) (sym (drive_count file base instance scope drives)) (repeated_before file process pause.at (length drives))
delays_inside file base instance process scope (Gates at names None drives) =
    All-nil (IsBefore (process + length (drive_tasks file base instance scope (assignments_of drives))))
delays_inside file base instance process scope (Gates at names (Some pause) drives) =
    let all : List Drive = assignments_of drives in
    subst (λ n. All (IsBefore (process + n)) (repeated file process pause.at (length all))) (sym (drive_count file base instance scope all)) (repeated_before file process pause.at (length all))
delays_inside file base instance process scope (Always at sensitivity body) =
    mapped_before file process (delays_of (steps body scope))
delays_inside file base instance process scope (Instances child parameters instantiations) =
    All-nil (IsBefore (process + 0))
