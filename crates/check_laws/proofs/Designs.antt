-- What designs without findings about lists, assignments, drivers and latches are.
use Rattle.std.proofs.Common.{◌≡◌, ◌∙◌, ◌+◌, ◌<◌, ℕ, zero, suc, Bool, true, false, not, ◌&&◌, ◌||◌, cond, List, [], ◌∷◌, Option, None, Some, refl, sym, ap, subst, inl, inr, arith}
use Rattle.std.specs.Prelude.{◌⊎◌, IsTrue, ◌==◌, nat_lt}
use Rattle.std.specs.List.{All, enumerate_from, find, list_any, slice_get}
use Rattle.std.specs.Option.{IsSomeAnd}
use Rattle.std.proofs.lemmas.Bool.{and_from, and_parts, cases_eq, cases_order, eqb-false, false≢true, lt-ltb, not-true, not_from_false, or_cases, or_left, or_right, true_from_ne_false}
use Rattle.std.proofs.lemmas.List.Elements.{All-cons, All-nil}
use Rattle.rtl_flat.specs.declared.signal.Kind.{Kind}
use Rattle.rtl_flat.specs.declared.signal.Kind.TheVariants.{TopInput, Net, Var}
use Rattle.rtl_flat.specs.declared.signal.Signal.{Signal}
use Rattle.rtl_flat.specs.Flows.{body_flow, flow_of, may_target}
use Rattle.rtl_flat.specs.Levels.{IsArrow, IsNode, Chain, IsBehindCycle}
use Rattle.rtl_flat.specs.Levels as level
use Rattle.rtl_flat.specs.Paths.{Flow, Step, Read, Write, IsSure, MayWrite, MayWriteLate, MayWriteNow, ReadsOutside, is_sure, may_write, may_write_blocking, may_write_delayed, reads_outside, may_write_bit, may_write_late, may_write_now}
use Rattle.rtl_flat.specs.PathSets.{IsTemporary, IsTemporaryOf, OfProcess, Uses, items_list, listed}
use Rattle.rtl_flat.specs.Process.{Watched, Actions, Doing, Assign, Comb, Edge', Task}
use Rattle.rtl_flat.specs.Signs.{width_in}
use Rattle.rtl_flat.specs.WellFormed.{IsBody, has_edge}
use Rattle.rtl_flat.proofs.Paths.{decided}
use Rattle.event_model.specs.Queue.{doing_at, doing_of}
use Rattle.rtl_flat.specs.Flats.{Flat, widths}
use Rattle.event_model.specs.Queue as queue
use Rattle.net_laws.specs.event_laws.Steady.{AreLawful}
use Rattle.net_laws.proofs.event_laws_proofs.Within.{may_read_outside, outside_inside, target_inside, write_inside}
use Rattle.net_model.specs.Gates.{Gate, IsAdmitted}
use Rattle.net_model.specs.Solution.{IsLasting, IsRegisterBit}
use Rattle.rtl_rule.specs.Parts.{has_some, is_clocked, written}
use Rattle.check_sense.specs.Sense.{AreMixedEdges, AreNeverWakes, AreSenseMissing, IsMixedEdges, IsNeverWakes, IsSenseMissing, another_writes, can_wake, first_level, has_item, misses, mixed_edges_at, never_wakes_at, sense_missing_at}
use Rattle.check_sense.specs.Sense as sense
use Rattle.check_assign.specs.Assigned.{AreCombLoop, AreSeveralDrivers, IsBlockingState, IsCombLoop, IsLatchInferred, IsMixedAssign, IsNonblockingComb, IsSeveralDrivers, IsUndriven, blocking_state_at, comb_loop_at, is_comb, is_written, late, latch_inferred_at, lower_writes, mixed_assign_at, nonblocking_comb_at, now, several_drivers_at, undriven_at}
use Rattle.check_laws.specs.Designs.{AreTemporariesDecided, BlockingState, CombLoop, CombLoopAlone, IsComb, IsComputedBit, IsEdge, LatchInferred, MixedAssign, MixedEdges, NeverWakes, NonblockingComb, SenseMissing, SeveralDrivers, Undriven}
use Rattle.rtl_rule.proofs.Below.{some_at, some_found}
use Rattle.rtl_rule.proofs.Lists.{each_numbered}
use Rattle.check_laws.proofs.Gates.{latches_decided}
use Rattle.check_laws.proofs.Sites.{any_found, numbered_found, process_refuted, refuted, signal_refuted, signal_there, slice_there, task_of}

-- ---- S1

pub comb_body : (d : Flat) → AreLawful d → (p : ℕ) (list : Option (List Watched)) (body : Actions) → IsComb d p list body → IsBody d.signals body
comb_body d lawful p list body is = (lawful p (Comb list body) is).1

pub edge_body : (d : Flat) → AreLawful d → (p : ℕ) (events : List Watched) (body : Actions) → IsEdge d p events body → IsBody d.signals body
edge_body d lawful p events body is = (lawful p (Edge' events body) is).2

pub sense_missing : (d : Flat) → SenseMissing d
sense_missing d lawful none p list body is i k read = by_list list is
  where
    by_list : (l : Option (List Watched)) → IsComb d p l body → listed (widths d) (Comb l body) i k ≡ true
    by_list None is = (decided (body_flow (widths d) body) i k).reads.1 (may_read_outside (body_flow (widths d) body) i k read)
    by_list (Some items) is =
        true_from_ne_false (items_list (widths d) items i k) (λ missing.
        let inside = outside_inside d.signals body (comb_body d lawful p (Some items) body is) i k read in
        let at = task_of d p (Comb (Some items) body) is in
        let missed : misses d (Comb (Some items) body) i ≡ true =
        some_at (widths d i) (λ n. reads_outside (body_flow (widths d) body) i n && not (items_list (widths d) items i n)) k inside (and_from _ _ ((decided (body_flow (widths d) body) i k).outside.1 read) (not_from_false _ missing)) in
        signal_refuted (IsSenseMissing d) sense_missing_at d none p at.task at.there i (signal_there d.signals i k inside) (subst (λ does. misses d does i ≡ true) (sym at.is) missed))

-- ---- A2 and A3

pub any_weaker : {A : Type 0} (f g : A → Bool) → ((x : A) → f x ≡ true → g x ≡ true) → (xs : List A) → list_any f xs ≡ true → list_any g xs ≡ true
any_weaker f g weaker [] h = h
any_weaker f g weaker (x ∷ xs) h =
    elim (or_cases (f x) (list_any f xs) h) [
      | inl here ↦ or_left (g x) (list_any g xs) (weaker x here)
      | inr there ↦ or_right (g x) (list_any g xs) (any_weaker f g weaker xs there)
    ]

pub late_may : (flow : Flow) (i k : ℕ) → MayWriteLate flow i k → MayWrite flow i k
late_may flow i k late =
    record {
      path = late.path;
      is_path = late.is_path;
      written = any_weaker (may_write_late i k) (may_write_bit i k) of_step late.path late.written;
    }
  where
    of_step : (step : Step) → may_write_late i k step ≡ true → may_write_bit i k step ≡ true
    of_step (Read bits) h = h
    of_step (Write delayed may sure) h = (and_parts delayed (may i k) h).1

pub now_may : (flow : Flow) (i k : ℕ) → MayWriteNow flow i k → MayWrite flow i k
now_may flow i k at_once =
    record {
      path = at_once.path;
      is_path = at_once.is_path;
      written = any_weaker (may_write_now i k) (may_write_bit i k) of_step at_once.path at_once.written;
    }
  where
    of_step : (step : Step) → may_write_now i k step ≡ true → may_write_bit i k step ≡ true
    of_step (Read bits) h = h
    of_step (Write delayed may sure) h = (and_parts (not delayed) (may i k) h).1

pub nonblocking_comb : (d : Flat) → NonblockingComb d
nonblocking_comb d lawful none p list body is i k written =
    let flow = body_flow (widths d) body in
    let inside = write_inside d.signals body (comb_body d lawful p list body is) i k (late_may flow i k written) in
    let at = task_of d p (Comb list body) is in
    let found : has_some (widths d) (late d (Comb list body)) i ≡ true =
    some_at (widths d i) (may_write_delayed flow i) k inside ((decided flow i k).late.1 written) in
    signal_refuted (IsNonblockingComb d) (nonblocking_comb_at d) d none p at.task at.there i (signal_there d.signals i k inside) (subst (λ does. (is_comb does && has_some (widths d) (late d does) i) ≡ true) (sym at.is) found)

pub mixed_assign : (d : Flat) → MixedAssign d
mixed_assign d lawful none p events body is i k at_once later =
    let flow = body_flow (widths d) body in
    let inside = write_inside d.signals body (edge_body d lawful p events body is) i k (late_may flow i k later) in
    let at = task_of d p (Edge' events body) is in
    let found : has_some (widths d) (now d (Edge' events body)) i ≡ true =
    some_at (widths d i) (may_write_blocking flow i) k inside ((decided flow i k).now.1 at_once) in
    let found' : has_some (widths d) (late d (Edge' events body)) i ≡ true =
    some_at (widths d i) (may_write_delayed flow i) k inside ((decided flow i k).late.1 later) in
    signal_refuted (IsMixedAssign d) (mixed_assign_at d) d none p at.task at.there i (signal_there d.signals i k inside) (subst (λ does. (has_some (widths d) (now d does) i && has_some (widths d) (late d does) i) ≡ true) (sym at.is) (and_from _ _ found found'))

-- ---- L1

pub latch_inferred : (d : Flat) → LatchInferred d
latch_inferred d lawful gates are none p list body is =
    elim (latches_decided d gates are p) [
      | inl latch ↦ inr latch
      | inr free ↦ inl (λ i k may lasting. writes_all free i k may lasting)
    ]
  where
    writes_all : ((gate : Gate) → IsAdmitted d p gate → ⊥) → (i k : ℕ) → MayWrite (body_flow (widths d) body) i k → IsLasting d i → IsSure (body_flow (widths d) body) i k
    writes_all free i k may lasting =
        let flow = body_flow (widths d) body in
        (decided flow i k).sure.0 (true_from_ne_false (is_sure flow i k) (λ missing.
        let inside = write_inside d.signals body (comb_body d lawful p list body is) i k may in
        let at = task_of d p (Comb list body) is in
        let found : has_some (widths d) (λ s n. written d (Comb list body) s n && not (is_sure flow s n)) i ≡ true =
        some_at (widths d i) (λ n. may_write flow i n && not (is_sure flow i n)) k inside (and_from _ _ ((decided flow i k).writes.1 may) (not_from_false _ missing)) in
        signal_refuted (IsLatchInferred d) latch_inferred_at d none p at.task at.there i (signal_there d.signals i k inside) (record {
          level = subst (λ does. is_comb does ≡ true) (sym at.is) refl;
          not_admitted = free;
          leaves = subst (λ does. has_some (widths d) (λ s n. written d does s n && not (is_sure (flow_of (widths d) does) s n)) i ≡ true) (sym at.is) found;
          kept = lasting;
        })))

-- ---- A6

arrow_node : (d : Flat) (n p q : ℕ) → Chain (IsArrow d.signals d.tasks) (suc n) p q → IsNode d.tasks q
arrow_node d n p q (level.Then m p' r q' before arrow) = arrow.to

loop_refuted : (d : Flat) → AreCombLoop d [] → (n p : ℕ) → Chain (IsArrow d.signals d.tasks) (suc n) p p → ⊥
loop_refuted d none n p cycle = by_task (slice_get d.tasks p) refl (arrow_node d n p p cycle)
  where
    by_task : (o : Option Task) → slice_get d.tasks p ≡ o → IsSomeAnd o (λ task. level.HasNoEdge task.does) → ⊥
    by_task None e node = absurd node
    by_task (Some task) e node =
        process_refuted (IsCombLoop d) (comb_loop_at d) d none p task e (n, cycle)

pub comb_loop : (d : Flat) → CombLoop d
comb_loop d none p behind = loop_refuted d none behind.round behind.node behind.cycle

arrow_loop : (d : Flat) (p : ℕ) → IsArrow d.signals d.tasks p p → Chain (IsArrow d.signals d.tasks) 1 p p
arrow_loop d p arrow = level.Then 0 p p p (level.Here p) arrow

pub comb_loop_alone : (d : Flat) → CombLoopAlone d
comb_loop_alone d none p list body is i k reads writes =
    let at = task_of d p (Comb list body) is in
    let of_p : (P : Task → Type 0) → P at.task → IsSomeAnd (slice_get d.tasks p) P =
    λ P h. subst (λ o. IsSomeAnd o P) (sym at.there) h in
    loop_refuted d none 0 p (arrow_loop d p (record {
      «from» = of_p (λ task. level.HasNoEdge task.does) (subst level.HasNoEdge (sym at.is) tt);
      to = of_p (λ task. level.HasNoEdge task.does) (subst level.HasNoEdge (sym at.is) tt);
      signal = i;
      bit = k;
      written = of_p (λ task. MayWrite (flow_of (width_in d.signals) task.does) i k) (subst (λ does. MayWrite (flow_of (width_in d.signals) does) i k) (sym at.is) writes);
      wanted = inl (of_p (λ task. ReadsOutside (flow_of (width_in d.signals) task.does) i k) (subst (λ does. ReadsOutside (flow_of (width_in d.signals) does) i k) (sym at.is) reads));
    }))

-- ---- A4

-- an element of a list in order
any_numbered : {A : Type 0} (test : (ℕ × A) → Bool) (n : ℕ) (xs : List A) (k m : ℕ) (x : A) → slice_get xs k ≡ Some x → m ≡ n + k → test (m, x) ≡ true → list_any test (enumerate_from n xs) ≡ true
any_numbered test n [] k m x there e is = absurd (cc)
any_numbered test n (y ∷ xs) zero m x there e is =
    let same : x ≡ y = cc in
    let number : m ≡ n = omega (arith, e) in
    or_left _ _ (subst (λ a. test (n, a) ≡ true) same (subst (λ a. test (a, x) ≡ true) number is))
any_numbered test n (y ∷ xs) (suc k) m x there e is =
    or_right (test (n, y)) _ (any_numbered test (n + 1) xs k m x there (omega (arith, e)) is)

pub process_inside : (d : Flat) → AreLawful d → (p : ℕ) (does : Doing) → doing_at d p ≡ Some does → (i k : ℕ) → MayWrite (flow_of (widths d) does) i k → k < widths d i
process_inside d lawful p (Assign target value) is i k writes =
    let flow = flow_of (widths d) (Assign target value) in
    elim (or_cases (may_target (widths d) target i k) false ((decided flow i k).writes.1 writes)) [
      | inl may ↦ target_inside (widths d) target i k may
      | inr none ↦ absurd (false≢true none)
    ]
process_inside d lawful p (Comb list body) is i k writes =
    write_inside d.signals body (comb_body d lawful p list body is) i k writes
process_inside d lawful p (Edge' events body) is i k writes =
    write_inside d.signals body (edge_body d lawful p events body is) i k writes

not_lower : (d : Flat) → AreLawful d → AreSeveralDrivers d [] → (p q : ℕ) (does other : Doing) → doing_at d p ≡ Some does → doing_at d q ≡ Some other → (i k : ℕ) → MayWrite (flow_of (widths d) does) i k → MayWrite (flow_of (widths d) other) i k → q < p → ⊥
not_lower d lawful none p q does other is is' i k writes writes' below =
    let inside = process_inside d lawful p does is i k writes in
    let at = task_of d p does is in
    let from = task_of d q other is' in
    let here : written d at.task.does i k ≡ true =
    subst (λ one. written d one i k ≡ true) (sym at.is) ((decided (flow_of (widths d) does) i k).writes.1 writes) in
    let there : written d from.task.does i k ≡ true =
    subst (λ one. written d one i k ≡ true) (sym from.is) ((decided (flow_of (widths d) other) i k).writes.1 writes') in
    let lower : lower_writes d p i k ≡ true =
    any_numbered (λ (one : ℕ × Task). nat_lt one.0 p && written d one.1.does i k) 0 d.tasks q q from.task from.there (omega arith) (and_from _ _ (lt-ltb q p below) there) in
    signal_refuted (IsSeveralDrivers d) several_drivers_at d none p at.task at.there i (signal_there d.signals i k inside)
    (some_at (widths d i) (λ n. written d at.task.does i n && lower_writes d p i n) k inside (and_from _ _ here lower))

pub several_drivers : (d : Flat) → SeveralDrivers d
several_drivers d lawful none p q does other is is' i k writes writes' =
    elim (cases_order p q) [
      | inl same ↦ same
      | inr (inl less) ↦ absurd (not_lower d lawful none q p other does is' is i k writes' writes less)
      | inr (inr more) ↦ absurd (not_lower d lawful none p q does other is is' i k writes writes' more)
    ]

-- ---- A1

-- a temporary that a process may write is its own
pub own_temporary : (d : Flat) (p : ℕ) (task : Task) → slice_get d.tasks p ≡ Some task → (i k : ℕ) → IsTemporary d.signals d.tasks i → MayWrite (flow_of (widths d) task.does) i k → IsTemporaryOf d.signals d.tasks p i
own_temporary d p task there i k temporary may =
    elim (cases_eq p temporary.process) [
      | inl same ↦ subst (λ q. IsTemporaryOf d.signals d.tasks q i) (sym same) temporary.of_process
      | inr other ↦ absurd (temporary.of_process.alone p other (subst (λ o. IsSomeAnd o (λ one. Uses (width_in d.signals) one i)) (sym there) (record { bit = k; used = inl may })))
    ]

pub blocking_decided : (d : Flat) → AreTemporariesDecided d → BlockingState d
blocking_decided d decides lawful none p events body is i k writes =
    let flow = body_flow (widths d) body in
    let may = now_may flow i k writes in
    let inside = write_inside d.signals body (edge_body d lawful p events body is) i k may in
    let at = task_of d p (Edge' events body) is in
    let found : has_some (widths d) (now d (Edge' events body)) i ≡ true =
    some_at (widths d i) (may_write_blocking flow i) k inside ((decided flow i k).now.1 writes) in
    elim (decides i) [
      | inl temporary ↦ own_temporary d p at.task at.there i k temporary (subst (λ does. MayWrite (flow_of (widths d) does) i k) (sym at.is) may)
      | inr lasting ↦ absurd (signal_refuted (IsBlockingState d) (blocking_state_at d) d none p at.task at.there i (signal_there d.signals i k inside) (record {
        clocked = subst (λ does. is_clocked does ≡ true) (sym at.is) refl;
        writes = subst (λ does. has_some (widths d) (now d does) i ≡ true) (sym at.is) found;
        kept = lasting;
      }))
    ]

-- ---- A5

pub undriven : (d : Flat) → Undriven d
undriven d none i k inside lasting =
    let (signal, there) = slice_there d.signals i (signal_there d.signals i k inside) in
    let refutes = each_numbered (λ one. IsUndriven d one → ⊥) 0 d.signals (refuted (IsUndriven d) undriven_at (enumerate_from 0 d.signals) none) i i signal there (omega arith) in
    by_kind signal there refutes (queue.is_input_kind signal.kind) refl
  where
    by_process : (q : ℕ) (task : Task) → slice_get d.tasks q ≡ Some task → (does : Doing) → task.does ≡ does → MayWrite (flow_of (widths d) task.does) i k → IsRegisterBit d i k ⊎ IsComputedBit d i k
    by_process q task there (Assign target value) is may =
        inr (record {
          process = q;
          node = subst (λ o. IsSomeAnd o (λ one. level.HasNoEdge one.does)) (sym there) (subst level.HasNoEdge (sym is) tt);
          may = subst (λ o. IsSomeAnd o (λ one. MayWrite (flow_of (width_in d.signals) one.does) i k)) (sym there) may;
        })
    by_process q task there (Comb list body) is may =
        inr (record {
          process = q;
          node = subst (λ o. IsSomeAnd o (λ one. level.HasNoEdge one.does)) (sym there) (subst level.HasNoEdge (sym is) tt);
          may = subst (λ o. IsSomeAnd o (λ one. MayWrite (flow_of (width_in d.signals) one.does) i k)) (sym there) may;
        })
    by_process q task there (Edge' events body) is may =
        inl (record {
          process = q;
          events = events;
          body = body;
          does = ap doing_of there ∙ ap Some is;
          may = subst (λ does. MayWrite (flow_of (widths d) does) i k) is may;
          lasting = lasting;
        })

    by_kind : (signal : Signal) → slice_get d.signals i ≡ Some signal → (IsUndriven d (i, signal) → ⊥) → (b : Bool) → queue.is_input_kind signal.kind ≡ b → IsTrue (queue.is_input d i) ⊎ (IsRegisterBit d i k ⊎ IsComputedBit d i k)
    by_kind signal there refutes true e = inl (ap queue.is_input_of there ∙ e)
    by_kind signal there refutes false e =
        let written_there : is_written d i k ≡ true =
        true_from_ne_false (is_written d i k) (λ missing. refutes (and_from _ _ (not_from_false _ e) (some_at (widths d i) (λ n. not (is_written d i n)) k inside (not_from_false _ missing)))) in
        let found = any_found (λ (one : Task). written d one.does i k) d.tasks written_there in
        inr (by_process found.place found.element found.there found.element.does refl ((decided (flow_of (widths d) found.element.does) i k).writes.0 found.passes))

-- ---- S2

pub never_wakes : (d : Flat) → NeverWakes d
never_wakes d none p list body is =
    let at = task_of d p (Comb list body) is in
    let wakes : can_wake d p (Comb list body) ≡ true =
    true_from_ne_false (can_wake d p (Comb list body)) (λ missing. process_refuted (IsNeverWakes d) (never_wakes_at d) d none p at.task at.there (subst (λ does. sense.never_wakes d p does ≡ true) (sym at.is) (not_from_false _ missing))) in
    let found = numbered_found (λ (one : ℕ × Signal). has_some (widths d) (λ s k. listed (widths d) (Comb list body) s k && (queue.is_input_kind one.1.kind || another_writes d p s k)) one.0) d.signals wakes in
    let s = found.place in
    let bit = some_found (widths d s) (λ k. listed (widths d) (Comb list body) s k && (queue.is_input_kind found.element.kind || another_writes d p s k)) found.passes in
    let (lists, sources) = and_parts _ _ bit.is in
    record {
      signal = s;
      bit = bit.number;
      inside = bit.below;
      listed = lists;
      source = elim (or_cases _ _ sources) [
        | inl top ↦ inl (ap queue.is_input_of found.there ∙ top)
        | inr another ↦ inr (writer s bit.number another)
      ];
    }
  where
    writer : (s k : ℕ) → another_writes d p s k ≡ true → (q : ℕ) × (q ≡ p → ⊥) × OfProcess MayWrite d.signals d.tasks q s k
    writer s k h =
        let found = numbered_found (λ (one : ℕ × Task). not (one.0 == p) && written d one.1.does s k) d.tasks h in
        let (other, writes) = and_parts _ _ found.passes in
        (found.place, eqb-false found.place p (not-true _ other), subst (λ o. IsSomeAnd o (λ one. MayWrite (flow_of (width_in d.signals) one.does) s k)) (sym found.there) ((decided (flow_of (widths d) found.element.does) s k).writes.0 writes))

-- ---- S3

pub mixed_edges : (d : Flat) → MixedEdges d
mixed_edges d none p events body is =
    let at = task_of d p (Edge' events body) is in
    all_edges events (λ found. process_refuted IsMixedEdges mixed_edges_at d none p at.task at.there (subst (λ does. has_item (first_level does) ≡ true) (sym at.is) found))
  where
    by_edge : (item : Watched) (items : List Watched) → ((has_item (find (λ (one : Watched). not (has_edge one.edge)) items) ≡ true → ⊥) → All (λ one. IsTrue (has_edge one.edge)) items) → (b : Bool) → has_edge item.edge ≡ b → (has_item (cond (not b) (Some item) (find (λ (one : Watched). not (has_edge one.edge)) items)) ≡ true → ⊥) → All (λ one. IsTrue (has_edge one.edge)) (item ∷ items)
    by_edge item items rest true e refutes =
        All-cons (λ (one : Watched). IsTrue (has_edge one.edge)) item items e (rest refutes)
    by_edge item items rest false e refutes = absurd (refutes refl)

    all_edges : (items : List Watched) → (has_item (find (λ (item : Watched). not (has_edge item.edge)) items) ≡ true → ⊥) → All (λ item. IsTrue (has_edge item.edge)) items
    all_edges [] refutes = All-nil (λ (item : Watched). IsTrue (has_edge item.edge))
    all_edges (item ∷ items) refutes =
        by_edge item items (all_edges items) (has_edge item.edge) refl refutes
