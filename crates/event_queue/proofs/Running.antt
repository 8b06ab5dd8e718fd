-- Runs of a simulator, one event after the other.
use Rattle.std.proofs.Common.{◌≡◌, ◌<◌, ◌+◌, ◌∙◌, ℕ, List, Option, None, Some, refl, sym, ap, subst, arith}
use Rattle.std.specs.Prelude.{slice_index_or}
use Rattle.event_model.specs.declared.policy.Policy.{Policy}
use Rattle.event_model.specs.Order.{ready}
use Rattle.event_model.specs.Policies.{Here, IsDone, IsTooDear, Next, PolicyRun, chosen, cost}
use Rattle.event_model.specs.Queue.{State, Event, Activate, after}
use Rattle.rtl_flat.specs.Flats.{Flat}
use Rattle.event_tables.specs.event_write.declared.fanout.Fanout.{Fanout}
use Rattle.event_tables.specs.event_write.QueueState.{design_of}
use Rattle.event_take.specs.declared.choice.Choice.{Choice}
use Rattle.event_take.specs.declared.choice.Choice.TheVariants as choice
use Rattle.event_take.specs.Taken.{event_of}
use Rattle.event_queue.specs.declared.sim.EventSim.{EventSim}
use Rattle.event_queue.specs.Sims.{IsSame, Runs, flat_of, left_of, level_of, state_of}

-- no choice activates
pub never_activate : (one : Choice) → event_of one ≡ Activate → ⊥
never_activate (choice.Input signal) e = cc
never_activate (choice.Evaluate process) e = cc
never_activate (choice.Update process) e = cc
never_activate (choice.Run process) e = cc
never_activate choice.Delayed e = cc

-- ---- what stays

pub still_same : (s : EventSim) → IsSame s s
still_same s = record { fanout = refl; levels = refl; costs = refl; budget = refl }

pub same_again : (s t u : EventSim) → IsSame s t → IsSame t u → IsSame s u
same_again s t u one two =
    record {
      fanout = two.fanout ∙ one.fanout;
      levels = two.levels ∙ one.levels;
      costs = two.costs ∙ one.costs;
      budget = two.budget ∙ one.budget;
    }

pub same_flat : (s t : EventSim) → IsSame s t → flat_of t ≡ flat_of s
same_flat s t same = ap (λ (f : Fanout). design_of f) same.fanout

pub same_level : (s t : EventSim) → IsSame s t → level_of t ≡ level_of s
same_level s t same =
    ap (λ (levels : List (Option ℕ)). λ (p : ℕ). slice_index_or levels p None) same.levels

-- ---- runs

pub no_run : (policy : Policy) (level : ℕ → Option ℕ) (d : Flat) (s : State) (left : ℕ) → Runs policy level d s left s left
no_run policy level d s left = record { spent = 0; run = Here s; all = omega arith }

-- what is chosen now, over the design and the levels from before
pub chosen_same : (policy : Policy) (i s : EventSim) (o : Option Event) → IsSame i s → o ≡ chosen policy (level_of s) (flat_of s) (state_of s) → chosen policy (level_of i) (flat_of i) (state_of s) ≡ o
chosen_same policy i s o same is =
    sym (is ∙ ap (λ (level : ℕ → Option ℕ). chosen policy level (flat_of s) (state_of s)) (same_level i s same)
    ∙ ap (λ (d : Flat). chosen policy (level_of i) d (state_of s)) (same_flat i s same))

-- one event more
pub run_more : (policy : Policy) (i s t : EventSim) (first : State) (before : ℕ) (event : Event) → IsSame i s → Runs policy (level_of i) (flat_of i) first before (state_of s) (left_of s) → Some event ≡ chosen policy (level_of s) (flat_of s) (state_of s) → state_of t ≡ ready (flat_of s) (after (flat_of s) (state_of s) event) → left_of t + cost (flat_of s) event ≡ left_of s → Runs policy (level_of i) (flat_of i) first before (state_of t) (left_of t)
run_more policy i s t first before event same runs next is paid =
    let all = runs.all in
    let price = ap (λ (d : Flat). cost d event) (same_flat i s same) in
    record {
      spent = runs.spent + cost (flat_of i) event;
      run = subst (λ (x : State). PolicyRun policy (level_of i) (flat_of i) first (runs.spent + cost (flat_of i) event) x)
          (sym (is ∙ ap (λ (d : Flat). ready d (after d (state_of s) event)) (same_flat i s same)))
          (Next first (state_of s) runs.spent event runs.run (chosen_same policy i s (Some event) same next));
      all = omega (arith, all, price, paid);
    }

pub too_dear : (policy : Policy) (i s : EventSim) (event : Event) → IsSame i s → Some event ≡ chosen policy (level_of s) (flat_of s) (state_of s) → left_of s < cost (flat_of s) event → IsTooDear policy (level_of i) (flat_of i) (state_of s) (left_of s)
too_dear policy i s event same next dear =
    let price = ap (λ (d : Flat). cost d event) (same_flat i s same) in
    record {
      event = event;
      next = chosen_same policy i s (Some event) same next;
      dear = omega (arith, price, dear);
    }

-- a policy that is done, over the design and the levels from before
pub done_same : (policy : Policy) (i o : EventSim) (s : State) → IsSame i o → IsDone policy (level_of o) (flat_of o) s → IsDone policy (level_of i) (flat_of i) s
done_same policy i o s same done =
    sym (ap (λ (level : ℕ → Option ℕ). chosen policy level (flat_of o) s) (same_level i o same) ∙ ap (λ (d : Flat). chosen policy (level_of i) d s) (same_flat i o same)) ∙ done
