-- A trial before its first step, and from one step to the next.
use Rattle.std.proofs.Common.{◌≡◌, ◌∙◌, ◌==◌, ◌<◌, ◌≤◌, ◌+◌, ℕ, Bool, true, false, List, [], ◌∷◌, ◌++◌, length, map, refl, sym, ap, subst, arith}
use Rattle.std.specs.Prelude.{Option}
use Rattle.std.proofs.lemmas.List.{length-append, length-map}
use Rattle.rtl_flat.specs.declared.expr.SigId.{SigId}
use Rattle.rtl_flat.specs.Levels.{IsLevel}
use Rattle.rtl_flat.specs.Flats.{Flat, flat}
use Rattle.event_model.specs.declared.setting.Setting.{Setting}
use Rattle.event_model.specs.Policies.{IsDone, IsTooDear, budget}
use Rattle.event_model.specs.Queue.{IsAtRest, State, offer}
use Rattle.event_model.specs.Writes.{Values}
use Rattle.event_queue.specs.declared.sim.EventSim.{EventSim}
use Rattle.event_queue.specs.Offers.{set_of}
use Rattle.event_queue.specs.Sims.{IsSame, IsSimOf, Runs, flat_of, is_stuck, left_of, level_of, state_of}
use Rattle.netlist_eval.specs.declared.sim.NetSim.{NetSim}
use Rattle.netlist_eval.specs.Sims.{netlist_of, shown}
use Rattle.demo_trials.specs.Trials.{fill_of, policy_of, step_count}
use Rattle.demo_replay.specs.declared.setup.Setup.{Setup as Kept}
use Rattle.demo_replay.specs.Setups.{HasNetlist, Setup}
use Rattle.demo_replay.specs.Progress.{IsAfterSteps, IsFirstNet, moment_of}
use Rattle.demo_replay.specs.Runs.{Begun, GoOn, IsAfter, IsFirstState, IsStuck, Moment, Reaches, Rests, Stepped, Stops, settings_of}
use Rattle.demo_replay.specs.Tables.{IsNetlistOf, IsOf, plain}
use Rattle.demo_replay.proofs.Running.{few_steps, numbers_after, rests, same_flat, same_level, stops}

-- ---- the beginning

first_activated : (d : Flat) (b : Bool) (n : Values) (s : State) → IsFirstState d b n s → s.activated ≡ []
first_activated d true n s is = ap (λ (one : State). one.activated) is
first_activated d false n s is = ap (λ (one : State). one.activated) is.2

first_delayed : (d : Flat) (b : Bool) (n : Values) (s : State) → IsFirstState d b n s → s.delayed ≡ []
first_delayed d true n s is = ap (λ (one : State). one.delayed) is
first_delayed d false n s is = ap (λ (one : State). one.delayed) is.2

pub begun : (kept : Kept) (trial : ℕ) (first : State) (s : EventSim) (net : NetSim) → IsOf kept.design.now kept → IsFirstNet kept trial net → IsFirstState (flat kept.design.now) (trial == 32) (shown net) first → IsSimOf kept.design.now first s → IsAfterSteps kept trial s net 0 []
begun kept trial first s net is begins first_is made =
    let d = flat kept.design.now in
    let state_is = subst (IsFirstState d (trial == 32) (shown net)) (sym made.state) first_is in
    record {
      is_of = is;
      no_cycle = begins.no_cycle;
      resting = record {
        of_design = made.design;
        levels = made.levels;
        free = made.free;
        activated = first_activated d (trial == 32) (shown net) (state_of s) state_is;
        delayed = first_delayed d (trial == 32) (shown net) (state_of s) state_is;
      };
      netlist = begins.netlist;
      numbers = begins.numbers;
      count = refl;
      after = Begun (state_of s) (shown net) begins.first state_is;
    }

-- ---- counts

-- no more steps are taken than there are
pub within_count : (d : Flat) (setup : Setup) (level : ℕ → Option ℕ) (trial : ℕ) (moments : List Moment) (s : State) (n : Values) → IsAfter d setup level trial moments s n → length moments ≤ step_count trial (length setup.tops)
within_count d setup level trial moments s n (Begun u m first state) = omega arith
within_count d setup level trial moments s n (Stepped before u t m l after more rests goes) =
    let one : Moment = record { simulated = t.value; synthesised = l } in
    let size = length-append before (one ∷ []) in
    omega (arith, more, size)

-- what a test of the count says
pub some_left : (kept : Kept) (trial taken count : ℕ) (s : EventSim) (n : NetSim) (moments : List Moment) → IsAfterSteps kept trial s n taken moments → count ≡ length kept.basis.tops.items → (taken ≡ step_count trial count → ⊥) → taken < step_count trial (length (plain kept).tops)
some_left kept trial taken count s n moments at is other =
    let same : count ≡ length (plain kept).tops = is ∙ sym (length-map kept.basis.tops.items (λ (one : SigId). one.0)) in
    let within = within_count (flat kept.design.now) (plain kept) (level_of s) trial moments (state_of s) (shown n) at.after in
    let size = at.count in
    let other' = subst (λ (k : ℕ). taken ≡ step_count trial k → ⊥) same other in
    omega (arith, within, size, other')

pub few_left : (kept : Kept) (trial taken : ℕ) → taken < step_count trial (length (plain kept).tops) → taken < 16
few_left kept trial taken left =
    let few = few_steps trial (length (plain kept).tops) in
    omega (arith, left, few)

-- ---- a step

module _ (kept : Kept) (trial taken : ℕ) (s : EventSim) (n : NetSim) (moments : List Moment) (at : IsAfterSteps kept trial s n taken moments) where
  pub netlist_there : HasNetlist (flat kept.design.now)
  netlist_there =
      record { formed = at.is_of.formed; alone = at.is_of.alone; no_cycle = at.no_cycle }

  pub reached : Reaches (flat kept.design.now) (plain kept) trial moments (state_of s) (shown n)
  reached =
      record { netlist = netlist_there; level = level_of s; levels = at.resting.levels; after = at.after }

  module _ (settings : List Setting) (left : taken < step_count trial (length (plain kept).tops)) (are : settings ≡ settings_of (flat kept.design.now) (plain kept) trial (taken + 1) (shown n)) where
    set : settings ≡ settings_of (flat kept.design.now) (plain kept) trial (length moments + 1) (shown n)
    set =
        are ∙ ap (λ (k : ℕ). settings_of (flat kept.design.now) (plain kept) trial (k + 1) (shown n)) (sym at.count)

    more : length moments < step_count trial (length (plain kept).tops)
    more = subst (λ (k : ℕ). k < step_count trial (length (plain kept).tops)) (sym at.count) left

    -- it comes to rest
    pub went : (t : EventSim) (m : NetSim) → IsSame s t → Runs (policy_of trial) (level_of s) (flat_of s) (offer (state_of s) (map set_of settings)) (budget (flat_of s)) (state_of t) (left_of t) → IsDone (policy_of trial) (level_of s) (flat_of s) (state_of t) → IsAtRest (flat_of s) (state_of t) → is_stuck t ≡ false → netlist_of m ≡ netlist_of n → GoOn (flat kept.design.now) (trial == 32) trial settings (shown n) (shown m) → IsAfterSteps kept trial t m (taken + 1) (moments ++ moment_of t m ∷ [])
    went t m same runs done rest free net goes =
        let design = kept.design.now in
        let d = flat design in
        let level = same_level s t same in
        let rested = subst (λ (l : List Setting). Rests d (level_of s) trial l (state_of s) (state_of t)) set (rests d trial settings s t at.resting.of_design runs done) in
        let gone = subst (λ (l : List Setting). GoOn (flat design) (trial == 32) trial l (shown n) (shown m)) set goes in
        record {
          is_of = at.is_of;
          no_cycle = at.no_cycle;
          resting = record {
            of_design = same_flat s t same ∙ at.resting.of_design;
            levels = λ p inside. subst (λ (l : ℕ → Option ℕ). IsLevel d.signals d.tasks p (l p)) (sym level) (at.resting.levels p inside);
            free = free;
            activated = rest.no_active.updates;
            delayed = rest.no_delayed;
          };
          netlist = subst (IsNetlistOf design (fill_of trial)) (sym net) at.netlist;
          numbers = numbers_after design (trial == 32) trial settings (shown n) (shown m) at.numbers goes;
          count = length-append moments (moment_of t m ∷ []) ∙ ap (λ (k : ℕ). k + 1) at.count;
          after = subst (λ (l : ℕ → Option ℕ). IsAfter (flat design) (plain kept) l trial (moments ++ moment_of t m ∷ []) (state_of t) (shown m)) (sym level)
              (Stepped moments (state_of s) (state_of t) (shown n) (shown m) at.after more rested gone);
        }

    -- it doesn't settle
    pub stuck : (t : EventSim) → Runs (policy_of trial) (level_of s) (flat_of s) (offer (state_of s) (map set_of settings)) (budget (flat_of s)) (state_of t) (left_of t) → IsTooDear (policy_of trial) (level_of s) (flat_of s) (state_of t) (left_of t) → IsStuck (flat kept.design.now) (plain kept) trial moments
    stuck t runs dear =
        let d = flat kept.design.now in
        record {
          netlist = netlist_there;
          level = level_of s;
          levels = at.resting.levels;
          state = state_of s;
          numbers = shown n;
          after = at.after;
          more = more;
          stops = subst (λ (l : List Setting). Stops d (level_of s) trial l (state_of s)) set (stops d trial settings s t at.resting.of_design runs dear);
        }
