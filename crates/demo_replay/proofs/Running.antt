-- A trial goes on.
use Rattle.std.proofs.Common.{◌≡◌, ◌==◌, ◌≤◌, ℕ, Bool, true, false, cond, List, map, None, sym, ap, subst, arith}
use Rattle.std.specs.List.{slice_index_or}
use Rattle.std.proofs.lemmas.Bool.{false≢true}
use Rattle.rtl_bits.specs.declared.Bit.{Bit}
use Rattle.rtl_flat.specs.declared.design.Design.{Design}
use Rattle.rtl_flat.specs.Flats.{flat, Flat}
use Rattle.event_model.specs.declared.setting.Setting.{Setting}
use Rattle.event_model.specs.Policies.{IsDone, IsTooDear, budget}
use Rattle.event_model.specs.Queue.{offer}
use Rattle.event_model.specs.Writes.{Values}
use Rattle.event_queue.specs.event_write.QueueState.{design_of as design_in}
use Rattle.event_queue.specs.declared.sim.EventSim.{EventSim}
use Rattle.event_queue.specs.Offers.{set_of}
use Rattle.event_queue.specs.Sims.{IsSame, Runs, flat_of, left_of, level_of, state_of}
use Rattle.netlist_eval.specs.net_list.declared.netlist.Netlist.{Netlist}
use Rattle.netlist_eval.specs.net_list.Chosen.{chains_of}
use Rattle.net_model.specs.declared.fill.Fill.{Fill}
use Rattle.net_model.specs.Cycle.{IsCycle}
use Rattle.net_model.specs.Numbers.{AreNumbers}
use Rattle.netlist_eval.specs.declared.sim.NetSim.{NetSim}
use Rattle.netlist_eval.specs.declared.step.Step.{Step}
use Rattle.netlist_eval.specs.Netlists.{chains_in, flat_in}
use Rattle.netlist_eval.specs.Sims.{netlist_of, shown}
use Rattle.netlist_eval.specs.Steps.{HasNoCycle, IsBegun, IsStepOf, step_view}
use Rattle.demo_trials.specs.Trials.{fill_of, policy_of, step_count}
use Rattle.demo_replay.specs.declared.setup.Setup.{Setup as Kept}
use Rattle.demo_replay.specs.Setups.{first_value}
use Rattle.demo_replay.specs.Progress.{IsFirstNet}
use Rattle.demo_replay.specs.Runs.{Cycles, GoOn, Rests, Stops}
use Rattle.demo_replay.specs.Tables.{IsNetlistOf, plain}

-- ---- the simulator

pub same_level : (s t : EventSim) → IsSame s t → level_of t ≡ level_of s
same_level s t same = ap (λ levels. λ (p : ℕ). slice_index_or levels p None) same.levels

pub same_flat : (s t : EventSim) → IsSame s t → flat_of t ≡ flat_of s
same_flat s t same = ap design_in same.fanout

-- a step that comes to rest
pub rests : (d : Flat) (trial : ℕ) (settings : List Setting) (s t : EventSim) → flat_of s ≡ d → Runs (policy_of trial) (level_of s) (flat_of s) (offer (state_of s) (map set_of settings)) (budget (flat_of s)) (state_of t) (left_of t) → IsDone (policy_of trial) (level_of s) (flat_of s) (state_of t) → Rests d (level_of s) trial settings (state_of s) (state_of t)
rests d trial settings s t is runs done =
    let runs' = subst (λ (one : Flat). Runs (policy_of trial) (level_of s) one (offer (state_of s) (map set_of settings)) (budget one) (state_of t) (left_of t)) is runs in
    record {
      spent = runs'.spent;
      left = left_of t;
      all = runs'.all;
      run = runs'.run;
      done = subst (λ (one : Flat). IsDone (policy_of trial) (level_of s) one (state_of t)) is done;
    }

-- one that doesn't settle
pub stops : (d : Flat) (trial : ℕ) (settings : List Setting) (s t : EventSim) → flat_of s ≡ d → Runs (policy_of trial) (level_of s) (flat_of s) (offer (state_of s) (map set_of settings)) (budget (flat_of s)) (state_of t) (left_of t) → IsTooDear (policy_of trial) (level_of s) (flat_of s) (state_of t) (left_of t) → Stops d (level_of s) trial settings (state_of s)
stops d trial settings s t is runs dear =
    let runs' = subst (λ (one : Flat). Runs (policy_of trial) (level_of s) one (offer (state_of s) (map set_of settings)) (budget one) (state_of t) (left_of t)) is runs in
    record {
      state = state_of t;
      spent = runs'.spent;
      left = left_of t;
      all = runs'.all;
      run = runs'.run;
      dear = subst (λ (one : Flat). IsTooDear (policy_of trial) (level_of s) one (state_of t) (left_of t)) is dear;
    }

-- ---- numbers

-- the numbers after a step are known ones of their widths
pub numbers_after : (design : Design) (b : Bool) (trial : ℕ) (settings : List Setting) (old new : Values) → AreNumbers (flat design) old → GoOn (flat design) b trial settings old new → AreNumbers (flat design) new
numbers_after design true trial settings old new numbers goes =
    subst (AreNumbers (flat design)) (sym goes) numbers
numbers_after design false trial settings old new numbers goes = goes.cycle.rest.numbers

-- a step of the netlist, over its design
pub cycles : (design : Design) (trial : ℕ) (netlist : Netlist) (settings : List Setting) (old new : Values) (step : Step) → IsNetlistOf design (fill_of trial) netlist → IsStepOf (flat_in netlist) settings step → IsCycle (flat_in netlist) (chains_in netlist) netlist.fill old (step_view step) new → Cycles (flat design) (chains_of (flat design)) (fill_of trial) settings old new
cycles design trial netlist settings old new step is is_step cycle =
    record {
      step = step;
      is_step = subst (λ (one : Design). IsStepOf (flat one) settings step) is.design_is is_step;
      cycle = subst (λ (f : Fill). IsCycle (flat design) (chains_of (flat design)) f old (step_view step) new) is.fill_is
          (subst (λ (one : Design). IsCycle (flat one) (chains_of (flat one)) netlist.fill old (step_view step) new) is.design_is cycle);
    }

pub turned : (design : Design) (b : Bool) (trial : ℕ) (settings : List Setting) (old new : Values) → b ≡ false → Cycles (flat design) (chains_of (flat design)) (fill_of trial) settings old new → GoOn (flat design) b trial settings old new
turned design true trial settings old new is cycles = absurd (false≢true (sym is))
turned design false trial settings old new is cycles = cycles

pub unturned : (design : Design) (b : Bool) (trial : ℕ) (settings : List Setting) (old new : Values) → b ≡ true → new ≡ old → GoOn (flat design) b trial settings old new
unturned design true trial settings old new is same = same
unturned design false trial settings old new is same = absurd (false≢true is)

-- the netlist where a trial begins
pub first_net : (kept : Kept) (trial : ℕ) (net : NetSim) (netlist : Netlist) (registers inputs : List (List Bit)) → IsNetlistOf kept.design.now (fill_of trial) netlist → netlist_of net ≡ netlist → IsBegun (flat_in netlist) (chains_in netlist) netlist.fill registers inputs (shown net) → HasNoCycle (flat_in netlist) → registers ≡ map (first_value (flat kept.design.now) trial) (plain kept).stored → inputs ≡ map (first_value (flat kept.design.now) trial) (plain kept).tops → IsFirstNet kept trial net
first_net kept trial net netlist registers inputs is same begun no_cycle registers_are inputs_are =
    let design = kept.design.now in
    let over = subst (λ (f : Fill). IsBegun (flat design) (chains_of (flat design)) f registers inputs (shown net)) is.fill_is
    (subst (λ (one : Design). IsBegun (flat one) (chains_of (flat one)) netlist.fill registers inputs (shown net)) is.design_is begun) in
    record {
      netlist = subst (IsNetlistOf design (fill_of trial)) (sym same) is;
      no_cycle = subst (λ (one : Design). HasNoCycle (flat one)) is.design_is no_cycle;
      numbers = over.starts.solution.numbers;
      first = subst (λ (all : List (List Bit)). IsBegun (flat design) (chains_of (flat design)) (fill_of trial) all (map (first_value (flat design) trial) (plain kept).tops) (shown net)) registers_are
          (subst (λ (all : List (List Bit)). IsBegun (flat design) (chains_of (flat design)) (fill_of trial) registers all (shown net)) inputs_are over);
    }

-- ---- counts

pub few_steps : (trial inputs : ℕ) → step_count trial inputs ≤ 16
few_steps trial inputs = one (trial == 32) (inputs == 0)
  where
    one : (b c : Bool) → cond b 1 (cond c 0 16) ≤ 16
    one true c = omega arith
    one false true = omega arith
    one false false = omega arith
