-- No trial of a design without findings of needed rules shows a difference, but for the one that begins at power-up.
use Rattle.std.proofs.Common.{◌≡◌, ◌∙◌, ◌==◌, ◌<◌, ◌+◌, ◌&&◌, ◌||◌, ℕ, zero, suc, Bool, true, false, not, if◌then◌else◌, List, [], ◌∷◌, ◌++◌, length, Option, None, Some, refl, sym, ap, subst}
use Rattle.std.proofs.Math.Logic.{∥∥₁_elim, ∥∥₁_map}
use Rattle.std.proofs.Props.{props}
use Rattle.std.proofs.lemmas.Option.{none-some}
use Rattle.rtl_bits.specs.declared.Bit.{Bit}
use Rattle.rtl_flat.specs.declared.design.Design.{Design}
use Rattle.rtl_flat.specs.declared.expr.SigId.{SigId}
use Rattle.rtl_rule.specs.Parts.{first_below, number, some_below}
use Rattle.rtl_flat.specs.Flats.{flat, Flat}
use Rattle.event_model.specs.declared.setting.Setting.{Setting}
use Rattle.event_model.specs.Policies.{PolicyRun}
use Rattle.event_model.specs.Queue.{State, offer}
use Rattle.event_model.specs.Writes.{Values}
use Rattle.net_model.specs.declared.fill.Fill.{Fill}
use Rattle.net_model.specs.Cycle as cycle
use Rattle.net_model.specs.Cycle.{Chain}
use Rattle.net_model.specs.Lawful.{IsLawfulStep}
use Rattle.net_model.specs.Solution.{IsLasting}
use Rattle.demo_replay.specs.net_list.Chosen.{chains_of}
use Rattle.demo_replay.specs.netlist_eval.Steps.{step_view}
use Rattle.check_clean.specs.sign_cycles.Agree.{after_offer}
use Rattle.check_clean.specs.sign_cycles.Formed.{IsCleanClocked}
use Rattle.check_clean.specs.check_laws.Designs.{AreTemporariesDecided}
use Rattle.demo_told.specs.Same.{are_same}
use Rattle.demo_trials.specs.Trials.{fill_of, policy_of}
use Rattle.demo_replay.specs.Firsts.{Place, Shows, differs, first_place, place_or}
use Rattle.demo_replay.specs.Runs.{AreFirst, Begun, Cycles, Ended, GoOn, IsAfter, IsCourse, IsFirstState, Moment, Rests, Stepped, Stopped, settings_of}
use Rattle.demo_replay.specs.Setups.{HasNetlist, IsSetup, Setup}
use Rattle.demo_clean.proofs.Begins.{IsShowing, begins, taken_wide}
use Rattle.demo_clean.proofs.Same.{shows_same}
use Rattle.demo_clean.proofs.Settings.{offers, turns_lawfully}
use Rattle.demo_clean.proofs.Steps.{goes_on, next}

-- ---- moments without a difference

abbrev IsAlike : Flat → Moment → Type 0
IsAlike d m = (i : ℕ) → IsLasting d i → are_same (m.simulated i) (m.synthesised i) ≡ true

abbrev AllAlike : Flat → List Moment → Type 0
AllAlike d [] = Unit {0}
AllAlike d (m ∷ moments) = IsAlike d m × AllAlike d moments

push : (d : Flat) (moments : List Moment) (m : Moment) → AllAlike d moments → IsAlike d m → AllAlike d (moments ++ m ∷ [])
push d [] m all one = (one, tt)
push d (first ∷ moments) m all one = (all.0, push d moments m all.1 one)

some_none : (count : ℕ) (test : ℕ → Bool) → ((s : ℕ) → test s ≡ false) → some_below count test ≡ false
some_none zero test none = refl
some_none (suc n) test none =
    ap (λ (b : Bool). b || test n) (some_none n test none) ∙ none n

none_below : (count : ℕ) (test : ℕ → Bool) → ((s : ℕ) → test s ≡ false) → first_below count test ≡ None
none_below zero test none = refl
none_below (suc n) test none =
    ap (λ (b : Bool). if b then first_below n test else if test n then number n else None) (some_none n test none)
    ∙ ap (λ (b : Bool). if b then number n else None) (none n)

module _ (d : Flat) (compared : ℕ → Bool) (lasting : (s : ℕ) → compared s ≡ true → IsLasting d s) where
  not_different : (m : Moment) → IsAlike d m → (s : ℕ) → (compared s && differs m s) ≡ false
  not_different m alike s = by (compared s) refl
    where
      by : (b : Bool) → compared s ≡ b → (b && differs m s) ≡ false
      by true is = ap not (alike s (lasting s is))
      by false isnt = refl

  nowhere : (count step : ℕ) (moments : List Moment) → AllAlike d moments → first_place count compared step moments ≡ None
  nowhere count step [] all = refl
  nowhere count step (m ∷ moments) all =
      ap (λ (o : Option SigId). place_or step m o (first_place count compared (suc step) moments))
      (none_below count (λ s. compared s && differs m s) (not_different m all.0))
      ∙ nowhere count (suc step) moments all.1

-- ---- a trial

first_state : (d : Flat) (b : Bool) (n : Values) (s : State) → b ≡ false → IsFirstState d b n s → IsFirstState d false n s
first_state d true n s e is = absurd (cc)
first_state d false n s e is = is

go_on : (design : Design) (b : Bool) (trial : ℕ) (settings : List Setting) (n m : Values) → b ≡ false → GoOn (flat design) b trial settings n m → Cycles (flat design) (chains_of (flat design)) (fill_of trial) settings n m
go_on design true trial settings n m e is = absurd (cc)
go_on design false trial settings n m e is = is

module _ (design : Design) (level : ℕ → ℕ) (clean : IsCleanClocked (flat design) (chains_of (flat design)) level) (decided : AreTemporariesDecided (flat design)) (setup : Setup) (is_setup : IsSetup (flat design) setup) (trial : ℕ) (early : trial < 32) (late : (trial == 32) ≡ false) where
  abbrev d : Flat
  d = flat design

  abbrev chains : ℕ → Chain
  chains = chains_of (flat design)

  abbrev f : Fill
  f = fill_of trial

  record IsKept (moments : List Moment) (s : State) (n : Values) : Type 0 where
    showing : IsShowing d chains f s n
    alike : AllAlike d moments

  begun : (s : State) (n : Values) → AreFirst (flat design) setup trial n → IsFirstState d false n s → IsKept [] s n
  begun s n first (v, taken, same) =
      let numbers = first.starts.solution.numbers in
      let wide = taken_wide d decided n v numbers taken.lasting taken.temporaries in
      record {
        showing = subst (λ (u : State). IsShowing d chains f u n) (sym same)
            (begins d chains level clean f first.start n v first.is_start.numbers first.starts.solution taken.lasting wide first.starts.registers);
        alike = tt;
      }

  stepped :
      (moments : List Moment) (s t : State) (n m : Values) (order : ℕ → Option ℕ) (settings : List Setting) →
      IsKept moments s n → Rests d order trial settings s t → (cycles : Cycles d chains f settings n m) → IsLawfulStep d n (step_view cycles.step) →
      IsKept (moments ++ record { simulated = t.value; synthesised = m } ∷ []) t m
  stepped moments s t n m order settings kept rests cycles lawful =
      let same = offers d settings cycles.step cycles.is_step in
      let run : PolicyRun (policy_of trial) order d (after_offer s (cycle.settings (step_view cycles.step))) rests.spent t = subst (λ (all : List (ℕ × List Bit)). PolicyRun (policy_of trial) order d (offer s all) rests.spent t) (sym same) rests.run in
      let there = next d (policy_of trial) order s t (cycle.settings (step_view cycles.step)) rests.spent kept.showing.settled.rest run rests.done in
      let showing = goes_on d chains level clean f s t n m kept.showing (step_view cycles.step) lawful there cycles.cycle in
      record {
        showing = showing;
        alike = push d moments (record { simulated = t.value; synthesised = m }) kept.alike (λ i lasts. shows_same d chains f t m showing i lasts);
      }

  after : (order : ℕ → Option ℕ) (moments : List Moment) (s : State) (n : Values) → IsAfter (flat design) setup order trial moments s n → ∥ IsKept moments s n ∥₁
  after order moments s n (Begun s' n' first state) =
      ∣ begun s n first (first_state d (trial == 32) n s late state) ∣₁
  after order moments t m (Stepped before s t' n m' earlier more rests go) =
      let step = length before + 1 in
      let settings = settings_of (flat design) setup trial step n in
      let cycles = go_on design (trial == 32) trial settings n m late go in
      ∥∥₁_elim (after order before s n earlier) (hlevel props) (λ kept.
      ∥∥₁_map (turns_lawfully design setup n kept.showing.are is_setup trial step early cycles.step cycles.is_step) (λ lawful.
      stepped before s t n m order settings kept rests cycles lawful))

  course : (moments : List Moment) → IsCourse (flat design) setup trial moments → ∥ AllAlike d moments ∥₁
  course moments (Ended s n reaches all) =
      ∥∥₁_map (after reaches.level moments s n reaches.after) (λ kept. kept.alike)
  course moments (Stopped stuck) =
      ∥∥₁_map (after stuck.level moments stuck.state stuck.numbers stuck.after) (λ kept. kept.alike)

  pub shows_nothing :
      (compared : ℕ → Bool) → ((s : ℕ) → compared s ≡ true → IsLasting d s) → (place : Place) →
      Shows (flat design) setup compared trial (Some place) → ⊥
  shows_nothing compared lasting place shows =
      ∥∥₁_elim (course shows.moments shows.course) (hlevel props) (λ all.
      none-some place (sym (nowhere d compared lasting (length (flat design).signals) 1 shows.moments all) ∙ shows.first))

-- a trial that shows something is one of a design that has a netlist
pub course_netlist : (design : Design) (setup : Setup) (trial : ℕ) (moments : List Moment) → IsCourse (flat design) setup trial moments → HasNetlist (flat design)
course_netlist design setup trial moments (Ended s n reaches all) = reaches.netlist
course_netlist design setup trial moments (Stopped stuck) = stuck.netlist
