-- A trial shows one thing after each of its steps.
use Rattle.std.proofs.Common.{◌≡◌, ◌∙◌, ◌⊎◌, ◌<◌, ◌==◌, ◌+◌, ℕ, Bool, true, false, List, [], ◌∷◌, ◌++◌, map, length, Option, refl, sym, ap, subst, inl, inr, arith}
use Rattle.std.proofs.Math.Path.{fun_ext}
use Rattle.std.proofs.Math.Logic.{∥∥₁_elim}
use Rattle.std.proofs.Props.{props}
use Rattle.std.proofs.lemmas.Bool.{cases_order}
use Rattle.std.proofs.lemmas.List.{length-append}
use Rattle.rtl_bits.specs.declared.Bit.{Bit}
use Rattle.rtl_flat.specs.Levels.{IsLevel}
use Rattle.event_model.specs.declared.setting.Setting.{Setting}
use Rattle.event_model.specs.Policies.{PolicyRun}
use Rattle.event_model.specs.Queue.{State, offer, settled_at}
use Rattle.rtl_flat.specs.Flats.{Flat}
use Rattle.event_model.specs.Writes.{Values}
use Rattle.demo_clean.specs.event_laws.Once.{AgreeBelow}
use Rattle.demo_clean.proofs.event_laws_proofs.Once.{end_or_stop, one_end, one_level}
use Rattle.demo_clean.specs.event_queue.Offers.{set_of}
use Rattle.net_model.specs.Cycle as cycle
use Rattle.net_model.specs.Solution.{IsLasting}
use Rattle.demo_clean.specs.net_list.Chosen.{chains_of}
use Rattle.demo_clean.specs.net_rest.Rest.{AreAlike}
use Rattle.demo_clean.specs.net_settle.Settle.{IsSolved, setting_view}
use Rattle.demo_clean.specs.netlist_eval.declared.step.Step.{Step}
use Rattle.demo_clean.specs.netlist_eval.declared.step.Step.TheVariants.{Data, Turn}
use Rattle.demo_clean.specs.netlist_eval.Steps.{IsStepOf, step_view}
use Rattle.demo_clean.specs.rtl_scan.Arrows.{Among}
use Rattle.demo_trials.specs.Steps.{Input, step_of}
use Rattle.demo_trials.specs.Trials.{fill_of, policy_of}
use Rattle.demo_clean.specs.demo_replay.Setups.{HasNetlist, IsSetup, Setup, first_value}
use Rattle.demo_clean.specs.demo_replay.Runs.{AreTaken, Begun, GoOn, IsAfter, IsFirstState, IsStuck, Moment, Reaches, Rests, Stepped, Stops, input_of, settings_of}
use Rattle.demo_laws.proofs.Cycles.{alike_list, begun_once, cycle_once, input_lasts}
use Rattle.demo_laws.proofs.Stable.{list_stable}
use Rattle.demo_laws.specs.Laws.{AreProcesses}

-- ---- steps of a netlist

head_same : {A : Type 0} (x y : A) (xs ys : List A) → x ∷ xs ≡ y ∷ ys → x ≡ y
head_same x y xs ys e = cc

-- settings are one step
pub step_once : (d : Flat) (settings : List Setting) (one other : Step) → IsStepOf d settings one → IsStepOf d settings other → step_view one ≡ step_view other
step_once d settings (Data all) (Data all') is is' =
    ap (λ (xs : List Setting). cycle.Data (map setting_view xs)) (is.0 ∙ sym is'.0)
step_once d settings (Data all) (Turn one) is is' =
    absurd (∥∥₁_elim is'.1 (hlevel props) (λ control. is.1 one is'.0 control))
step_once d settings (Turn one) (Data all) is is' =
    absurd (∥∥₁_elim is.1 (hlevel props) (λ control. is'.1 one is.0 control))
step_once d settings (Turn one) (Turn other) is is' =
    ap (λ (x : Setting). cycle.Turn (setting_view x)) (head_same one other [] [] (sym is.0 ∙ is'.0))

-- ---- moments

-- moments that show the same, but for temporaries
pub record IsAlike (d : Flat) (m m' : Moment) : Type 0 where
  pub simulated : m.simulated ≡ m'.simulated
  pub synthesised : (i : ℕ) → IsLasting d i → m.synthesised i ≡ m'.synthesised i

abbrev pub AllAlike : Flat → List Moment → List Moment → Type 0
AllAlike d [] [] = Unit {0}
AllAlike d [] (y ∷ ys) = ⊥
AllAlike d (x ∷ xs) [] = ⊥
AllAlike d (x ∷ xs) (y ∷ ys) = IsAlike d x y × AllAlike d xs ys

push_alike : (d : Flat) (xs ys : List Moment) (x y : Moment) → AllAlike d xs ys → IsAlike d x y → AllAlike d (xs ++ x ∷ []) (ys ++ y ∷ [])
push_alike d [] [] x y all one = (one, tt)
push_alike d [] (z ∷ ys) x y all one = absurd all
push_alike d (z ∷ xs) [] x y all one = absurd all
push_alike d (z ∷ xs) (w ∷ ys) x y all one = (all.0, push_alike d xs ys x y all.1 one)

pushed : (xs : List Moment) (x : Moment) → length (xs ++ x ∷ []) ≡ length xs + 1
pushed xs x = length-append xs (x ∷ [])

-- ---- a trial of a design

module _ (design : Flat) (lawful : AreProcesses design) (setup : Setup) (is_setup : IsSetup design setup) (netlist : HasNetlist design) (trial : ℕ) where
  abbrev d : Flat
  d = design

  -- what was reached after some steps, by levels of the design
  abbrev After : (ℕ → Option ℕ) → List Moment → State → Values → Type 0
  After level moments s n = IsAfter design setup level trial moments s n

  go_solved : (b : Bool) (settings : List Setting) (n m : Values) → IsSolved d (fill_of trial) n → GoOn design b trial settings n m → IsSolved d (fill_of trial) m
  go_solved true settings n m solved same = subst (λ (u : Values). IsSolved d (fill_of trial) u) (sym same) solved
  go_solved false settings n m solved cycles = (n, cycles.cycle.rest)

  solved : (level : ℕ → Option ℕ) (moments : List Moment) (s : State) (n : Values) → After level moments s n → IsSolved d (fill_of trial) n
  solved level moments s n (Begun s' n' first state) = (first.start, first.starts.solution)
  solved level moments t m (Stepped before s t' n m' after more rests go) =
      go_solved (trial == 32) (settings_of design setup trial (length before + 1) n) n m (solved level before s n after) go

  -- ---- where it begins

  taken_once : (n m v v' : Values) → ((i : ℕ) → IsLasting d i → n i ≡ m i) → AreTaken d n v → AreTaken d m v' → v ≡ v'
  taken_once n m v v' same one other =
      fun_ext (λ i. list_stable (v i) (v' i) (λ differ.
      let lasts : IsLasting d i = λ temporary. differ (one.temporaries i temporary ∙ sym (other.temporaries i temporary)) in
      differ (one.lasting i lasts ∙ same i lasts ∙ sym (other.lasting i lasts))))

  state_once : (b : Bool) (n m : Values) (s t : State) → ((i : ℕ) → IsLasting d i → n i ≡ m i) → IsFirstState d b n s → IsFirstState d b m t → s ≡ t
  state_once true n m s t same one other = one ∙ sym other
  state_once false n m s t same one other =
      one.2 ∙ ap (settled_at d) (taken_once n m one.0 other.0 same one.1 other.1) ∙ sym other.2

  -- ---- a step

  inputs_same : (n m : Values) (xs : List ℕ) → ((i : ℕ) → Among xs i → n i ≡ m i) → map (input_of design setup n) xs ≡ map (input_of design setup m) xs
  inputs_same n m [] same = refl
  inputs_same n m (x ∷ xs) same =
      ap (λ (bits : List Bit). record (input_of design setup n x) { value = bits } ∷ map (input_of design setup n) xs) (same x (inl refl))
      ∙ ap (λ (all : List Input). input_of design setup m x ∷ all) (inputs_same n m xs (λ i among. same i (inr among)))

  settings_same : (step : ℕ) (n m : Values) → ((i : ℕ) → IsLasting d i → n i ≡ m i) → settings_of design setup trial step n ≡ settings_of design setup trial step m
  settings_same step n m same =
      ap (step_of trial step)
      (inputs_same n m setup.tops (λ i among. same i (input_lasts d i ((is_setup.are_tops.each i).0 among))))

  go_once :
      (b : Bool) (settings : List Setting) (n n' m m' : Values) → IsSolved d (fill_of trial) n → IsSolved d (fill_of trial) n' → AreAlike d n n' →
      GoOn design b trial settings n m → GoOn design b trial settings n' m' → AreAlike d m m'
  go_once true settings n n' m m' solved' solved'' alike one other =
      subst (λ (u : Values). AreAlike d u m') (sym one) (subst (λ (u : Values). AreAlike d n u) (sym other) alike)
  go_once false settings n n' m m' solved' solved'' alike one other =
      let same = step_once d settings other.step one.step other.is_step one.is_step in
      cycle_once design lawful netlist.formed netlist.no_cycle (fill_of trial) n n' solved' solved'' alike (step_view one.step) m m' one.cycle
      (subst (λ step. cycle.IsCycle d (chains_of design) (fill_of trial) n' step m') same other.cycle)

  -- ---- after some steps

  pub record IsSame (moments moments' : List Moment) (s t : State) (n m : Values) : Type 0 where
    pub shown : AllAlike d moments moments'
    pub states : s ≡ t
    pub alike : AreAlike d n m
    pub numbers : (i : ℕ) → IsLasting d i → n i ≡ m i

  module _ (level other_level : ℕ → Option ℕ) (agree : AgreeBelow d level other_level) where
    lists_same : (moments moments' : List Moment) (s t : State) (n m : Values) → After level moments s n → After other_level moments' t m → AreAlike d n m → (i : ℕ) → IsLasting d i → n i ≡ m i
    lists_same moments moments' s t n m after after' alike =
        alike_list d n m (solved level moments s n after).1.numbers (solved other_level moments' t m after').1.numbers alike

    -- the step from one state
    rest_once :
        (step : ℕ) (n n' : Values) (s s' t t' : State) → ((i : ℕ) → IsLasting d i → n i ≡ n' i) → s ≡ s' →
        Rests d level trial (settings_of design setup trial step n) s t → Rests d other_level trial (settings_of design setup trial step n') s' t' → t ≡ t'
    rest_once step n n' s s' t t' same states one other =
        let from : offer s (map set_of (settings_of design setup trial step n)) ≡ offer s' (map set_of (settings_of design setup trial step n'))
        = ap (λ (u : State). offer u (map set_of (settings_of design setup trial step n))) states
        ∙ ap (λ (all : List Setting). offer s' (map set_of all)) (settings_same step n n' same) in
        one_end d (policy_of trial) level other_level agree (offer s (map set_of (settings_of design setup trial step n))) t t' one.spent other.spent one.run one.done
        (subst (λ (u : State). PolicyRun (policy_of trial) other_level d u other.spent t') (sym from) other.run) other.done

    rests_or_stops :
        (step : ℕ) (n n' : Values) (s s' t : State) → ((i : ℕ) → IsLasting d i → n i ≡ n' i) → s ≡ s' →
        Rests d level trial (settings_of design setup trial step n) s t → Stops d other_level trial (settings_of design setup trial step n') s' → ⊥
    rests_or_stops step n n' s s' t same states one other =
        let from : offer s (map set_of (settings_of design setup trial step n)) ≡ offer s' (map set_of (settings_of design setup trial step n'))
        = ap (λ (u : State). offer u (map set_of (settings_of design setup trial step n))) states
        ∙ ap (λ (all : List Setting). offer s' (map set_of all)) (settings_same step n n' same) in
        end_or_stop d (policy_of trial) level other_level agree (offer s (map set_of (settings_of design setup trial step n))) t other.state one.spent other.spent one.left other.left one.all one.run one.done other.all
        (subst (λ (u : State). PolicyRun (policy_of trial) other_level d u other.spent other.state) (sym from) other.run) other.dear

    pub after_once :
        (moments moments' : List Moment) (s t : State) (n m : Values) → After level moments s n → After other_level moments' t m →
        length moments ≡ length moments' → IsSame moments moments' s t n m
    after_once moments moments' s t n m (Begun s' n' first state) (Begun t' m' first' state') e =
        let alike = begun_once design lawful netlist.formed netlist.no_cycle (fill_of trial) (map (first_value design trial) setup.stored) (map (first_value design trial) setup.tops) n m first first' in
        let same = alike_list d n m first.starts.solution.numbers first'.starts.solution.numbers alike in
        record { shown = tt; states = state_once (trial == 32) n m s t same state state'; alike = alike; numbers = same }
    after_once moments moments' s t n m (Begun s' n' first state) (Stepped before' u' t' v' m' after' more' rests' go') e =
        let long = pushed before' (record { simulated = t.value; synthesised = m }) in
        absurd (omega (arith, e, long))
    after_once moments moments' s t n m (Stepped before u s' v n' after more rests go) (Begun t' m' first' state') e =
        let long = pushed before (record { simulated = s.value; synthesised = n }) in
        absurd (omega (arith, e, long))
    after_once moments moments' s t n m (Stepped before u s' v n' after more rests go) (Stepped before' u' t' v' m' after' more' rests' go') e =
        let long = pushed before (record { simulated = s.value; synthesised = n }) in
        let long' = pushed before' (record { simulated = t.value; synthesised = m }) in
        let many : length before ≡ length before' = omega (arith, e, long, long') in
        let here = after_once before before' u u' v v' after after' many in
        let moved_rests = subst (λ k. Rests d other_level trial (settings_of design setup trial (k + 1) v') u' t) (sym many) rests' in
        let moved_go = subst (λ k. GoOn design (trial == 32) trial (settings_of design setup trial (k + 1) v') v' m) (sym many) go' in
        let states : s ≡ t = rest_once (length before + 1) v v' u u' s t here.numbers here.states rests moved_rests in
        let settings = settings_same (length before + 1) v v' here.numbers in
        let alike : AreAlike d n m
        = go_once (trial == 32) (settings_of design setup trial (length before + 1) v') v v' n m (solved level before u v after) (solved other_level before' u' v' after') here.alike
        (subst (λ all. GoOn design (trial == 32) trial all v n) settings go) moved_go in
        let same = lists_same moments moments' s t n m (Stepped before u s v n after more rests go) (Stepped before' u' t v' m after' more' rests' go') alike in
        record {
          shown = push_alike d before before' (record { simulated = s.value; synthesised = n }) (record { simulated = t.value; synthesised = m }) here.shown
              (record { simulated = ap (λ (x : State). x.value) states; synthesised = same });
          states = states;
          alike = alike;
          numbers = same;
        }

    -- ---- a step that doesn't settle

    -- a step that was taken
    record IsTaken (k : ℕ) : Type 0 where
      before : List Moment
      count : length before ≡ k
      state : State
      numbers : Values
      after : After level before state numbers
      next : State
      rests : Rests d level trial (settings_of design setup trial (length before + 1) numbers) state next

    taken : (k : ℕ) (moments : List Moment) (s : State) (n : Values) → After level moments s n → k < length moments → IsTaken k
    taken k moments s n (Begun s' n' first state) below = absurd (omega (arith, below))
    taken k moments s n (Stepped before u s' v n' after more rests go) below =
        by (cases_order k (length before)) (taken k before u v after)
      where
        by : (k ≡ length before) ⊎ ((k < length before) ⊎ (length before < k)) → (k < length before → IsTaken k) → IsTaken k
        by (inl same) earlier = record { before = before; count = sym same; state = u; numbers = v; after = after; next = s; rests = rests }
        by (inr (inl less)) earlier = earlier less
        by (inr (inr past)) earlier =
            let long = pushed before (record { simulated = s.value; synthesised = n }) in
            absurd (omega (arith, below, long, past))

    pub not_taken :
        (moments moments' : List Moment) (s t : State) (n m : Values) → After level moments s n → After other_level moments' t m →
        length moments' < length moments → Stops d other_level trial (settings_of design setup trial (length moments' + 1) m) t → ⊥
    not_taken moments moments' s t n m after after' less stops =
        let one = taken (length moments') moments s n after less in
        let same = after_once one.before moments' one.state t one.numbers m one.after after' one.count in
        rests_or_stops (length one.before + 1) one.numbers m one.state t one.next same.numbers same.states one.rests
        (subst (λ k. Stops d other_level trial (settings_of design setup trial (k + 1) m) t) (sym one.count) stops)

  -- ---- by any levels

  levels_agree :
      (f g : ℕ → Option ℕ) → ((p : ℕ) → p < length d.tasks → IsLevel d.signals d.tasks p (f p)) → ((p : ℕ) → p < length d.tasks → IsLevel d.signals d.tasks p (g p)) → AgreeBelow d f g
  levels_agree f g one other p below = one_level d p (f p) (g p) (one p below) (other p below)

  pub reach_once :
      (moments moments' : List Moment) (s t : State) (n m : Values) → Reaches design setup trial moments s n → Reaches design setup trial moments' t m →
      length moments ≡ length moments' → IsSame moments moments' s t n m
  reach_once moments moments' s t n m one other e =
      after_once one.level other.level (levels_agree one.level other.level one.levels other.levels) moments moments' s t n m one.after other.after e

  -- no trial goes on where it is stuck
  pub not_behind :
      (moments moments' : List Moment) (s : State) (n : Values) → Reaches design setup trial moments s n → IsStuck design setup trial moments' →
      length moments' < length moments → ⊥
  not_behind moments moments' s n one stuck less =
      not_taken one.level stuck.level (levels_agree one.level stuck.level one.levels stuck.levels) moments moments' s stuck.state n stuck.numbers one.after stuck.after less stuck.stops

  pub stuck_reaches : (moments : List Moment) (stuck : IsStuck design setup trial moments) → Reaches design setup trial moments stuck.state stuck.numbers
  stuck_reaches moments stuck = record { netlist = stuck.netlist; level = stuck.level; levels = stuck.levels; after = stuck.after }
