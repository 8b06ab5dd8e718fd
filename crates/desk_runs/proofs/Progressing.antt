-- One step more.
use Rattle.std.specs.Prelude.{ℕ, zero, suc, ◌+◌, ◌<◌, ◌≤◌, true, false, List, [], ◌∷◌, ◌++◌, drop, length, map, take, slice_index_or, Option, None, Some, Vec}
use Rattle.std.specs.List.{slice_get}
use Rattle.std.specs.declared.alloc.Global.{Global}
use Rattle.std.proofs.Common.{◌≡◌, ◌∙◌, ap, sym, refl, subst, add-one, append_assoc, append-nil, arith}
use Rattle.std.proofs.lemmas.List.{length-append, length-map, length-take-le, take-append-drop, take_all}
use Rattle.std.proofs.lemmas.Option.{get_or_from_slice_get, slice_get_read, slice_get_within}
use Rattle.rtl_flat.specs.declared.design.Design.{Design}
use Rattle.rtl_flat.specs.Levels.{IsLevel}
use Rattle.event_model.specs.declared.policy.Policy.{Policy}
use Rattle.event_model.specs.declared.setting.Setting.{Setting}
use Rattle.event_model.specs.Policies.{IsDone, IsTooDear, budget}
use Rattle.event_model.specs.Queue.{State, IsAtRest, offer, power_up}
use Rattle.rtl_flat.specs.Flats.{Flat, flat}
use Rattle.event_tables.specs.event_write.QueueState.{design_of}
use Rattle.event_queue.specs.declared.sim.EventSim.{EventSim}
use Rattle.event_queue.specs.Offers.{AreAllowed, set_of}
use Rattle.event_queue.specs.Sims.{IsSame, IsSimOf, Runs, flat_of, is_stuck, left_of, level_of, state_of}
use Rattle.desk_steps.specs.Fitting.{AreFitting}
use Rattle.desk_steps.specs.Steps.{step}
use Rattle.desk_steps.specs.Steps as plain
use Rattle.desk_runs.specs.Lines.{rested_line, unsettled_line}
use Rattle.desk_runs.specs.Runs.{IsRun, Ended, Rested, Stopped, IsSimulated, Shown, behind, offered}
use Rattle.desk_runs.specs.Progress.{IsUnderWay}

-- ---- the steps that were taken

take_next : {A B : Type 0} (f : A → B) (xs : List A) (i : ℕ) (x : A) → i < length xs → x ≡ slice_index_or xs i x → take (suc i) (map f xs) ≡ take i (map f xs) ++ f x ∷ []
take_next f [] i x h is = absurd (omega (arith, h))
take_next f (y ∷ xs) zero x h is = ap (λ z. f z ∷ []) (sym is)
take_next f (y ∷ xs) (suc i) x h is = ap (λ zs. f y ∷ zs) (take_next f xs i x (omega (arith, h)) is)

pub take_more : {A B : Type 0} (f : A → B) (xs : List A) (i : ℕ) (x : A) → i < length xs → x ≡ slice_index_or xs i x → take (i + 1) (map f xs) ≡ take i (map f xs) ++ f x ∷ []
take_more f xs i x h is = ap (λ n. take n (map f xs)) (add-one i) ∙ take_next f xs i x h is

pub count_taken : {A B : Type 0} (f : A → B) (xs : List A) (i : ℕ) → i ≤ length xs → length (take i (map f xs)) ≡ i
count_taken f xs i h = length-take-le i (map f xs) (omega (arith, h, length-map xs f))

pub all_taken : {A B : Type 0} (f : A → B) (xs : List A) (i : ℕ) → length xs ≤ i → take i (map f xs) ≡ map f xs
all_taken f xs i h = take_all i (map f xs) (omega (arith, h, length-map xs f))

-- a simulator takes what fits its design
pub allowed : (design : Design) (one : List Setting) (sim : EventSim) → AreFitting design.signals.items one → flat_of sim ≡ flat design → AreAllowed (flat_of sim) one
allowed design one sim fits of_design =
    subst (λ (d : Flat). AreAllowed d one) (sym of_design) fits

-- ---- one run

-- what a step offers, as the code keeps it
offers : (settings : List Setting) → map set_of settings ≡ map (λ setting. (setting.signal, setting.bits)) (map plain.setting settings)
offers [] = refl
offers (first ∷ others) = ap (λ sets. set_of first ∷ sets) (offers others)

offered_is : (s : State) (one : List Setting) → offer s (map set_of one) ≡ offered s (map plain.setting one)
offered_is s one = ap (offer s) (offers one)

-- the levels stay
same_level : (s t : EventSim) → IsSame s t → level_of t ≡ level_of s
same_level s t same = ap (λ levels. λ (p : ℕ). slice_index_or levels p None) same.levels

same_flat : (s t : EventSim) → IsSame s t → flat_of t ≡ flat_of s
same_flat s t same = ap design_of same.fanout

-- a run of a step, over the design
over : (design : Design) (policy : Policy) (s t : EventSim) (one : List Setting) → flat_of s ≡ flat design → Runs policy (level_of s) (flat_of s) (offer (state_of s) (map set_of one)) (budget (flat_of s)) (state_of t) (left_of t) → Runs policy (level_of s) (flat design) (offered (state_of s) (map plain.setting one)) (budget (flat design)) (state_of t) (left_of t)
over design policy s t one is runs =
    subst (λ (from : State). Runs policy (level_of s) (flat design) from (budget (flat design)) (state_of t) (left_of t)) (offered_is (state_of s) one) (subst (λ (d : Flat). Runs policy (level_of s) d (offer (state_of s) (map set_of one)) (budget d) (state_of t) (left_of t)) is runs)

-- ---- where a simulator begins

pub begun : (design : Design) (policy : Policy) (sim : EventSim) → IsSimOf design (power_up (flat design)) sim → IsUnderWay design policy [] sim []
begun design policy sim is =
    record {
      of_design = is.design;
      levels = is.levels;
      free = is.free;
      activated = ap (λ s. s.activated) is.state;
      delayed = ap (λ s. s.delayed) is.state;
      shows = λ left others run. subst (λ (s : State). IsRun design.instances.items policy (level_of sim) (flat design) 1 s left others) is.state run;
    }

-- ---- a step

module _ (design : Design) (policy : Policy) (taken : List (List plain.Setting)) (one : List Setting) (s t : EventSim) (bytes : List ℕ) (under : IsUnderWay design policy taken s bytes) (runs : Runs policy (level_of s) (flat_of s) (offer (state_of s) (map set_of one)) (budget (flat_of s)) (state_of t) (left_of t)) where
  abbrev next : List plain.Setting
  next = map plain.setting one

  abbrev goes : Runs policy (level_of s) (flat design) (offered (state_of s) next) (budget (flat design)) (state_of t) (left_of t)
  goes = over design policy s t one under.of_design runs

  -- its line
  abbrev rested : List ℕ
  rested = rested_line design.instances.items design.signals.items (length taken + 1) (state_of t).value

  more : IsSame s t → IsDone policy (level_of s) (flat_of s) (state_of t) → (left : List (List plain.Setting)) (others : Shown) → IsRun design.instances.items policy (level_of t) (flat design) (length (taken ++ next ∷ []) + 1) (state_of t) left others → IsRun design.instances.items policy (level_of t) (flat design) 1 (power_up (flat design)) ((taken ++ next ∷ []) ++ left) (behind (bytes ++ rested) others)
  more same done left others run =
      let done' = subst (λ (d : Flat). IsDone policy (level_of s) d (state_of t)) under.of_design done in
      let run' = subst (λ (level : ℕ → Option ℕ). IsRun design.instances.items policy level (flat design) (length (taken ++ next ∷ []) + 1) (state_of t) left others) (same_level s t same) run in
      let count : length (taken ++ next ∷ []) ≡ length taken + 1 = length-append taken (next ∷ []) in
      let run'' = subst (λ (n : ℕ). IsRun design.instances.items policy (level_of s) (flat design) (n + 1) (state_of t) left others) count run' in
      let whole = under.shows (next ∷ left) (behind rested others) (Rested (length taken + 1) goes.spent (left_of t) (state_of s) (state_of t) next left others goes.all goes.run done' run'') in
      let texts : bytes ++ (rested ++ others.bytes) ≡ (bytes ++ rested) ++ others.bytes = sym (append_assoc bytes rested others.bytes) in
      let steps : taken ++ next ∷ left ≡ (taken ++ next ∷ []) ++ left = sym (append_assoc taken (next ∷ []) left) in
      subst (λ (level : ℕ → Option ℕ). IsRun design.instances.items policy level (flat design) 1 (power_up (flat design)) ((taken ++ next ∷ []) ++ left) (behind (bytes ++ rested) others)) (sym (same_level s t same))
      (subst (λ (all : List (List plain.Setting)). IsRun design.instances.items policy (level_of s) (flat design) 1 (power_up (flat design)) all (behind (bytes ++ rested) others)) steps
      (subst (λ (text : List ℕ). IsRun design.instances.items policy (level_of s) (flat design) 1 (power_up (flat design)) (taken ++ next ∷ left) (record { settled = others.settled; bytes = text })) texts whole))

  pub one_more : IsSame s t → IsDone policy (level_of s) (flat_of s) (state_of t) → IsAtRest (flat_of s) (state_of t) → is_stuck t ≡ false → IsUnderWay design policy (taken ++ next ∷ []) t (bytes ++ rested)
  one_more same done rest free =
      record {
        of_design = same_flat s t same ∙ under.of_design;
        levels = subst (λ (level : ℕ → Option ℕ). (p : ℕ) → p < length (flat design).tasks → IsLevel (flat design).signals (flat design).tasks p (level p)) (sym (same_level s t same)) under.levels;
        free = free;
        activated = rest.no_active.updates;
        delayed = rest.no_delayed;
        shows = more same done;
      }

  pub stopped : IsTooDear policy (level_of s) (flat_of s) (state_of t) (left_of t) → (left : List (List plain.Setting)) → IsSimulated design.signals.items (flat design).tasks design.instances.items (record { policy = policy; steps = taken ++ next ∷ left }) (record { settled = false; bytes = bytes ++ unsettled_line (length taken + 1) })
  stopped dear left =
      let dear' = subst (λ (d : Flat). IsTooDear policy (level_of s) d (state_of t) (left_of t)) under.of_design dear in
      record {
        level = level_of s;
        levels = under.levels;
        run = under.shows (next ∷ left) (record { settled = false; bytes = unsettled_line (length taken + 1) }) (Stopped (length taken + 1) goes.spent (left_of t) (state_of s) (state_of t) next left goes.all goes.run dear');
      }

-- ---- the steps that were taken, with no other

pub so_far : (design : Design) (policy : Policy) (taken : List (List plain.Setting)) (sim : EventSim) (bytes : List ℕ) → IsUnderWay design policy taken sim bytes → IsSimulated design.signals.items (flat design).tasks design.instances.items (record { policy = policy; steps = taken }) (record { settled = true; bytes = bytes })
so_far design policy taken sim bytes under =
    let whole = under.shows [] (record { settled = true; bytes = [] }) (Ended (length taken + 1) (state_of sim)) in
    record {
      level = level_of sim;
      levels = under.levels;
      run = subst (λ (all : List (List plain.Setting)). IsRun design.instances.items policy (level_of sim) (flat design) 1 (power_up (flat design)) all (record { settled = true; bytes = bytes })) (append-nil taken)
          (subst (λ (text : List ℕ). IsRun design.instances.items policy (level_of sim) (flat design) 1 (power_up (flat design)) (taken ++ []) (record { settled = true; bytes = text })) (append-nil bytes) whole);
    }

-- ---- in a file of steps

-- the step behind those that were taken
pub found_at : {A : Type 0} (xs seen : List A) (i : ℕ) (x : A) → seen ≡ xs → i < length seen → x ≡ slice_index_or seen i x → slice_get xs i ≡ Some x
found_at xs seen i x same inside is =
    ap (λ all. slice_get all i) (sym same) ∙ slice_get_read seen (length seen) i x refl inside is

module _ (design : Design) (policy : Policy) (all : List (Vec Setting Global)) (before : ℕ) (one : Vec Setting Global) (settings : List Setting) (s t : EventSim) (bytes line : List ℕ) (found : slice_get all before ≡ Some one) (within : before ≤ length all) (same : settings ≡ one.items) (under : IsUnderWay design policy (take before (map step all)) s bytes) (runs : is_stuck s ≡ false → Runs policy (level_of s) (flat_of s) (offer (state_of s) (map set_of settings)) (budget (flat_of s)) (state_of t) (left_of t)) where
  abbrev taken : List (List plain.Setting)
  taken = take before (map step all)

  count : length taken ≡ before
  count = count_taken step all before within

  there : one ≡ slice_index_or all before one
  there = sym (get_or_from_slice_get all before one one found)

  inside : before < length all
  inside = slice_get_within all before one found

  run : Runs policy (level_of s) (flat_of s) (offer (state_of s) (map set_of one.items)) (budget (flat_of s)) (state_of t) (left_of t)
  run = subst (λ (sets : List Setting). Runs policy (level_of s) (flat_of s) (offer (state_of s) (map set_of sets)) (budget (flat_of s)) (state_of t) (left_of t)) same (runs under.free)

  pub next_rested : IsSame s t → IsDone policy (level_of s) (flat_of s) (state_of t) → IsAtRest (flat_of s) (state_of t) → is_stuck t ≡ false → line ≡ rested_line design.instances.items design.signals.items (before + 1) (state_of t).value → IsUnderWay design policy (take (before + 1) (map step all)) t (bytes ++ line)
  next_rested stays done rest free is =
      let more = one_more design policy taken one.items s t bytes under run stays done rest free in
      let text : rested_line design.instances.items design.signals.items (length taken + 1) (state_of t).value ≡ line =
      ap (λ n. rested_line design.instances.items design.signals.items (n + 1) (state_of t).value) count ∙ sym is
      in
      subst (λ (steps : List (List plain.Setting)). IsUnderWay design policy steps t (bytes ++ line)) (sym (take_more step all before one inside there))
      (subst (λ (l : List ℕ). IsUnderWay design policy (taken ++ step one ∷ []) t (bytes ++ l)) text more)

  pub next_stopped : (is_stuck s ≡ false → IsTooDear policy (level_of s) (flat_of s) (state_of t) (left_of t)) → line ≡ unsettled_line (before + 1) → IsSimulated design.signals.items (flat design).tasks design.instances.items (record { policy = policy; steps = map step all }) (record { settled = false; bytes = bytes ++ line })
  next_stopped dear is =
      let left = drop (before + 1) (map step all) in
      let stop = stopped design policy taken one.items s t bytes under run (dear under.free) left in
      let text : unsettled_line (length taken + 1) ≡ line = ap (λ n. unsettled_line (n + 1)) count ∙ sym is in
      let steps : taken ++ step one ∷ left ≡ map step all =
      sym (append_assoc taken (step one ∷ []) left) ∙ ap (λ front. front ++ left) (sym (take_more step all before one inside there)) ∙ take-append-drop (before + 1) (map step all)
      in
      subst (λ (l : List ℕ). IsSimulated design.signals.items (flat design).tasks design.instances.items (record { policy = policy; steps = map step all }) (record { settled = false; bytes = bytes ++ l })) text
      (subst (λ (every : List (List plain.Setting)). IsSimulated design.signals.items (flat design).tasks design.instances.items (record { policy = policy; steps = every }) (record { settled = false; bytes = bytes ++ unsettled_line (length taken + 1) })) steps stop)

-- no step is left
pub ended : (design : Design) (policy : Policy) (all seen : List (Vec Setting Global)) (before : ℕ) (sim : EventSim) (bytes : List ℕ) → IsUnderWay design policy (take before (map step all)) sim bytes → seen ≡ all → length seen ≤ before → IsSimulated design.signals.items (flat design).tasks design.instances.items (record { policy = policy; steps = map step all }) (record { settled = true; bytes = bytes })
ended design policy all seen before sim bytes under same past =
    let none : length all ≤ before = omega (arith, past, ap length same) in
    subst (λ (steps : List (List plain.Setting)). IsSimulated design.signals.items (flat design).tasks design.instances.items (record { policy = policy; steps = steps }) (record { settled = true; bytes = bytes })) (all_taken step all before none) (so_far design policy (take before (map step all)) sim bytes under)
