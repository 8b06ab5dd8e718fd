-- Each step of a trial that doesn't begin at power-up is one that the netlist may take.
use Rattle.std.proofs.Common.{◌≡◌, ◌∙◌, ◌==◌, ◌<◌, ℕ, zero, suc, Bool, true, false, not, cond, nat_lt, if◌then◌else◌, List, [], ◌∷◌, length, map, Option, None, Some, refl, sym, subst, inl, inr, arith}
use Rattle.std.specs.Prelude.{IsTrue, ◌≢◌}
use Rattle.std.proofs.Math.Logic.{∥∥₁_map}
use Rattle.std.specs.List.{All, filter, slice_get, slice_index_or}
use Rattle.std.proofs.lemmas.Bool.{and_from, and_parts, eq-eqb, eqb-true, false≢true}
use Rattle.std.proofs.lemmas.List.Elements.{All-cons, All-head, All-nil, All-tail}
use Rattle.rtl_bits.specs.declared.Bit.{Bit}
use Rattle.rtl_bits.specs.declared.Bit.TheVariants.{Zero, One, X, Z}
use Rattle.rtl_bits.specs.Bit.{not_bit}
use Rattle.rtl_bits.specs.Bits.{has_unknown}
use Rattle.rtl_flat.specs.declared.design.Design.{Design}
use Rattle.rtl_flat.specs.Flats.{flat, Flat, widths}
use Rattle.event_model.specs.declared.setting.Setting.{Setting}
use Rattle.event_model.specs.Queue.{is_input}
use Rattle.event_model.specs.Writes.{Values}
use Rattle.event_queue.specs.Offers.{AreAllowed}
use Rattle.net_model.specs.Gates.{IsControl}
use Rattle.net_model.specs.Lawful.{IsSetting, SetsData, TurnsControl}
use Rattle.net_model.specs.Numbers.{AreNumbers}
use Rattle.event_queue.specs.rtl_scan.Arrows.{Among}
use Rattle.netlist_eval.specs.declared.step.Step.{Step}
use Rattle.netlist_eval.specs.declared.step.Step.TheVariants.{Data, Turn}
use Rattle.netlist_eval.specs.net_settle.Settle.{setting_view}
use Rattle.netlist_eval.specs.Steps.{IsLawful, IsStepOf}
use Rattle.demo_trials.specs.declared.input.Input.{Input as Made}
use Rattle.demo_trials.specs.Fitting.{AreInputsKnown, AreSettingsKnown, InputsMeet, SettingsMeet}
use Rattle.demo_trials.specs.Steps.{Input, complement, complement_of, controls, data_inputs, drawn_setting, drawn_step, input, is_control_step, step_of}
use Rattle.demo_replay.specs.Setups.{Setup, IsSetup}
use Rattle.demo_replay.specs.Progress.{TurnsLawfully, fits}
use Rattle.demo_replay.specs.Runs.{input_of}

-- what is said of one setting
record IsFine (d : Flat) (setting : Setting) : Type 0 where
  pub input : IsTrue (is_input d setting.signal.0)
  pub wide : length setting.value ≡ widths d setting.signal.0
  pub known : has_unknown setting.value ≡ false

fine : (d : Flat) (settings : List Setting) → SettingsMeet (fits d) settings → AreSettingsKnown settings → All (IsFine d) settings
fine d settings meet known k one within =
    let setting = slice_index_or settings k one in
    let (input, wide) = and_parts (is_input d setting.signal.0) (length setting.value == widths d setting.signal.0) (meet k one within) in
    record { input = input; wide = eqb-true (length setting.value) (widths d setting.signal.0) wide; known = known k one within }

can_be : (d : Flat) (setting : Setting) → IsFine d setting → IsSetting d (setting_view setting)
can_be d setting is = record { wide = is.wide; known = is.known }

-- a simulator takes what fits
pub allowed : (d : Flat) (settings : List Setting) → SettingsMeet (fits d) settings → AreAllowed d settings
allowed d settings meet k one within =
    let setting = slice_index_or settings k one in
    let (input, wide) = and_parts (is_input d setting.signal.0) (length setting.value == widths d setting.signal.0) (meet k one within) in
    (input, eqb-true (length setting.value) (widths d setting.signal.0) wide)

-- ---- settings of data inputs

abbrev IsFree : Flat → Setting → Type 0
IsFree d setting = IsControl d setting.signal.0 → ⊥

sets_data : (d : Flat) (settings : List Setting) → All (IsFine d) settings → All (IsFree d) settings → All (SetsData d) (map setting_view settings)
sets_data d [] are free = All-nil (SetsData d)
sets_data d (one ∷ others) are free =
    let here = All-head (IsFine d) one others are in
    All-cons (SetsData d) (setting_view one) (map setting_view others)
    (record { data_input = record { input = here.input; no_control = All-head (IsFree d) one others free }; can_be = can_be d one here })
    (sets_data d others (All-tail (IsFine d) one others are) (All-tail (IsFree d) one others free))

data_lawful : (d : Flat) (n : Values) (settings : List Setting) → All (IsFine d) settings → All (IsFree d) settings → (step : Step) → IsStepOf d settings step → IsLawful d n step
data_lawful d n settings are free (Data all) is =
    ∣ subst (λ (list : List Setting). All (SetsData d) (map setting_view list)) (sym is.0) (sets_data d settings are free) ∣₁
data_lawful d n settings are free (Turn one) is =
    ∥∥₁_map is.1 (λ control. absurd (All-head (IsFree d) one [] (subst (All (IsFree d)) is.0 free) control))

-- ---- the complement of an input

other_bits : (bits : List Bit) → has_unknown bits ≡ false → 0 < length bits → map not_bit bits ≢ bits
other_bits [] known some same = omega (arith, some)
other_bits (Zero ∷ bits) known some same = cc
other_bits (One ∷ bits) known some same = cc
other_bits (X ∷ bits) known some same = cc
other_bits (Z ∷ bits) known some same = cc

-- an input has the number of its signal, which is a known one of its width
pub record Has (d : Flat) (n : Values) (one : Input) : Type 0 where
  pub number : one.value ≡ n one.signal.0
  pub known : has_unknown one.value ≡ false
  pub some : 0 < length one.value

-- settings are none, or the complement of an input
abbrev complement_free : Flat → List Setting → Type 0
complement_free d settings = All (IsFree d) settings

one_lawful : (d : Flat) (n : Values) (o : Option Input) (settings : List Setting) → ((one : Input) → o ≡ Some one → Has d n one) → settings ≡ complement_of o → All (IsFine d) settings → (step : Step) → IsStepOf d settings step → IsLawful d n step
one_lawful d n None settings has same are step is =
    data_lawful d n settings are (subst (All (IsFree d)) (sym same) (All-nil (IsFree d))) step is
one_lawful d n (Some one) settings has same are (Data all) is =
    let free : IsFree d (complement one) = λ control. is.1 (complement one) same control in
    data_lawful d n settings are (subst (All (IsFree d)) (sym same) (All-cons (IsFree d) (complement one) [] free (All-nil (IsFree d)))) (Data all) is
one_lawful d n (Some one) settings has same are (Turn turned) is =
    let set : turned ≡ complement one = cc (is.0, same) in
    let there = has one refl in
    let can = All-head (IsFine d) (complement one) [] (subst (All (IsFine d)) same are) in
    ∥∥₁_map is.1 (λ control. subst (λ (s : Setting). TurnsControl d n (setting_view s)) (sym set) (record {
      control = subst (λ (s : Setting). IsControl d s.signal.0) set control;
      can_be = can_be d (complement one) can;
      other = λ e. other_bits one.value there.known there.some (e ∙ sym there.number);
    }))

-- ---- what the steps of trials set

get_all : {A : Type 0} (P : A → Type 0) (xs : List A) (k : ℕ) (x : A) → All P xs → slice_get xs k ≡ Some x → P x
get_all P [] k x are is = absurd (cc)
get_all P (y ∷ xs) zero x are is = subst P (of_some is) (All-head P y xs are)
  where
    of_some : Some y ≡ Some x → y ≡ x
    of_some e = cc
get_all P (y ∷ xs) (suc k) x are is = get_all P xs k x (All-tail P y xs are) is

all_if : {A : Type 0} (P : A → Type 0) (b : Bool) (x : A) (xs : List A) → P x → All P xs → All P (cond b (x ∷ xs) xs)
all_if P true x xs here others = All-cons P x xs here others
all_if P false x xs here others = others

kept_all : {A : Type 0} (P : A → Type 0) (test : A → Bool) (xs : List A) → All P xs → All P (filter test xs)
kept_all P test [] are = All-nil P
kept_all P test (x ∷ xs) are =
    all_if P (test x) x (filter test xs) (All-head P x xs are) (kept_all P test xs (All-tail P x xs are))

free_if : (d : Flat) (trial step : ℕ) (x : Input) (xs : List Input) (b : Bool) → x.is_control ≡ b → (IsControl d x.signal.0 → x.is_control ≡ true) → All (IsFree d) (map (drawn_setting trial step) xs) → All (IsFree d) (map (drawn_setting trial step) (cond (not b) (x ∷ xs) xs))
free_if d trial step x xs true is tells others = others
free_if d trial step x xs false is tells others =
    All-cons (IsFree d) (drawn_setting trial step x) (map (drawn_setting trial step) xs) (λ control. false≢true (sym is ∙ tells control)) others

free_drawn : (d : Flat) (trial step : ℕ) (inputs : List Input) → All (λ (one : Input). IsControl d one.signal.0 → one.is_control ≡ true) inputs → All (IsFree d) (map (drawn_setting trial step) (data_inputs inputs))
free_drawn d trial step [] are = All-nil (IsFree d)
free_drawn d trial step (x ∷ xs) are =
    free_if d trial step x (data_inputs xs) x.is_control refl (All-head (λ (one : Input). IsControl d one.signal.0 → one.is_control ≡ true) x xs are)
    (free_drawn d trial step xs (All-tail (λ (one : Input). IsControl d one.signal.0 → one.is_control ≡ true) x xs are))

-- a choice of lists of settings, each of which may be taken
choice : (P : List Setting → Type 0) (b : Bool) (xs ys : List Setting) → (b ≡ true → P xs) → (b ≡ false → P ys) → P (if b then xs else ys)
choice P true xs ys left right = left refl
choice P false xs ys left right = right refl

module _ (d : Flat) (n : Values) (trial step : ℕ) (inputs : List Input) (early : trial < 32) (has : All (Has d n) inputs) (controls_are : All (λ (one : Input). IsControl d one.signal.0 → one.is_control ≡ true) inputs) where
  abbrev IsTaken : List Setting → Type 0
  IsTaken settings = All (IsFine d) settings → TurnsLawfully d n settings

  complemented : (xs : List Input) (k : ℕ) → All (Has d n) xs → IsTaken (complement_of (slice_get xs k))
  complemented xs k are fines taken is =
      one_lawful d n (slice_get xs k) (complement_of (slice_get xs k)) (λ one found. get_all (Has d n) xs k one are found) refl fines taken is

  drawn : IsTaken (drawn_step trial step inputs)
  drawn =
      choice IsTaken (is_control_step step inputs) _ _
      (λ _. complemented (controls inputs) _ (kept_all (Has d n) (λ (one : Input). one.is_control) inputs has))
      (λ _ fines taken is. data_lawful d n _ fines (free_drawn d trial step inputs controls_are) taken is)

  taken : IsTaken (step_of trial step inputs)
  taken =
      choice IsTaken (nat_lt trial 8) _ _
      (λ _. complemented inputs _ has)
      (λ _. choice IsTaken (nat_lt trial 32) _ _ (λ _. drawn) (λ late. absurd (grind (arith, late, early))))

  -- what is known of the settings of a step by their widths and bits
  pub lawful : SettingsMeet (fits d) (step_of trial step inputs) → AreSettingsKnown (step_of trial step inputs) → TurnsLawfully d n (step_of trial step inputs)
  lawful meet known = taken (fine d (step_of trial step inputs) meet known)

-- ---- inputs as they are made of numbers

pub inputs_have : (design : Design) (g : Setup) (n : Values) (tops : List ℕ) → AreNumbers (flat design) n → ((i : ℕ) → Among tops i → 0 < widths (flat design) i) → All (Has (flat design) n) (map (input_of (flat design) g n) tops)
inputs_have design g n [] numbers some = All-nil (Has (flat design) n)
inputs_have design g n (i ∷ tops) numbers some =
    All-cons (Has (flat design) n) (input_of (flat design) g n i) (map (input_of (flat design) g n) tops)
    (record { number = refl; known = numbers.known i; some = subst (λ w. 0 < w) (sym (numbers.wide i)) (some i (inl refl)) })
    (inputs_have design g n tops numbers (λ j later. some j (inr later)))

pub inputs_tell : (design : Design) (g : Setup) (n : Values) (tops : List ℕ) → IsSetup (flat design) g → All (λ (one : Input). IsControl (flat design) one.signal.0 → one.is_control ≡ true) (map (input_of (flat design) g n) tops)
inputs_tell design g n [] is =
    All-nil (λ (one : Input). IsControl (flat design) one.signal.0 → one.is_control ≡ true)
inputs_tell design g n (i ∷ tops) is =
    All-cons (λ (one : Input). IsControl (flat design) one.signal.0 → one.is_control ≡ true) (input_of (flat design) g n i) (map (input_of (flat design) g n) tops)
    (λ control. (is.are_controls i).1 control)
    (inputs_tell design g n tops is)

-- ---- inputs as the code keeps them

unmap : {A B : Type 0} (P : B → Type 0) (f : A → B) (ys : List A) → All P (map f ys) → All (λ y. P (f y)) ys
unmap P f [] are = All-nil (λ y. P (f y))
unmap P f (y ∷ ys) are =
    All-cons (λ y. P (f y)) y ys (All-head P (f y) (map f ys) are) (unmap P f ys (All-tail P (f y) (map f ys) are))

known_inputs : (design : Design) (g : Setup) (n : Values) (tops : List ℕ) → AreNumbers (flat design) n → All (λ (one : Input). has_unknown one.value ≡ false) (map (input_of (flat design) g n) tops)
known_inputs design g n [] numbers = All-nil (λ (one : Input). has_unknown one.value ≡ false)
known_inputs design g n (i ∷ tops) numbers =
    All-cons (λ (one : Input). has_unknown one.value ≡ false) (input_of (flat design) g n i) (map (input_of (flat design) g n) tops) (numbers.known i) (known_inputs design g n tops numbers)

fitting_inputs : (design : Design) (g : Setup) (n : Values) (tops : List ℕ) → AreNumbers (flat design) n → ((i : ℕ) → Among tops i → IsTrue (is_input (flat design) i)) → All (λ (one : Input). fits (flat design) one.signal.0 (length one.value) ≡ true) (map (input_of (flat design) g n) tops)
fitting_inputs design g n [] numbers inputs =
    All-nil (λ (one : Input). fits (flat design) one.signal.0 (length one.value) ≡ true)
fitting_inputs design g n (i ∷ tops) numbers inputs =
    All-cons (λ (one : Input). fits (flat design) one.signal.0 (length one.value) ≡ true) (input_of (flat design) g n i) (map (input_of (flat design) g n) tops)
    (and_from (is_input (flat design) i) (length (n i) == widths (flat design) i) (inputs i (inl refl)) (eq-eqb (length (n i)) (widths (flat design) i) (numbers.wide i)))
    (fitting_inputs design g n tops numbers (λ j later. inputs j (inr later)))

module _ (design : Design) (g : Setup) (is : IsSetup (flat design) g) (n : Values) (numbers : AreNumbers (flat design) n) (made : List Made) (are : map input made ≡ map (input_of (flat design) g n) g.tops) where
  pub made_known : AreInputsKnown made
  made_known =
      unmap (λ (one : Input). has_unknown one.value ≡ false) input made (subst (All (λ (one : Input). has_unknown one.value ≡ false)) (sym are) (known_inputs design g n g.tops numbers))

  pub made_fit : InputsMeet (fits (flat design)) made
  made_fit =
      unmap (λ (one : Input). fits (flat design) one.signal.0 (length one.value) ≡ true) input made
      (subst (All (λ (one : Input). fits (flat design) one.signal.0 (length one.value) ≡ true)) (sym are) (fitting_inputs design g n g.tops numbers (λ i among. (is.are_tops.each i).0 among)))
