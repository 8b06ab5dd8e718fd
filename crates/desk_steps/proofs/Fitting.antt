-- Every setting of a file fits the design.
use Rattle.std.specs.Prelude.{ℕ, zero, suc, ◌+◌, nat_lt, Bool, true, false, if◌then◌else◌, List, [], ◌∷◌, ◌++◌, codes, drop, ◌<◌, map, Option, None, Some, Result, Ok, Err, IfOk}
use Rattle.std.specs.List.{All, slice_get}
use Rattle.std.specs.Str.{bytes_eq}
use Rattle.std.proofs.Common.{◌≡◌, ◌∙◌, ap, sym, refl, subst, arith}
use Rattle.std.proofs.lemmas.List.{get_or-map, length-map}
use Rattle.std.proofs.lemmas.List.Elements.{All-nil, All-cons, All-push}
use Rattle.rtl_flat.specs.declared.design.Design.{Design}
use Rattle.rtl_flat.specs.declared.signal.Signal.{Signal}
use Rattle.rtl_flat.specs.Signs.{width_in}
use Rattle.rtl_bits.specs.declared.Bit.{Bit}
use Rattle.event_model.specs.declared.policy.Policy.{Policy}
use Rattle.event_model.specs.declared.policy.Policy.TheVariants.{Level}
use Rattle.event_model.specs.Queue.{is_input_kind, is_input_of}
use Rattle.desk_steps.specs.declared.names.Input.{Input}
use Rattle.desk_steps.specs.declared.file.Steps.{Steps as Read}
use Rattle.desk_steps.specs.declared.file.StepsFault.{StepsFault}
use Rattle.desk_steps.specs.Fitting.{AreFitting, IsFitting}
use Rattle.desk_steps.specs.Lines.{Cut, cut_at, lines, parts}
use Rattle.desk_steps.specs.Names.{Names, ahead, input_of, inputs_of, named, names_from}
use Rattle.desk_steps.specs.Steps.{Setting, Steps, behind, cut_setting, file_lines, file_of, file_with, is_set, policy_of, set_once, set_signal, setting, setting_of, settings_of, step, step_of, steps, steps_from, under, with_step}
use Rattle.desk_steps.specs.Values.{and_then, value_bits}
use Rattle.desk_steps.proofs.Widths.{value_length}

-- ---- the inputs of a design

-- an input as the signal with its number is
abbrev IsOf : List Signal → Input → Type 0
IsOf all input =
    (is_input_of (slice_get all input.signal.0) ≡ true) × (input.width ≡ width_in all input.signal.0)

signal_here : (all : List Signal) (number : ℕ) (first : Signal) (others : List Signal) → drop number all ≡ first ∷ others → (slice_get all number ≡ Some first) × (first.width ≡ width_in all number) × (drop (suc number) all ≡ others)
signal_here [] zero first others is = absurd (cc)
signal_here [] (suc number) first others is = absurd (cc)
signal_here (one ∷ all) zero first others is =
    let same : one ≡ first = cc in
    let rest : all ≡ others = cc in
    (ap Some same, ap (λ s. s.width) (sym same), rest)
signal_here (one ∷ all) (suc number) first others is = signal_here all number first others is

input_is : (all : List Signal) (number : ℕ) (first : Signal) → slice_get all number ≡ Some first → first.width ≡ width_in all number → is_input_kind first.kind ≡ true → IsOf all (input_of number first)
input_is all number first there width kind = (ap is_input_of there ∙ kind, width)

among : (all : List Signal) (skipped number : ℕ) (rest : List Signal) → drop number all ≡ rest → (name : List ℕ) (input : Input) → names_from skipped number rest name ≡ Some input → IsOf all input
among all skipped number [] is name input found = absurd (cc)
among all skipped number (first ∷ others) is name input found =
    by (is_input_kind first.kind) refl found (among all skipped (number + 1) others next name input)
  where
    next : drop (number + 1) all ≡ others
    next =
        let same : number + 1 ≡ suc number = omega arith in
        ap (λ n. drop n all) same ∙ (signal_here all number first others is).2

    this : (here : Bool) → is_input_kind first.kind ≡ true → (if here then Some (input_of number first) else names_from skipped (number + 1) others name) ≡ Some input → (names_from skipped (number + 1) others name ≡ Some input → IsOf all input) → IsOf all input
    this true kind found later =
        let same : input_of number first ≡ input = cc in
        let there = signal_here all number first others is in
        subst (IsOf all) same (input_is all number first there.0 there.1 kind)
    this false kind found later = later found

    by : (top : Bool) → is_input_kind first.kind ≡ top → (if top then named (names_from skipped (number + 1) others) (drop skipped first.path) (input_of number first) else names_from skipped (number + 1) others) name ≡ Some input → (names_from skipped (number + 1) others name ≡ Some input → IsOf all input) → IsOf all input
    by true kind found later = this (bytes_eq (drop skipped first.path) name) kind found later
    by false kind found later = later found

inputs_are : (design : Design) (name : List ℕ) (input : Input) → inputs_of design name ≡ Some input → IsOf design.signals.items input
inputs_are design = among design.signals.items (ahead design.instances.items) 0 design.signals.items refl

-- ---- the settings of a file

module _ (all : List Signal) (names : Names) (known : (name : List ℕ) (input : Input) → names name ≡ Some input → IsOf all input) where
  abbrev Fits : Setting → Type 0
  Fits one = IsFitting all one.signal one.bits

  input_fits : (earlier : List Setting) (input : Input) (value : List ℕ) (made : Setting) → IsOf all input → set_once earlier input.signal.0 (value_bits input.width value) ≡ Some made → Fits made
  input_fits earlier input value made of is = by (value_bits input.width value) refl is
    where
      this : (bits : List Bit) (set : Bool) → value_bits input.width value ≡ Some bits → (if set then None else Some (record { signal = input.signal.0; bits = bits })) ≡ Some made → Fits made
      this bits true same is = absurd (cc)
      this bits false same is =
          let made_is : record { signal = input.signal.0; bits = bits } ≡ made = cc in
          subst Fits made_is (of.0, value_length input.width value bits same ∙ of.1)

      by : (bits : Option (List Bit)) → value_bits input.width value ≡ bits → set_once earlier input.signal.0 bits ≡ Some made → Fits made
      by None same is = absurd (cc)
      by (Some bits) same is = this bits (is_set input.signal.0 earlier) same is

  setting_fits : (earlier : List Setting) (text : List ℕ) (made : Setting) → setting_of names earlier text ≡ Some made → Fits made
  setting_fits earlier text made is = by (cut_at 61 text) is
    where
      this : (cut : Cut) (found : Option Input) → names cut.before ≡ found → set_signal earlier cut.behind found ≡ Some made → Fits made
      this cut None same is = absurd (cc)
      this cut (Some input) same is = input_fits earlier input cut.behind made (known cut.before input same) is

      by : (cut : Option Cut) → cut_setting names earlier cut ≡ Some made → Fits made
      by None is = absurd (cc)
      by (Some cut) is = this cut (names cut.before) refl is

  settings_fit : (earlier : List Setting) (texts : List (List ℕ)) (made : List Setting) → All Fits earlier → settings_of names earlier texts ≡ Some made → All Fits made
  settings_fit earlier [] made fit is =
      let same : earlier ≡ made = cc in
      subst (All Fits) same fit
  settings_fit earlier (text ∷ texts) made fit is =
      by (setting_of names earlier text) refl is (λ one fits. settings_fit (earlier ++ one ∷ []) texts made (All-push Fits earlier one fit fits))
    where
      by : (found : Option Setting) → setting_of names earlier text ≡ found → and_then found (λ one. settings_of names (earlier ++ one ∷ []) texts) ≡ Some made → ((one : Setting) → Fits one → settings_of names (earlier ++ one ∷ []) texts ≡ Some made → All Fits made) → All Fits made
      by None same is later = absurd (cc)
      by (Some one) same is later = later one (setting_fits earlier text one same) is

  step_fits : (line : List ℕ) (made : List Setting) → step_of names line ≡ Some made → All Fits made
  step_fits line made is = by (behind (codes "set ") line) is
    where
      by : (rest : Option (List ℕ)) → and_then rest (λ text. settings_of names [] (parts 32 text)) ≡ Some made → All Fits made
      by None is = absurd (cc)
      by (Some text) is = settings_fit [] (parts 32 text) made (All-nil Fits) is

  steps_fit : (before : ℕ) (texts : List (List ℕ)) (made : List (List Setting)) → steps_from names before texts ≡ Ok made → All (All Fits) made
  steps_fit before [] made is =
      let same : [] ≡ made = cc in
      subst (All (All Fits)) same (All-nil (All Fits))
  steps_fit before (text ∷ texts) made is =
      by (nat_lt before 10000) (step_of names text) refl (steps_from names (before + 1) texts) refl is (steps_fit (before + 1) texts)
    where
      by : (few : Bool) (found : Option (List Setting)) → step_of names text ≡ found → (later : Result (List (List Setting)) ℕ) → steps_from names (before + 1) texts ≡ later → (if few then with_step (before + 1) found later else Err (before + 1)) ≡ Ok made → ((others : List (List Setting)) → steps_from names (before + 1) texts ≡ Ok others → All (All Fits) others) → All (All Fits) made
      by false found same later is_later is rest = absurd (cc)
      by true None same later is_later is rest = absurd (cc)
      by true (Some one) same (Err number) is_later is rest = absurd (cc)
      by true (Some one) same (Ok others) is_later is rest =
          let whole : one ∷ others ≡ made = cc in
          subst (All (All Fits)) whole (All-cons (All Fits) one others (step_fits text one same) (rest others is_later))

  under_fits : (policy : Policy) (before : ℕ) (texts : List (List ℕ)) (made : Steps) → under policy (steps_from names before texts) ≡ Ok made → All (All Fits) made.steps
  under_fits policy before texts made is = by (steps_from names before texts) refl is
    where
      by : (read : Result (List (List Setting)) ℕ) → steps_from names before texts ≡ read → under policy read ≡ Ok made → All (All Fits) made.steps
      by (Err number) same is = absurd (cc)
      by (Ok read) same is =
          let whole : record { policy = policy; steps = read } ≡ made = cc in
          subst (λ (m : Steps). All (All Fits) m.steps) whole (steps_fit before texts read same)

  lines_fit : (texts : List (List ℕ)) (made : Steps) → file_lines names texts ≡ Ok made → All (All Fits) made.steps
  lines_fit [] made is =
      let whole : record { policy = Level; steps = [] } ≡ made = cc in
      subst (λ (m : Steps). All (All Fits) m.steps) whole (All-nil (All Fits))
  lines_fit (first ∷ others) made is = by (policy_of first) is
    where
      by : (policy : Option Policy) → file_with names (first ∷ others) policy others ≡ Ok made → All (All Fits) made.steps
      by None is = under_fits Level 0 (first ∷ others) made is
      by (Some policy) is = under_fits policy 1 others made is

-- ---- as the code keeps them

unmapped : {X Y : Type 0} (P : Y → Type 0) (f : X → Y) (xs : List X) → All P (map f xs) → All (λ x. P (f x)) xs
unmapped P f xs all = λ k d within.
    subst P (get_or-map f xs k d (f d) within) (all k (f d) (subst (λ n. k < n) (sym (length-map xs f)) within))

pub fitting : (design : Design) (text : List ℕ) (made : Read) → file_of (inputs_of design) text ≡ Ok (steps made) → All (λ one. AreFitting design.signals.items one.items) made.steps.items
fitting design text made is =
    let plain = unmapped (All (Fits design.signals.items (inputs_of design) (inputs_are design))) step made.steps.items (lines_fit design.signals.items (inputs_of design) (inputs_are design) (lines text) (steps made) is) in
    λ k d within. unmapped (Fits design.signals.items (inputs_of design) (inputs_are design)) setting _ (plain k d within)

pub read_fits : (design : Design) (names : Names) (text : List ℕ) (result : Result Read StepsFault) → names ≡ inputs_of design → IfOk result (λ made. file_of names text ≡ Ok (steps made)) → IfOk result (λ made. All (λ one. AreFitting design.signals.items one.items) made.steps.items)
read_fits design names text (Ok made) same is =
    fitting design text made (ap (λ of. file_of of text) (sym same) ∙ is)
read_fits design names text (Err fault) same is = tt
