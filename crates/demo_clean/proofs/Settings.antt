-- The settings of a trial's steps are lawful.
use Rattle.std.specs.Prelude.{IsTrue}
use Rattle.std.proofs.Common.{◌≡◌, ◌∙◌, ◌==◌, ◌<◌, ℕ, zero, suc, true, false, List, [], ◌∷◌, length, map, refl, sym, ap, inl, inr, arith}
use Rattle.std.specs.List.{All}
use Rattle.std.proofs.lemmas.Bool.{and_from, eq-eqb}
use Rattle.std.proofs.lemmas.List.Elements.{All-cons, All-head, All-nil, All-tail}
use Rattle.rtl_bits.specs.declared.Bit.{Bit}
use Rattle.rtl_bits.specs.Bits.{has_unknown}
use Rattle.rtl_flat.specs.declared.design.Design.{Design}
use Rattle.rtl_flat.specs.declared.instance.Instance.{Instance}
use Rattle.rtl_flat.specs.declared.signal.Signal.{Signal}
use Rattle.rtl_flat.specs.Signs.{width_in}
use Rattle.rtl_flat.specs.WellFormed.{IsSignal}
use Rattle.rtl_flat.specs.Flats.{flat, Flat, widths}
use Rattle.demo_replay.specs.rtl_scan.Arrows.{Among}
use Rattle.event_model.specs.declared.setting.Setting.{Setting}
use Rattle.event_model.specs.Queue.{is_input}
use Rattle.event_model.specs.Writes.{Values}
use Rattle.event_model.proofs.Active.{signal_there}
use Rattle.demo_replay.specs.event_queue.Offers.{set_of}
use Rattle.net_model.specs.Cycle as cycle
use Rattle.net_model.specs.Cycle.{settings}
use Rattle.net_model.specs.Numbers.{AreNumbers}
use Rattle.demo_replay.specs.net_settle.Settle.{setting_view}
use Rattle.demo_replay.specs.netlist_eval.declared.step.Step.{Step}
use Rattle.demo_replay.specs.netlist_eval.declared.step.Step.TheVariants.{Data, Turn}
use Rattle.demo_replay.specs.netlist_eval.Steps.{IsStepOf, step_view}
use Rattle.demo_trials.specs.Fitting.{AreSettingsKnown, SettingsMeet}
use Rattle.demo_trials.specs.Steps.{Input, step_of}
use Rattle.demo_trials.proofs.Fitting.{step_known, step_meets}
use Rattle.demo_replay.specs.Progress.{TurnsLawfully, fits}
use Rattle.demo_replay.specs.Runs.{input_of}
use Rattle.demo_replay.specs.Setups.{IsSetup, Setup}
use Rattle.demo_replay.proofs.Lawful.{inputs_have, inputs_tell, lawful}

-- ---- widths

wide_at : (instances : List Instance) (signals : List Signal) (i : ℕ) → All (IsSignal instances) signals → i < length signals → 0 < width_in signals i
wide_at instances [] i are below = absurd (omega (arith, below))
wide_at instances (s ∷ signals) zero are below =
    let here = All-head (IsSignal instances) s signals are in
    let some = here.0 in
    omega (arith, some)
wide_at instances (s ∷ signals) (suc i) are below =
    wide_at instances signals i (All-tail (IsSignal instances) s signals are) (omega (arith, below))

input_wide : (design : Design) (i : ℕ) → IsTrue (is_input (flat design) i) → 0 < widths (flat design) i
input_wide design i is =
    wide_at design.instances.items design.signals.items i design.is_design.each_signal (signal_there (flat design) i is)

-- ---- inputs

module _ (design : Design) (g : Setup) (n : Values) (numbers : AreNumbers (flat design) n) where
  abbrev IsKnown : Input → Type 0
  IsKnown one = has_unknown one.value ≡ false

  abbrev Fits : Input → Type 0
  Fits one = fits (flat design) one.signal.0 (length one.value) ≡ true

  known_inputs : (tops : List ℕ) → All IsKnown (map (input_of (flat design) g n) tops)
  known_inputs [] = All-nil IsKnown
  known_inputs (i ∷ tops) =
      All-cons IsKnown (input_of (flat design) g n i) (map (input_of (flat design) g n) tops) (numbers.known i) (known_inputs tops)

  fitting_inputs : (tops : List ℕ) → ((i : ℕ) → Among tops i → IsTrue (is_input (flat design) i)) → All Fits (map (input_of (flat design) g n) tops)
  fitting_inputs [] inputs = All-nil Fits
  fitting_inputs (i ∷ tops) inputs =
      All-cons Fits (input_of (flat design) g n i) (map (input_of (flat design) g n) tops)
      (and_from (is_input (flat design) i) (length (n i) == widths (flat design) i) (inputs i (inl refl)) (eq-eqb (length (n i)) (widths (flat design) i) (numbers.wide i)))
      (fitting_inputs tops (λ j later. inputs j (inr later)))

  module _ (is : IsSetup (flat design) g) where
    are_inputs : (i : ℕ) → Among g.tops i → IsTrue (is_input (flat design) i)
    are_inputs i among = (is.are_tops.each i).0 among

    fit : (trial step : ℕ) → SettingsMeet (fits (flat design)) (step_of trial step (map (input_of (flat design) g n) g.tops))
    fit trial step =
        step_meets trial step (map (input_of (flat design) g n) g.tops) (fits (flat design)) (fitting_inputs g.tops are_inputs)

    known : (trial step : ℕ) → AreSettingsKnown (step_of trial step (map (input_of (flat design) g n) g.tops))
    known trial step =
        step_known trial step (map (input_of (flat design) g n) g.tops) (λ _. known_inputs g.tops)

    pub turns_lawfully : (trial step : ℕ) → trial < 32 → TurnsLawfully (flat design) n (step_of trial step (map (input_of (flat design) g n) g.tops))
    turns_lawfully trial step early =
        lawful (flat design) n trial step (map (input_of (flat design) g n) g.tops) early
        (inputs_have design g n g.tops numbers (λ i among. input_wide design i (are_inputs i among)))
        (inputs_tell design g n g.tops is)
        (fit trial step) (known trial step)

-- ---- what is offered

abbrev pub pair : cycle.Setting → ℕ × List Bit
pair setting = (setting.input, setting.number)

pairs : (all : List Setting) → map pair (map setting_view all) ≡ map set_of all
pairs [] = refl
pairs (one ∷ others) = ap (λ rest. set_of one ∷ rest) (pairs others)

-- a step offers what its settings do
pub offers : (d : Flat) (all : List Setting) (step : Step) → IsStepOf d all step → map pair (settings (step_view step)) ≡ map set_of all
offers d all (Data some) is = pairs some.now ∙ ap (map set_of) is.0
offers d all (Turn one) is = sym (ap (map set_of) is.0)
