-- What the steps of a trial set, by what is kept of the design.
use Rattle.std.proofs.Common.{◌≡◌, ◌∙◌, ◌==◌, ◌<◌, ◌≤◌, ℕ, zero, suc, Bool, false, List, [], ◌∷◌, length, map, sym, ap, subst, inl, inr, arith}
use Rattle.std.specs.Prelude.{Err, IfOk, IsTrue, Ok, Result, Vec}
use Rattle.std.specs.declared.alloc.Global.{Global}
use Rattle.std.specs.List.{All}
use Rattle.std.proofs.lemmas.Bool.{cases_eq, eq-eqb, false≢true}
use Rattle.std.proofs.lemmas.List.Elements.{All-head, All-tail}
use Rattle.rtl_flat.specs.declared.design.Design.{Design}
use Rattle.rtl_flat.specs.declared.instance.Instance.{Instance}
use Rattle.rtl_flat.specs.declared.signal.Signal.{Signal}
use Rattle.rtl_flat.specs.Signs.{width_in}
use Rattle.rtl_flat.specs.WellFormed.{IsSignal}
use Rattle.text_ground.specs.declared.memory.Memory.{Memory}
use Rattle.rtl_flat.specs.Flats.{flat, widths}
use Rattle.event_model.specs.declared.setting.Setting.{Setting}
use Rattle.event_model.specs.Queue.{is_input}
use Rattle.event_model.specs.Writes.{Values}
use Rattle.event_model.proofs.Active.{signal_there}
use Rattle.event_queue.specs.Offers.{AreAllowed}
use Rattle.net_model.specs.Numbers.{AreNumbers}
use Rattle.demo_trials.specs.declared.input.Input.{Input as Made}
use Rattle.demo_trials.specs.Fitting.{AreInputsKnown, AreSettingsKnown, InputsMeet, SettingsMeet}
use Rattle.demo_trials.specs.Steps.{input, step_of}
use Rattle.demo_replay.specs.declared.setup.Setup.{Setup as Kept}
use Rattle.demo_replay.specs.Setups.{IsSetup}
use Rattle.demo_replay.specs.Progress.{TurnsLawfully, fits}
use Rattle.demo_replay.specs.Runs.{input_of}
use Rattle.demo_replay.specs.Tables.{IsOf, plain}
use Rattle.demo_replay.proofs.Lawful.{allowed, inputs_have, inputs_tell, lawful, made_fit, made_known}

pub setup_of : (kept : Kept) → IsOf kept.design.now kept → IsSetup (flat kept.design.now) (plain kept)
setup_of kept is =
    record { are_stored = is.basis.holders; are_tops = is.basis.tops; are_controls = is.basis.controls }

-- ---- widths

wide_at : (instances : List Instance) (signals : List Signal) (i : ℕ) → All (IsSignal instances) signals → i < length signals → 0 < width_in signals i
wide_at instances [] i are below = absurd (omega (arith, below))
wide_at instances (s ∷ signals) zero are below =
    let here = All-head (IsSignal instances) s signals are in
    let some = here.0 in
    omega (arith, some)
wide_at instances (s ∷ signals) (suc i) are below =
    wide_at instances signals i (All-tail (IsSignal instances) s signals are) (omega (arith, below))

input_wide : (design : Design) (i : ℕ) → IsTrue (is_input (flat design) i) → 0 < widths (flat design) i
input_wide design i is =
    wide_at design.instances.items design.signals.items i design.is_design.each_signal (signal_there (flat design) i is)

-- ---- settings

pub early : (trial : ℕ) → trial ≤ 32 → (trial == 32) ≡ false → trial < 32
early trial below other =
    elim (cases_eq trial 32) [
      | inl last ↦ absurd (false≢true (sym other ∙ eq-eqb trial 32 last))
      | inr before ↦ omega (arith, below, before)
    ]

module _ (kept : Kept) (is : IsOf kept.design.now kept) (n : Values) (numbers : AreNumbers (flat kept.design.now) n) (made : List Made) (are : map input made ≡ map (input_of (flat kept.design.now) (plain kept) n) (plain kept).tops) (settings : List Setting) (fit : (test : ℕ → ℕ → Bool) → InputsMeet test made → SettingsMeet test settings) where
  pub step_allowed : AreAllowed (flat kept.design.now) settings
  step_allowed =
      allowed (flat kept.design.now) settings
      (fit (fits (flat kept.design.now)) (made_fit kept.design.now (plain kept) (setup_of kept is) n numbers made are))

  pub step_lawful : (trial step : ℕ) → trial < 32 → (AreInputsKnown made → AreSettingsKnown settings) → settings ≡ step_of trial step (map input made) → TurnsLawfully (flat kept.design.now) n settings
  step_lawful trial step before known exact =
      let d = flat kept.design.now in
      let g = plain kept in
      let same = exact ∙ ap (step_of trial step) are in
      subst (TurnsLawfully d n) (sym same)
      (lawful d n trial step (map (input_of (flat kept.design.now) g n) g.tops) before
      (inputs_have kept.design.now g n g.tops numbers (λ i among. input_wide kept.design.now i ((is.basis.tops.each i).0 among)))
      (inputs_tell kept.design.now g n g.tops (setup_of kept is))
      (subst (SettingsMeet (fits d)) same (fit (fits d) (made_fit kept.design.now g (setup_of kept is) n numbers made are)))
      (subst AreSettingsKnown same (known (made_known kept.design.now g (setup_of kept is) n numbers made are))))

-- the settings that a step makes, where memory suffices
pub settings_lawful : (kept : Kept) → IsOf kept.design.now kept → (n : Values) → AreNumbers (flat kept.design.now) n → (made : List Made) → map input made ≡ map (input_of (flat kept.design.now) (plain kept) n) (plain kept).tops → (trial step : ℕ) → trial ≤ 32 → (result : Result (Vec Setting Global) Memory) → IfOk result (λ settings. settings.items ≡ step_of trial step (map input made)) → IfOk result (λ settings. (test : ℕ → ℕ → Bool) → InputsMeet test made → SettingsMeet test settings.items) → IfOk result (λ settings. (trial < 32 → AreInputsKnown made) → AreSettingsKnown settings.items) → IfOk result (λ settings. (trial == 32) ≡ false → TurnsLawfully (flat kept.design.now) n settings.items)
settings_lawful kept is n numbers made are trial step below (Ok settings) exact fit known = λ other.
    step_lawful kept is n numbers made are settings.items fit trial step (early trial below other) (λ inputs. known (λ _. inputs)) exact
settings_lawful kept is n numbers made are trial step below (Err fault) exact fit known = exact
