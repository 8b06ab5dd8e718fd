-- What holds of all settings of a step.
use Rattle.std.proofs.Common.{◌≡◌, ℕ, zero, suc, ◌<◌, Bool, true, false, cond, nat_lt, not, List, [], ◌∷◌, map, length, refl, ap, ◌∙◌, arith}
use Rattle.std.specs.Prelude.{Result, Ok, Err, IfOk, Vec}
use Rattle.std.specs.declared.alloc.Global.{Global}
use Rattle.std.specs.List.{All, slice_get, slice_index_or}
use Rattle.std.proofs.lemmas.List.{length-map, length-replicate}
use Rattle.std.proofs.lemmas.List.Elements.{All-nil, All-cons, All-head, All-tail, All-map, All-filter, All-weaker, All-same}
use Rattle.rtl_bits.specs.Bit.{not_bit}
use Rattle.rtl_bits.specs.Bits.{has_unknown}
use Rattle.rtl_bits.specs.Inside.{length-tabulate}
use Rattle.rtl_bits.specs.declared.Bit.TheVariants.{Zero}
use Rattle.event_model.specs.declared.setting.Setting.{Setting}
use Rattle.demo_trials.specs.declared.input.Input.{Input as Kept}
use Rattle.demo_trials.specs.Draws.{drawn}
use Rattle.demo_trials.specs.Fitting.{InputsMeet, SettingsMeet, AreInputsKnown, AreSettingsKnown}
use Rattle.demo_trials.specs.Steps.{Input, complement, complement_of, controls, data_inputs, drawn_setting, input, is_control_step, step_of, zero_setting}
use Rattle.demo_trials.proofs.Known.{known_bits, known_copies, known_complement}

choice_holds : (Q : Setting → Type 0) (b : Bool) (xs ys : List Setting) → (b ≡ true → All Q xs) → (b ≡ false → All Q ys) → All Q (cond b xs ys)
choice_holds Q true xs ys left right = left refl
choice_holds Q false xs ys left right = right refl

found_holds : (Q : Setting → Type 0) (inputs : List Input) (n : ℕ) → All (λ it. Q (complement it)) inputs → All Q (complement_of (slice_get inputs n))
found_holds Q [] n all = All-nil Q
found_holds Q (x ∷ xs) zero all = All-cons Q (complement x) [] (All-head (λ it. Q (complement it)) x xs all) (All-nil Q)
found_holds Q (x ∷ xs) (suc n) all = found_holds Q xs n (All-tail (λ it. Q (complement it)) x xs all)

-- a fact holds of all settings of a step if it holds of the complement of each input, of what is drawn for it, and of 0
step_holds : (Q : Setting → Type 0) (trial step : ℕ) (inputs : List Input) → (trial < 32 → All (λ it. Q (complement it)) inputs) → All (λ it. Q (drawn_setting trial step it)) inputs → All (λ it. Q (zero_setting it)) inputs → All Q (step_of trial step inputs)
step_holds Q trial step inputs turned drew zeros =
    choice_holds Q (nat_lt trial 8) _ _
    (λ early. found_holds Q inputs _ (turned (grind arith)))
    (λ _. choice_holds Q (nat_lt trial 32) _ _
    (λ before. choice_holds Q (is_control_step step inputs) _ _
    (λ _. found_holds Q (controls inputs) _ (All-filter (λ (it : Input). it.is_control) (λ it. Q (complement it)) inputs (turned (grind arith))))
    (λ _. All-map Q (drawn_setting trial step) (data_inputs inputs) (All-filter (λ (it : Input). not it.is_control) (λ it. Q (drawn_setting trial step it)) inputs drew)))
    (λ _. All-map Q zero_setting inputs zeros))

-- ---- widths

-- other bits of the same number
same_width : (test : ℕ → ℕ → Bool) (n a b : ℕ) → a ≡ b → test n b ≡ true → test n a ≡ true
same_width test n a b e h = ap (test n) e ∙ h

pub step_meets : (trial step : ℕ) (inputs : List Input) (test : ℕ → ℕ → Bool) → All (λ it. test it.signal.0 (length it.value) ≡ true) inputs → SettingsMeet test (step_of trial step inputs)
step_meets trial step inputs test all =
    let P = λ (it : Input). test it.signal.0 (length it.value) ≡ true in
    let Q = λ (setting : Setting). test setting.signal.0 (length setting.value) ≡ true in
    step_holds Q trial step inputs
    (λ _. All-weaker P (λ it. Q (complement it)) (λ it h. same_width test it.signal.0 _ _ (length-map it.value not_bit) h) inputs all)
    (All-weaker P (λ it. Q (drawn_setting trial step it)) (λ it h. same_width test it.signal.0 _ _ (length-tabulate (length it.value) _) h) inputs all)
    (All-weaker P (λ it. Q (zero_setting it)) (λ it h. same_width test it.signal.0 _ _ (length-replicate (length it.value) Zero) h) inputs all)

-- ---- x and z

each : (P : Input → Type 0) → ((it : Input) → P it) → (inputs : List Input) → All P inputs
each P holds inputs = λ k d within. holds (slice_index_or inputs k d)

pub step_known : (trial step : ℕ) (inputs : List Input) → (trial < 32 → All (λ it. has_unknown it.value ≡ false) inputs) → AreSettingsKnown (step_of trial step inputs)
step_known trial step inputs known =
    let P = λ (it : Input). has_unknown it.value ≡ false in
    let Q = λ (setting : Setting). has_unknown setting.value ≡ false in
    step_holds Q trial step inputs
    (λ early. All-weaker P (λ it. Q (complement it)) (λ it h. known_complement it.value h) inputs (known early))
    (each (λ it. Q (drawn_setting trial step it)) (λ it. known_bits (length it.value) (drawn trial step it.path)) inputs)
    (each (λ it. Q (zero_setting it)) (λ it. known_copies (length it.value) Zero refl) inputs)

-- ---- as the code keeps them

pub made_meets : {E : Type 0} (trial step : ℕ) (inputs : List Kept) (result : Result (Vec Setting Global) E) → IfOk result (λ settings. settings.items ≡ step_of trial step (map input inputs)) → IfOk result (λ settings. (test : ℕ → ℕ → Bool) → InputsMeet test inputs → SettingsMeet test settings.items)
made_meets trial step inputs (Ok settings) e =
    λ test all. All-same (λ (setting : Setting). test setting.signal.0 (length setting.value) ≡ true) _ _ e
    (step_meets trial step (map input inputs) test (All-map (λ (it : Input). test it.signal.0 (length it.value) ≡ true) input inputs all))
made_meets trial step inputs (Err error) e = tt

pub made_known : {E : Type 0} (trial step : ℕ) (inputs : List Kept) (result : Result (Vec Setting Global) E) → IfOk result (λ settings. settings.items ≡ step_of trial step (map input inputs)) → IfOk result (λ settings. (trial < 32 → AreInputsKnown inputs) → AreSettingsKnown settings.items)
made_known trial step inputs (Ok settings) e =
    λ known. All-same (λ (setting : Setting). has_unknown setting.value ≡ false) _ _ e
    (step_known trial step (map input inputs) (λ early. All-map (λ (it : Input). has_unknown it.value ≡ false) input inputs (known early)))
made_known trial step inputs (Err error) e = tt
