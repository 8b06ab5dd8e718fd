-- Whether a signal is the gate of a process is decided by the list of gates.
use Rattle.std.proofs.Common.{◌≡◌, ◌∙◌, ℕ, zero, suc, ◌==◌, ◌&&◌, ◌||◌, Bool, true, false, if◌then◌else◌, List, [], ◌∷◌, ◌++◌, append-nil, Option, None, Some, refl, sym, ap, subst, inl, inr}
use Rattle.std.specs.Prelude.{◌↔◌}
use Rattle.std.specs.List.{filter_map, list_any, slice_get}
use Rattle.std.proofs.lemmas.Bool.{and_from, and_parts, both_ways, cases_Bool, eq-eqb, eqb-true, false_from_ne_true, false≢true, or_cases, or_left, or_right}
use Rattle.std.proofs.lemmas.List.Elements.{filter_map-append}
use Rattle.std.proofs.lemmas.Option.{none-some, same_Some}
use Rattle.text_ground.specs.declared.text.Spot.{Spot}
use Rattle.rtl_flat.specs.Flats.{Flat}
use Rattle.rtl_rule.proofs.Below.{same_by}
use Rattle.rtl_rule.specs.Parts.{spot_if}
use Rattle.net_model.specs.Gates.{Gate, IsGateOf}
use Rattle.check_gates.specs.Admitted.{AreGates}
use Rattle.check_clocks.specs.declared.uses.Use.{Use}
use Rattle.check_clocks.specs.Uses.{is_gate_in, places_of, ungated}

-- an entry of the list that passes
found_in : (gates : List (ℕ × Gate)) (p s : ℕ) → is_gate_in gates p s ≡ true → (n : ℕ) × (gate : Gate) × (slice_get gates n ≡ Some (p, gate)) × (gate.signal ≡ s)
found_in [] p s h = absurd (false≢true h)
found_in ((q, gate) ∷ gates) p s h = elim (or_cases ((q == p) && (gate.signal == s)) (is_gate_in gates p s) h) [
  | inl here ↦
      let (process, signal) = and_parts (q == p) (gate.signal == s) here in
      (0, gate, ap (λ k. Some (k, gate)) (eqb-true q p process), eqb-true gate.signal s signal)
  | inr later ↦ let (n, one, there, is) = found_in gates p s later in (suc n, one, there, is)
]

in_found : (gates : List (ℕ × Gate)) (p s n : ℕ) (gate : Gate) → slice_get gates n ≡ Some (p, gate) → gate.signal ≡ s → is_gate_in gates p s ≡ true
in_found [] p s n gate there is = absurd (none-some _ there)
in_found ((q, one) ∷ gates) p s zero gate there is =
    let same = same_Some (q, one) (p, gate) there in
    let process : q ≡ p = ap (λ (x : ℕ × Gate). x.0) same in
    let signal : one.signal ≡ s = ap (λ (x : ℕ × Gate). x.1.signal) same ∙ is in
    or_left ((q == p) && (one.signal == s)) (is_gate_in gates p s) (and_from (q == p) (one.signal == s) (eq-eqb q p process) (eq-eqb one.signal s signal))
in_found ((q, one) ∷ gates) p s (suc n) gate there is =
    or_right ((q == p) && (one.signal == s)) (is_gate_in gates p s) (in_found gates p s n gate there is)

module _ (d : Flat) (gates : List (ℕ × Gate)) (are : AreGates d gates) where
  pub gate_in : (p s : ℕ) → is_gate_in gates p s ≡ true ↔ IsGateOf d p s
  gate_in p s = (
    λ h. let (n, gate, there, is) = found_in gates p s h in record { gate = gate; admitted = (are.each p gate).1 (n, there); same = is },
    λ gate. let (n, there) = (are.each p gate.gate).0 gate.admitted in in_found gates p s n gate.gate there gate.same,
  )

  -- the answer for one signal
  pub same_gate : (p s : ℕ) (b : Bool) → b ≡ true ↔ IsGateOf d p s → b ≡ is_gate_in gates p s
  same_gate p s b is =
      same_by b (is_gate_in gates p s) (λ h. (gate_in p s).1 (is.0 h)) (λ h. is.1 ((gate_in p s).0 h))

-- ---- one use more

module _ (gates : List (ℕ × Gate)) (p : ℕ) where
  pub none_of : (s : ℕ) → ungated gates p s [] ≡ []
  none_of s = by_gate (is_gate_in gates p s)
    where
      by_gate : (b : Bool) → (if b then [] else places_of s []) ≡ []
      by_gate true = refl
      by_gate false = refl

  places_more : (s : ℕ) (uses : List Use) (one : Use) → places_of s (uses ++ one ∷ []) ≡ places_of s uses ++ places_of s (one ∷ [])
  places_more s uses one =
      filter_map-append (λ (x : Use). spot_if (x.signal.0 == s) x.spot) uses (one ∷ [])

  -- a use of another signal has no place
  no_place : (s : ℕ) (one : Use) → (one.signal.0 == s) ≡ false → places_of s (one ∷ []) ≡ []
  no_place s one other = ap (λ b. filter_map (λ (x : Use). spot_if b x.spot) (one ∷ [])) other

  other_signal : (s : ℕ) (one : Use) (b : Bool) → is_gate_in gates p s ≡ b → (is_gate_in gates p one.signal.0 ≡ b → ⊥) → (one.signal.0 == s) ≡ false
  other_signal s one b is apart =
      false_from_ne_true (one.signal.0 == s) (λ h. apart (ap (is_gate_in gates p) (eqb-true one.signal.0 s h) ∙ is))

  -- a use of the gate
  pub left_out : (uses others : List Use) (one : Use) → is_gate_in gates p one.signal.0 ≡ true → ((s : ℕ) → places_of s others ≡ ungated gates p s uses) → (s : ℕ) → places_of s others ≡ ungated gates p s (uses ++ one ∷ [])
  left_out uses others one gate before s = before s ∙ by_gate (is_gate_in gates p s) refl
    where
      by_gate : (b : Bool) → is_gate_in gates p s ≡ b → (if b then [] else places_of s uses) ≡ (if b then [] else places_of s (uses ++ one ∷ []))
      by_gate true is = refl
      by_gate false is =
          sym (places_more s uses one ∙ ap (λ l. places_of s uses ++ l) (no_place s one (other_signal s one false is (λ h. false≢true (sym h ∙ gate)))) ∙ append-nil (places_of s uses))

  -- a use of another signal
  pub put_in : (uses others more : List Use) (one : Use) → is_gate_in gates p one.signal.0 ≡ false → more ≡ others ++ one ∷ [] → ((s : ℕ) → places_of s others ≡ ungated gates p s uses) → (s : ℕ) → places_of s more ≡ ungated gates p s (uses ++ one ∷ [])
  put_in uses others more one no_gate is before s =
      ap (places_of s) is ∙ places_more s others one ∙ ap (λ l. l ++ places_of s (one ∷ [])) (before s) ∙ by_gate (is_gate_in gates p s) refl
    where
      by_gate : (b : Bool) → is_gate_in gates p s ≡ b → (if b then [] else places_of s uses) ++ places_of s (one ∷ []) ≡ (if b then [] else places_of s (uses ++ one ∷ []))
      by_gate true gate = no_place s one (other_signal s one true gate (λ h. false≢true (sym no_gate ∙ h)))
      by_gate false other = sym (places_more s uses one)
