-- Which processes are latches with a gate from outside, and which signals their gates are, is decided by their list.
use Rattle.std.proofs.Common.{◌≡◌, ℕ, zero, suc, List, [], ◌∷◌, Some, refl, sym, subst, inl, inr}
use Rattle.std.specs.List.{slice_get}
use Rattle.std.proofs.lemmas.Bool.{cases_eq}
use Rattle.rtl_flat.specs.Flats.{Flat}
use Rattle.net_model.specs.Gates.{Gate, IsAdmitted, IsGateInput, IsGateOf}
use Rattle.check_assign.specs.check_gates.Admitted.{AreGates}
use Rattle.check_laws.specs.Designs.{LatchesDecided}
use Rattle.check_laws.proofs.Decisions.{Decided, both}

-- a row of a list that passes
record IsRow (P : ℕ → Gate → Type 0) (all : List (ℕ × Gate)) : Type 0 where
  place : ℕ
  process : ℕ
  gate : Gate
  there : slice_get all place ≡ Some (process, gate)
  passes : P process gate

module _ (P : ℕ → Gate → Type 0) (each : (p : ℕ) (gate : Gate) → Decided (P p gate)) where
  row_decided : (all : List (ℕ × Gate)) → Decided (IsRow P all)
  row_decided [] = inr (λ row. let e = row.there in absurd (cc))
  row_decided ((q, one) ∷ others) = by_row (each q one) (row_decided others)
    where
      later : IsRow P others → IsRow P ((q, one) ∷ others)
      later row =
          record { place = suc row.place; process = row.process; gate = row.gate; there = row.there; passes = row.passes }

      none : (P q one → ⊥) → (IsRow P others → ⊥) → (n p : ℕ) (gate : Gate) → slice_get ((q, one) ∷ others) n ≡ Some (p, gate) → P p gate → ⊥
      none here others' zero p gate e passes =
          let same : (q, one) ≡ (p, gate) = cc (e) in
          here (subst (λ (x : ℕ × Gate). P x.0 x.1) (sym same) passes)
      none here others' (suc n) p gate e passes =
          others' (record { place = n; process = p; gate = gate; there = e; passes = passes })

      by_row : Decided (P q one) → Decided (IsRow P others) → Decided (IsRow P ((q, one) ∷ others))
      by_row (inl here) others' =
          inl (record { place = 0; process = q; gate = one; there = refl; passes = here })
      by_row (inr here) (inl row) = inl (later row)
      by_row (inr here) (inr others') = inr (λ row. none here others' row.place row.process row.gate row.there row.passes)

  -- a latch that passes
  pub latch_decided : (d : Flat) (gates : List (ℕ × Gate)) → AreGates d gates → Decided ((p : ℕ) × (gate : Gate) × (IsAdmitted d p gate × P p gate))
  latch_decided d gates are = by_row (row_decided gates)
    where
      by_row : Decided (IsRow P gates) → Decided ((p : ℕ) × (gate : Gate) × (IsAdmitted d p gate × P p gate))
      by_row (inl row) =
          inl (row.process, row.gate, ((are.each row.process row.gate).1 (row.place, row.there), row.passes))
      by_row (inr none) =
          inr (λ it. let (p, gate, admitted) = it in
          let (n, there) = (are.each p gate).0 admitted.0 in
          none (record { place = n; process = p; gate = gate; there = there; passes = admitted.1 }))

pub latches_decided : (d : Flat) → LatchesDecided d
latches_decided d gates are p =
    elim (latch_decided (λ q gate. q ≡ p) (λ q gate. cases_eq q p) d gates are) [
      | inl it ↦ inl (let (q, gate, admitted) = it in (gate, subst (λ x. IsAdmitted d x gate) admitted.1 admitted.0))
      | inr none ↦ inr (λ gate admitted. none (p, gate, (admitted, refl)))
    ]

pub gate_of_decided : (d : Flat) (gates : List (ℕ × Gate)) → AreGates d gates → (p s : ℕ) → Decided (IsGateOf d p s)
gate_of_decided d gates are p s =
    elim (latch_decided (λ q gate. (q ≡ p) × (gate.signal ≡ s)) (λ q gate. both (q ≡ p) (gate.signal ≡ s) (cases_eq q p) (cases_eq gate.signal s)) d gates are) [
      | inl it ↦ inl (let (q, gate, admitted) = it in record {
        gate = gate;
        admitted = subst (λ x. IsAdmitted d x gate) admitted.1.0 admitted.0;
        same = admitted.1.1;
      })
      | inr none ↦ inr (λ it. none (p, it.gate, (it.admitted, (refl, it.same))))
    ]

pub gate_input_decided : (d : Flat) (gates : List (ℕ × Gate)) → AreGates d gates → (c : ℕ) → Decided (IsGateInput d c)
gate_input_decided d gates are c =
    elim (latch_decided (λ q gate. gate.input ≡ c) (λ q gate. cases_eq gate.input c) d gates are) [
      | inl it ↦ inl (let (q, gate, admitted) = it in record { process = q; gate = gate; admitted = admitted.0; same = admitted.1 })
      | inr none ↦ inr (λ it. none (it.process, it.gate, (it.admitted, it.same)))
    ]
