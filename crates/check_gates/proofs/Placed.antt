-- The gates of a process among gates in order.
use Rattle.std.proofs.Common.{◌≡◌, ◌∙◌, ℕ, zero, suc, ◌+◌, ◌<◌, ◌≤◌, List, [], ◌∷◌, length, Some, sym, ap, subst, inl, inr, arith}
use Rattle.std.specs.Prelude.{◌⊎◌}
use Rattle.std.specs.List.{slice_get}
use Rattle.std.proofs.lemmas.Bool.{cases_eq}
use Rattle.std.proofs.lemmas.Option.{none-some, same_Some, slice_get_within}
use Rattle.rtl_flat.specs.Flats.{Flat}
use Rattle.net_model.specs.Gates.{Gate, IsGateOf}
use Rattle.check_gates.specs.Admitted.{AreGates, AreInOrder, IsBefore, gate_of, gates_of}
use Rattle.check_gates.specs.Latches.{IsPlaceOf}
use Rattle.check_gates.specs.declared.gate.Gate as declared
use Rattle.check_gates.proofs.Latched.{all_in, in_map}
use Rattle.check_gates.proofs.Marking.{admitted_in, in_admitted}

-- processes don't fall
pub order_at : (gates : List declared.Gate) → AreInOrder (gates_of gates) → (m n : ℕ) (x y : declared.Gate) → slice_get gates m ≡ Some x → slice_get gates n ≡ Some y → m ≤ n → x.process.0 ≤ y.process.0
order_at [] order m n x y at under below = absurd (none-some _ at)
order_at (g ∷ gates) order zero zero x y at under below =
    let same : x ≡ y = same_Some x y (sym at ∙ under) in
    let its = ap (λ (v : declared.Gate). v.process.0) same in
    omega (arith, its)
order_at (g ∷ gates) order zero (suc n) x y at under below =
    let same : g ≡ x = same_Some g x at in
    let its = ap (λ (v : declared.Gate). v.process.0) same in
    by its (all_in (IsBefore (gate_of g)) (gates_of gates) order.0 (gate_of y) (in_map gate_of gates y (n, under)))
  where
    by : g.process.0 ≡ x.process.0 → IsBefore (gate_of g) (gate_of y) → x.process.0 ≤ y.process.0
    by its (inl less) = omega (arith, its, less)
    by its (inr (equal, less)) = omega (arith, its, equal)
order_at (g ∷ gates) order (suc m) zero x y at under below = absurd (omega (arith, below))
order_at (g ∷ gates) order (suc m) (suc n) x y at under below =
    order_at gates order.1 m n x y at under (omega (arith, below))

-- places below one have lesser processes, those from another on have none that is less
abbrev pub IsBetween : List declared.Gate → ℕ → ℕ → ℕ → Type 0
IsBetween gates process low high =
    (n : ℕ) (gate : declared.Gate) → slice_get gates n ≡ Some gate →
    ((n < low → gate.process.0 < process) × (high ≤ n → process ≤ gate.process.0))

pub between_all : (gates : List declared.Gate) (process high : ℕ) → high ≡ length gates → IsBetween gates process 0 high
between_all gates process high all n gate at =
    let inside = slice_get_within gates n gate at in
    (λ h. absurd (omega (arith, h)), λ h. absurd (omega (arith, h, all, inside)))

module _ (gates : List declared.Gate) (order : AreInOrder (gates_of gates)) (process low high middle : ℕ) (x : declared.Gate) (at : slice_get gates middle ≡ Some x) (between : IsBetween gates process low high) where
  pub between_above : x.process.0 < process → IsBetween gates process (middle + 1) high
  between_above less n gate under =
      (λ h. let most = order_at gates order n middle gate x under at (omega (arith, h)) in omega (arith, most, less), (between n gate under).1)

  pub between_below : process ≤ x.process.0 → IsBetween gates process low middle
  between_below more n gate under =
      ((between n gate under).0, λ h. let least = order_at gates order middle n x gate at under h in omega (arith, least, more))

-- ---- a signal among those of a process

abbrev pub IsPassed : List declared.Gate → ℕ → ℕ → ℕ → Type 0
IsPassed gates process signal place =
    (n : ℕ) (gate : declared.Gate) → slice_get gates n ≡ Some gate → n < place → gate.process.0 ≡ process → gate.signal.0 ≡ signal → ⊥

pub passed_none : (gates : List declared.Gate) (process signal place : ℕ) → IsPlaceOf gates process place → IsPassed gates process signal place
passed_none gates process signal place is n gate at below same its =
    let less = (is n gate at).0 below in omega (arith, less, same)

pub passed_next : (gates : List declared.Gate) (process signal place : ℕ) (x : declared.Gate) → slice_get gates place ≡ Some x → (x.signal.0 ≡ signal → ⊥) → IsPassed gates process signal place → IsPassed gates process signal (place + 1)
passed_next gates process signal place x here other before n gate at below same its =
    elim (cases_eq n place) [
      | inl last ↦
          let is : gate ≡ x = same_Some gate x (sym at ∙ ap (slice_get gates) last ∙ here) in
          other (ap (λ (v : declared.Gate). v.signal.0) (sym is) ∙ its)
      | inr apart ↦ before n gate at (omega (arith, below, apart)) same its
    ]

module _ (d : Flat) (gates : List declared.Gate) (are : AreGates d (gates_of gates)) (process signal : ℕ) where
  pub gate_here : (place : ℕ) (x : declared.Gate) → slice_get gates place ≡ Some x → x.process.0 ≡ process → x.signal.0 ≡ signal → IsGateOf d process signal
  gate_here place x at same its =
      subst (λ p. IsGateOf d p signal) same (record { gate = (gate_of x).1; admitted = admitted_in d gates are x (place, at); same = its })

  gate_at : IsGateOf d process signal → (n : ℕ) × (x : declared.Gate) × (slice_get gates n ≡ Some x) × (x.process.0 ≡ process) × (x.signal.0 ≡ signal)
  gate_at is =
      let (x, (n, at), same) = in_admitted d gates are process is.gate is.admitted in
      (n, x, at, ap (λ (v : ℕ × Gate). v.0) same, ap (λ (v : ℕ × Gate). v.1.signal) same ∙ is.same)

  -- past the last place
  pub no_gate_end : (place : ℕ) → length gates ≤ place → IsPassed gates process signal place → IsGateOf d process signal → ⊥
  no_gate_end place past before is =
      let (n, x, at, same, its) = gate_at is in
      let inside = slice_get_within gates n x at in
      before n x at (omega (arith, inside, past)) same its

  -- past the last of the process
  pub no_gate_past : (start place : ℕ) (x : declared.Gate) → IsPlaceOf gates process start → start ≤ place → slice_get gates place ≡ Some x → (x.process.0 ≡ process → ⊥) → IsPassed gates process signal place → IsGateOf d process signal → ⊥
  no_gate_past start place x first least here other before is =
      let (n, y, at, same, its) = gate_at is in
      by n y at same its (cases_lt n place)
    where
      cases_lt : (m n : ℕ) → (m < n) ⊎ (n ≤ m)
      cases_lt zero zero = inr (omega arith)
      cases_lt zero (suc n) = inl (omega arith)
      cases_lt (suc m) zero = inr (omega arith)
      cases_lt (suc m) (suc n) = elim (cases_lt m n) [
        | inl less ↦ inl (omega (arith, less))
        | inr most ↦ inr (omega (arith, most))
      ]

      by : (n : ℕ) (y : declared.Gate) → slice_get gates n ≡ Some y → y.process.0 ≡ process → y.signal.0 ≡ signal → (n < place) ⊎ (place ≤ n) → ⊥
      by n y at same its (inl less) = before n y at less same its
      by n y at same its (inr most) =
          let rise = order_at gates are.in_order place n x y here at most in
          let floor = (first place x here).1 least in
          other (omega (arith, rise, floor, same))
