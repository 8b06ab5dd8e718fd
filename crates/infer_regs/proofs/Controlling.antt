-- The top inputs that are clocks, resets or gates, one after another.
use Rattle.std.proofs.Common.{◌≡◌, ◌∙◌, ◌<◌, ◌≤◌, ◌+◌, ℕ, zero, suc, Bool, true, false, List, [], ◌∷◌, ◌++◌, length, get_or, refl, sym, ap, subst, inl, inr, arith}
use Rattle.std.specs.Prelude.{◌⊎◌, ◌↔◌, Vec}
use Rattle.std.specs.List.{AllByRecursion, slice_get}
use Rattle.std.specs.declared.alloc.Global.{Global}
use Rattle.std.proofs.lemmas.Bool.{both_ways, cases_eq, false≢true, or_cases, or_left, or_right}
use Rattle.event_model.specs.Queue.{is_input_of}
use Rattle.net_model.specs.Gates.{IsControl, IsGateInput}
use Rattle.net_model.proofs.Gates.{clock_control, control_input}
use Rattle.rtl_flat.specs.Flats.{Flat}
use Rattle.net_list.specs.rtl_scan.Arrows.{Among, AreRising}
use Rattle.net_list.specs.check_gates.declared.reach.Link.{Link}
use Rattle.net_list.specs.check_clocks.Cone.{ReachesControl}
use Rattle.net_list.specs.check_gates.Waits.{AreEdgeMarks}
use Rattle.net_list.specs.check_gates.Passed.{ArePassing}
use Rattle.net_list.specs.check_gates.Links.{AreRows}
use Rattle.net_list.specs.check_gates.Reach.{Reaches}
use Rattle.net_list.proofs.check_gates_proofs.Waiting.{input_below, reached_below, reached_from, reached_to}
use Rattle.net_list.proofs.check_gates_proofs.Reached.{among_cases, among_left, among_right}
use Rattle.infer_regs.specs.Forms.{AreControls}

-- ---- numbers that rise

rising_push : (xs : List ℕ) (n : ℕ) → AreRising xs → ((s : ℕ) → Among xs s → s < n) → AreRising (xs ++ n ∷ [])
rising_push [] n h below = (tt, tt)
rising_push (x ∷ xs) n (first, rest) below =
    (all_push xs first, rising_push xs n rest (λ s among. below s (inr among)))
  where
    all_push : (ys : List ℕ) → AllByRecursion (λ other. x < other) ys → AllByRecursion (λ other. x < other) (ys ++ n ∷ [])
    all_push [] h = (below x (inl refl), tt)
    all_push (y ∷ ys) h = (h.0, all_push ys h.1)

-- ---- controls

-- those below a number
pub record AreBelow (d : Flat) (n : ℕ) (found : List ℕ) : Type 0 where
  pub rising : AreRising found
  pub each : (s : ℕ) → Among found s ↔ ((s < n) × IsControl d s)

module _ (d : Flat) where
  pub none_below : (found : List ℕ) → found ≡ [] → AreBelow d 0 found
  none_below found none =
      subst (AreBelow d 0) (sym none) (record { rising = tt; each = λ s. (λ h. absurd h, λ h. absurd (omega (arith, h.0))) })

  pub pass_one : (n : ℕ) (found : List ℕ) → AreBelow d n found → (IsControl d n → ⊥) → AreBelow d (n + 1) found
  pass_one n found are other =
      record { rising = are.rising; each = λ s. (λ h. let (below, is) = (are.each s).0 h in (omega (arith, below), is), λ h. back s h.0 h.1) }
    where
      back : (s : ℕ) → s < n + 1 → IsControl d s → Among found s
      back s below is = elim (cases_eq s n) [
        | inl same ↦ absurd (other (subst (IsControl d) same is))
        | inr apart ↦ (are.each s).1 (omega (arith, below, apart), is)
      ]

  pub push_one : (n : ℕ) (found new : List ℕ) → AreBelow d n found → IsControl d n → new ≡ found ++ n ∷ [] → AreBelow d (n + 1) new
  push_one n found new are here added =
      subst (AreBelow d (n + 1)) (sym added) (record {
        rising = rising_push found n are.rising (λ s among. ((are.each s).0 among).0);
        each = λ s. (λ h. to s (among_cases found (n ∷ []) s h), λ h. back s h.0 h.1);
      })
    where
      to : (s : ℕ) → Among found s ⊎ Among (n ∷ []) s → (s < n + 1) × IsControl d s
      to s (inl h) = let (below, is) = (are.each s).0 h in (omega (arith, below), is)
      to s (inr (inl same)) = (omega (arith, same), subst (IsControl d) (sym same) here)
      to s (inr (inr none)) = absurd none

      back : (s : ℕ) → s < n + 1 → IsControl d s → Among (found ++ n ∷ []) s
      back s below is = elim (cases_eq s n) [
        | inl same ↦ among_right found (n ∷ []) s (inl same)
        | inr apart ↦ among_left found (n ∷ []) s ((are.each s).1 (omega (arith, below, apart), is))
      ]

  pub all_controls : (n : ℕ) (found : List ℕ) → AreBelow d n found → length d.signals ≤ n → AreControls d found
  all_controls n found are past =
      record { rising = are.rising; each = λ s. (λ h. ((are.each s).0 h).1, λ is. let below = input_below d.signals s (control_input d s is) in (are.each s).1 (omega (arith, below, past), is)) }

  pub no_top : (n : ℕ) → is_input_of (slice_get d.signals n) ≡ false → IsControl d n → ⊥
  no_top n other is =
      both_ways (is_input_of (slice_get d.signals n)) other (control_input d n is)

  module _ (links : List Link) (rows : List (Vec ℕ Global)) (are : AreRows (length d.signals) links rows) (all : ArePassing d (length d.tasks) links) (edges : List Bool) (marked : AreEdgeMarks d edges) where
    pub control_is : (n : ℕ) (gate : Bool) → gate ≡ true ↔ IsGateInput d n → is_input_of (slice_get d.signals n) ≡ true → ReachesControl rows edges gate n → IsControl d n
    control_is n gate is_gate top (inl opens) = inr (is_gate.0 opens)
    control_is n gate is_gate top (inr it) =
        clock_control d n (record {
          input = top;
          signal = it.signal;
          reached = reached_from d links rows are all n it.signal it.reached;
          edges = ((marked.each it.signal).0 it.marked).1;
        })

    pub control_reaches : (n : ℕ) (gate : Bool) → gate ≡ true ↔ IsGateInput d n → IsControl d n → ReachesControl rows edges gate n
    control_reaches n gate is_gate (inr input) = inl (is_gate.1 input)
    control_reaches n gate is_gate (inl is) =
        let inside = input_below d.signals n is.input in
        inr (record {
          signal = is.signal;
          reached = reached_to d links rows are all n is.signal is.reached;
          marked = (marked.each is.signal).1 (reached_below d n is.signal inside is.reached, is.edges);
        })
