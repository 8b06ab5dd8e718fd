-- Clocks and resets as marks.
use Rattle.std.proofs.Common.{◌≡◌, ◌∙◌, ℕ, zero, suc, ◌<◌, Bool, true, false, List, [], ◌∷◌, length, get_or, replicate, sym, ap, subst, inl, inr, arith}
use Rattle.std.specs.Prelude.{◌⊎◌, ◌↔◌}
use Rattle.std.specs.List.{slice_get}
use Rattle.std.proofs.lemmas.Bool.{both_ways, false≢true}
use Rattle.rtl_flat.specs.declared.design.Design.{Design}
use Rattle.rtl_flat.specs.declared.signal.Signal.{Signal}
use Rattle.event_model.specs.Queue.{is_input_of}
use Rattle.rtl_flat.specs.Flats.{flat}
use Rattle.net_model.specs.Gates.{IsControl}
use Rattle.net_model.proofs.Gates.{control_input}
use Rattle.net_start.specs.rtl_scan.Arrows.{Among}
use Rattle.infer_regs.specs.check_gates.Tops.{AreMarkedAlso}
use Rattle.infer_regs.proofs.check_gates_proofs.Reached.{none_marked}
use Rattle.infer_regs.specs.Forms.{AreControls}

pub input_below : (signals : List Signal) (c : ℕ) → is_input_of (slice_get signals c) ≡ true → c < length signals
input_below [] c h = absurd (false≢true h)
input_below (s ∷ signals) zero h = omega arith
input_below (s ∷ signals) (suc c) h = let below = input_below signals c h in omega (arith, below)

module _ (design : Design) (old marks : List Bool) (found : List ℕ) (none : old ≡ replicate (length design.signals.items) false) (size : length old ≡ length design.signals.items) (are : AreControls (flat design) found) (marked : AreMarkedAlso found old marks) where
  control : (s : ℕ) → IsControl (flat design) s → get_or marks s false ≡ true
  control s is =
      (marked.each s).1 (inr (subst (λ n. s < n) (sym size) (input_below design.signals.items s (control_input (flat design) s is)), (are.each s).1 is))

  from : (s : ℕ) → (get_or old s false ≡ true) ⊎ ((s < length old) × Among found s) → IsControl (flat design) s
  from s (inl h) =
      absurd (both_ways (get_or old s false) (ap (λ l. get_or l s false) none ∙ none_marked (length design.signals.items) s) h)
  from s (inr h) = (are.each s).0 h.1

  pub are_marked : (s : ℕ) → get_or marks s false ≡ true ↔ IsControl (flat design) s
  are_marked s = (λ h. from s ((marked.each s).0 h), control s)
