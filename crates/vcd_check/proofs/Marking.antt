-- Marks at some signals.
use Rattle.std.proofs.Common.{◌≡◌, ◌∙◌, ◌<◌, ℕ, Bool, true, false, List, length, get_or, replicate, ap, subst, sym, inl, inr}
use Rattle.std.specs.Prelude.{◌⊎◌, ◌↔◌}
use Rattle.std.proofs.lemmas.Bool.{false≢true}
use Rattle.netlist_eval.specs.check_gates.Tops.{AreMarkedAlso}
use Rattle.netlist_eval.specs.net_start.rtl_scan.Arrows.{Among}
use Rattle.netlist_eval.proofs.check_gates_proofs.Reached.{none_marked}
use Rattle.vcd_check.specs.Checks.{AreMarks}

module _ (n : ℕ) (signals : List ℕ) (old marks : List Bool) (none : old ≡ replicate n false) (size : length old ≡ n) (marked : AreMarkedAlso signals old marks) where
  from : (i : ℕ) → (get_or old i false ≡ true) ⊎ ((i < length old) × Among signals i) → (i < n) × Among signals i
  from i (inl h) =
      absurd (false≢true (sym (none_marked n i) ∙ sym (ap (λ (l : List Bool). get_or l i false) none) ∙ h))
  from i (inr h) = (subst (λ (m : ℕ). i < m) size h.0, h.1)

  pub are_marks : AreMarks n signals marks
  are_marks = record {
    count = marked.size ∙ size;
    each = λ i. (λ h. from i ((marked.each i).0 h), λ h. (marked.each i).1 (inr (subst (λ (m : ℕ). i < m) (sym size) h.0, h.1)));
  }
