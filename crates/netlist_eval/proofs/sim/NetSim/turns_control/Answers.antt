use Rattle.std.proofs.Common.{◌≡◌, ◌∙◌, Bool, true, false, not, refl, sym}
use Rattle.std.proofs.Math.Logic.{∥∥₁_elim}
use Rattle.std.proofs.Props.{props}
use Rattle.std.proofs.lemmas.Bool.{false≢true}
use Rattle.net_turn.specs.net_settle.Settle.{SetsInput, setting_view}
use Rattle.net_model.proofs.Gates.{control_input}
use Rattle.net_model.specs.Gates.{IsControl}
use Rattle.netlist_eval.specs.Sims.{flat_of}
use Rattle.netlist_eval.proofs.sim.NetSim.turns_control.Goals as goal
use Rattle.netlist_eval.proofs.sim.NetSim.turns_control.Goals.{then-fits, else-fits}

not_true : (b : Bool) → not b ≡ true → b ≡ true → ⊥
not_true true h h' = false≢true h
not_true false h h' = false≢true h'

true_not : (b : Bool) → (b ≡ true → ⊥) → not b ≡ true
true_not true h = absurd (h refl)
true_not false h = refl

pub returns-then-is_control : goal.returns-then-is_control
returns-then-is_control c =
    let facts : SetsInput (flat_of c.args.self.now) (setting_view c.args.setting.now) × ∥ IsControl (flat_of c.args.self.now) c.args.setting.now.signal.0 ∥₁ =
    elim c.if-fits.branch [
      | then-fits w ↦ (c.fits.ensures.0 w.if-fits.true, w.is_control.ensures.0 (sym w.value-is ∙ c.if-is_control.true))
      | else-fits w ↦ absurd (false≢true (sym w.if-fits.false ∙ (sym w.value-is ∙ c.if-is_control.true)))
    ] in (
      λ h. ∥∥₁_elim facts.1 (hlevel props)
          (λ is. ∣ record {
            control = is;
            can_be = record { wide = facts.0.wide; known = facts.0.known };
            other = λ same. not_true c.is_same.result h (c.is_same.ensures.1 (c.value.ensures.number ∙ sym same));
          } ∣₁),
      λ turns. true_not c.is_same.result
          (λ same. ∥∥₁_elim turns (hlevel props) (λ t. t.other (sym (c.is_same.ensures.0 same) ∙ c.value.ensures.number))),
    )

pub returns-else-is_control : goal.returns-else-is_control
returns-else-is_control c = (
  λ h. absurd (false≢true (sym c.if-is_control.false ∙ h)),
  λ turns. ∥∥₁_elim turns (hlevel props)
      (λ t.
      elim c.if-fits.branch [
        | then-fits w ↦ w.value-is ∙ w.is_control.ensures.1 ∣ t.control ∣₁
        | else-fits w ↦
            absurd (false≢true (sym w.if-fits.false ∙ c.fits.ensures.1 (record { input = control_input (flat_of c.args.self.now) c.args.setting.now.signal.0 t.control; wide = t.can_be.wide; known = t.can_be.known })))
      ]),
)
