use Rattle.std.proofs.Common.{◌≡◌, Bool, true, false, not, refl}
use Rattle.std.proofs.Math.Logic.{∥∥₁_elim}
use Rattle.std.proofs.Props.{props}
use Rattle.std.proofs.lemmas.Bool.{false≢true}
use Rattle.netlist_eval.proofs.sim.NetSim.sets_data.Goals as goal

not_true : (b : Bool) → not b ≡ true → b ≡ true → ⊥
not_true true h h' = false≢true h
not_true false h h' = false≢true h'

true_not : (b : Bool) → (b ≡ true → ⊥) → not b ≡ true
true_not true h = absurd (h refl)
true_not false h = refl

pub returns-then-fits : goal.returns-then-fits
returns-then-fits c = (
  λ h.
      let fit = c.if-fits.ensures.0 refl in
      record {
        data_input = record { input = fit.input; no_control = λ is. not_true c.is_control.result h (c.is_control.ensures.1 ∣ is ∣₁) };
        can_be = record { wide = fit.wide; known = fit.known };
      },
  λ sets. true_not c.is_control.result (λ t. ∥∥₁_elim (c.is_control.ensures.0 t) (hlevel props) (λ is. sets.data_input.no_control is)),
)
