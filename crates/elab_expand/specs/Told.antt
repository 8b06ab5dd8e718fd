-- It serves inner contracts and proofs; no answer of the program is stated by it.
-- What the code keeps of what is told.
use Rattle.elab_scope.specs.Faults.{Breach, Const, Genvar, Refusal, TooLarge, TooManyTurns}
use Rattle.elab_expand.specs.declared.told.Reason.{Reason}
use Rattle.elab_expand.specs.declared.told.Reason.TheVariants as reason
use Rattle.elab_expand.specs.declared.told.Told.{Told}

abbrev pub breach_of : Reason → Breach
breach_of (reason.Genvar name) = Genvar name
breach_of reason.TooManyTurns = TooManyTurns
breach_of (reason.Const fault) = Const fault
breach_of reason.TooLarge = TooLarge

abbrev pub refusal_of : Told → Refusal
refusal_of told = record { at = told.at; breach = breach_of told.reason }
