use Rattle.elab_body.specs.elab_scope.declared.rules.Writer.TheVariants.{Procedural}
use Rattle.elab_laws.proofs.Assignments.{assignment}
use Rattle.elab_laws.proofs.law.procedural.Goals as goal

pub returns : goal.returns
returns c = λ file base scope signals d target value h none.
    assignment file base scope signals d Procedural target value h none
