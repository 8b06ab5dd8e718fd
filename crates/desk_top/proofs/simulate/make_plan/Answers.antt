use Rattle.std.proofs.Common.{◌≡◌, Err, Ok, ℕ, Result, subst, sym}
use Rattle.rtl_flat.specs.Flats.{flat_in}
use Rattle.desk_steps.specs.declared.file.StepsFault.{StepsFault}
use Rattle.desk_steps.specs.Files.{IsTold}
use Rattle.desk_steps.specs.Steps.{Steps, file_of}
use Rattle.desk_top.specs.declared.simulate.Plan.TheVariants.{Told}
use Rattle.desk_top.specs.Outcome.{IsRun, names_in}
use Rattle.desk_top.specs.Plans.{IsPlan}
use Rattle.desk_top.proofs.simulate.make_plan.Goals as goal

pub returns-in-Err-Malformed-clause-plan : goal.returns-in-Err-Malformed-clause-plan
returns-in-Err-Malformed-clause-plan c =
    let answer = file_of (names_in (flat_in c.args.design)) c.args.text.now in
    let told : answer ≡ Err c.in-Err-Malformed.number = subst (λ (fault : StepsFault). IsTold fault answer) c.in-Err-Malformed.field-0-is c.in-Err-Malformed.ensures.malformed in
    subst (λ (r : Result Steps ℕ). IsPlan (IsRun (flat_in c.args.design) r) (Ok (Told c.in_ok-malformed-in-Err-Malformed.field-0))) (sym told) c.in_ok-malformed-in-Err-Malformed.ensures
