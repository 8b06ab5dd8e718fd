-- What the survey has to do fits together, and can be done to the end.
use Rattle.std.proofs.Common.{◌≡◌, true, List, [], ◌∷◌, ◌++◌, Option, Some, None, refl, ap, subst, ◌∙◌}
use Rattle.rtl_tree.specs.declared.symbol.Symbol.{Symbol}
use Rattle.text_survey.specs.declared.task.Task.{Task}
use Rattle.text_survey.specs.Table.{Step}
use Rattle.text_survey.specs.Rule.{rule}
use Rattle.text_survey.specs.Machine.{at, Leads}
use Rattle.text_survey.proofs.Laws.Steps.{stays, trans}
use Rattle.text_survey.proofs.Rows.{row, lead, first_of, fits, fit, put, ending, first_at, and_left, and_right, and_true}
use Rattle.text_survey.proofs.Keeps.{Keeps, keeps}
use Rattle.text_survey.proofs.Runs.{runs}

-- tasks that fit are done to the end by their shortest text
pub finishes : (tasks : List Task) → fit tasks None ≡ true → Leads (at tasks (ending tasks)) (at [] [])
finishes [] h = stays (at [] [])
finishes (t ∷ tasks) h =
    let here = and_left (fits t (first_of tasks None)) (fit tasks None) h in
    let done = runs t (ending tasks) (ap (fits t) (first_at tasks) ∙ here) in
    trans (at (t ∷ tasks) (put (row t) (ending tasks))) (at tasks (ending tasks)) (at [] []) (done.runs tasks)
    (finishes tasks (and_right (fits t (first_of tasks None)) (fit tasks None) h))

first_append : (tasks others : List Task) (next : Option Symbol) → first_of (tasks ++ others) next ≡ first_of tasks (first_of others next)
first_append [] others next = refl
first_append (t ∷ tasks) others next = ap (lead (row t)) (first_append tasks others next)

fit_append : (tasks others : List Task) (next : Option Symbol) → fit tasks (first_of others next) ≡ true → fit others next ≡ true → fit (tasks ++ others) next ≡ true
fit_append [] others next h g = g
fit_append (t ∷ tasks) others next h g =
    let follows = first_of tasks (first_of others next) in
    and_true (fits t (first_of (tasks ++ others) next)) (fit (tasks ++ others) next)
    (ap (fits t) (first_append tasks others next) ∙ and_left (fits t follows) (fit tasks (first_of others next)) h)
    (fit_append tasks others next (and_right (fits t follows) (fit tasks (first_of others next)) h) g)

-- every step leaves tasks that fit
pub stays_fit : (t : Task) (tasks : List Task) (o : Option Symbol) (step : Step) → fit (t ∷ tasks) None ≡ true → rule t o ≡ Some step → fit (step.tasks ++ tasks) None ≡ true
stays_fit t tasks o step h e =
    fit_append step.tasks tasks None
    (subst (λ r. Keeps r (first_of tasks None)) e (keeps t o (first_of tasks None) (and_left (fits t (first_of tasks None)) (fit tasks None) h)))
    (and_right (fits t (first_of tasks None)) (fit tasks None) h)
