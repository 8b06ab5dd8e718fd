use Rattle.std.proofs.Common.{◌≡◌, ◌∙◌, ℕ, Bool, List, [], ◌∷◌, ◌++◌, length, map, Ok, Vec, sym, ap, subst, arith}
use Rattle.std.specs.declared.alloc.Global.{Global}
use Rattle.std.proofs.lemmas.List.{length-map, map-append}
use Rattle.rtl_flat.specs.Flats.{flat}
use Rattle.event_queue.specs.Sims.{state_of}
use Rattle.netlist_eval.specs.Sims.{shown}
use Rattle.demo_trials.specs.Trials.{step_count}
use Rattle.demo_replay.specs.declared.compare.Difference.{Difference}
use Rattle.demo_replay.specs.declared.run.Progress.{Progress}
use Rattle.demo_replay.specs.declared.run.Run.{Run}
use Rattle.demo_replay.specs.declared.setup.Setup.{Setup as Kept}
use Rattle.demo_replay.specs.Progress.{Goes, IsAt, count_of, design_of, moment_of, trial_of}
use Rattle.demo_replay.specs.Runs.{IsStuck, Reaches}
use Rattle.demo_replay.specs.Runs as runs
use Rattle.demo_replay.specs.Tables.{IsCourseOf, differences, plain}
use Rattle.demo_replay.proofs.Going.{reached}
use Rattle.demo_replay.proofs.Running.{few_steps}
use Rattle.demo_replay.proofs.Showing.{IsGoing}
use Rattle.demo_replay.proofs.course.course_of.Goals as goal

-- a list and one more, under a function of each
more_mapped : {A B C : Type 0} (f : A → C) (g : B → C) (xs : List A) (ys : List B) (x : A) (y : B) → map f xs ≡ map g ys → f x ≡ g y → map f (xs ++ x ∷ []) ≡ map g (ys ++ y ∷ [])
more_mapped f g xs ys x y same one =
    map-append f xs (x ∷ []) ∙ ap (λ l. l ++ f x ∷ []) same ∙ ap (λ z. map g ys ++ z ∷ []) one ∙ sym (map-append g ys (y ∷ []))

module _ (kept : Kept) (skipped : List Bool) (trial : ℕ) (run : Run) (steps : List (Vec Difference Global)) (going : IsGoing kept skipped trial run steps) where
  -- a step that comes to rest
  goes_on : (new : Run) (found : Vec Difference Global) → new.setup.now ≡ run.setup.now → trial_of new ≡ trial_of run → IsAt new (going.moments ++ moment_of new.sim new.net ∷ []) → found.items ≡ differences (length (design_of new).signals.items) skipped (moment_of new.sim new.net) → IsGoing kept skipped trial new (steps ++ found ∷ [])
  goes_on new found setup same at are =
      let now = moment_of new.sim new.net in
      let setup_is : new.setup.now ≡ kept = setup ∙ going.setup_is in
      record {
        setup_is = setup_is;
        trial_is = same ∙ going.trial_is;
        moments = going.moments ++ now ∷ [];
        at = at;
        are = more_mapped (λ (step : Vec Difference Global). step.items) (differences (length kept.design.now.signals.items) skipped) steps going.moments found now going.are
            (subst (λ (k : Kept). found.items ≡ differences (length k.design.now.signals.items) skipped now) setup_is are);
      }

  counted : length steps ≡ length going.moments
  counted =
      sym (length-map steps (λ (step : Vec Difference Global). step.items))
      ∙ ap length going.are
      ∙ length-map going.moments (differences (length kept.design.now.signals.items) skipped)

  -- the next step doesn't settle
  stopped : IsStuck (flat (design_of run)) (plain run.setup.now) (trial_of run) going.moments → IsCourseOf kept.design.now kept skipped trial steps
  stopped stuck =
      let by_trial : IsStuck (flat (design_of run)) (plain run.setup.now) trial going.moments = subst (λ (t : ℕ). IsStuck (flat (design_of run)) (plain run.setup.now) t going.moments) going.trial_is stuck in
      let here : IsStuck (flat kept.design.now) (plain kept) trial going.moments = subst (λ (k : Kept). IsStuck (flat k.design.now) (plain k) trial going.moments) going.setup_is by_trial in
      let few = few_steps trial (length (plain kept).tops) in
      let more = here.more in
      let count = counted in
      record {
        moments = going.moments;
        course = runs.Stopped here;
        are = going.are;
        few = omega (arith, few, more, count);
      }

  -- no step is left
  ended : length going.moments ≡ count_of run → IsCourseOf kept.design.now kept skipped trial steps
  ended all =
      let at = reached run.setup.now (trial_of run) run.taken run.sim run.net going.moments going.at in
      let by_trial : Reaches (flat (design_of run)) (plain run.setup.now) trial going.moments (state_of run.sim) (shown run.net) = subst (λ (t : ℕ). Reaches (flat (design_of run)) (plain run.setup.now) t going.moments (state_of run.sim) (shown run.net)) going.trial_is at in
      let here : Reaches (flat kept.design.now) (plain kept) trial going.moments (state_of run.sim) (shown run.net) = subst (λ (k : Kept). Reaches (flat k.design.now) (plain k) trial going.moments (state_of run.sim) (shown run.net)) going.setup_is by_trial in
      let whole : length going.moments ≡ step_count trial (length (plain kept).tops) = all ∙ ap (λ (t : ℕ). step_count t (length (plain run.setup.now).tops)) going.trial_is ∙ ap (λ (k : Kept). step_count trial (length (plain k).tops)) going.setup_is in
      let few = few_steps trial (length (plain kept).tops) in
      let count = counted in
      record {
        moments = going.moments;
        course = runs.Ended (state_of run.sim) (shown run.net) here whole;
        are = going.are;
        few = omega (arith, few, whole, count);
      }

pub differences-requires : goal.differences-requires
differences-requires c =
    let going = c.steps.invariant in
    let goes = subst (λ (p : Progress). Goes c.steps.run c.next.new.self (Ok p) going.moments) c.in-Rested.is (c.in_ok-next.ensures.goes going.moments going.at) in
    (going.moments ++ moment_of c.next.new.self.sim c.next.new.self.net ∷ [], goes.0)

pub steps-preserved : goal.steps-preserved
steps-preserved c =
    let kept = c.args.setup.now in
    let skipped = c.args.skipped.now in
    let trial = c.args.trial.number in
    let going = c.steps.invariant in
    let goes = subst (λ (p : Progress). Goes c.steps.run c.next.new.self (Ok p) going.moments) c.in-Rested.is (c.in_ok-next.ensures.goes going.moments going.at) in
    subst (λ (steps : List (Vec Difference Global)). IsGoing kept skipped trial c.next.new.self steps) (sym c.in_ok-push-in-Rested.ensures.items)
    (goes_on kept skipped trial c.steps.run c.steps.steps.items going c.next.new.self c.in_ok-differences-in-Rested.field-0 c.next.ensures.setup c.next.ensures.trial goes.0 c.in_ok-differences-in-Rested.ensures)

pub returns-in-Unsettled : goal.returns-in-Unsettled
returns-in-Unsettled c =
    let going = c.steps.invariant in
    stopped c.args.setup.now c.args.skipped.now c.args.trial.number c.steps.run c.steps.steps.items going
    (subst (λ (p : Progress). Goes c.steps.run c.next.new.self (Ok p) going.moments) c.in-Unsettled.is (c.in_ok-next.ensures.goes going.moments going.at))

pub returns-in-Ended : goal.returns-in-Ended
returns-in-Ended c =
    let going = c.steps.invariant in
    ended c.args.setup.now c.args.skipped.now c.args.trial.number c.steps.run c.steps.steps.items going
    (subst (λ (p : Progress). Goes c.steps.run c.next.new.self (Ok p) going.moments) c.in-Ended.is (c.in_ok-next.ensures.goes going.moments going.at))
