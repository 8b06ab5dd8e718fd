-- What trials show for findings.
use Rattle.std.proofs.Common.{◌≡◌, ◌∙◌, ◌==◌, ◌<◌, ◌≤◌, ◌+◌, ℕ, zero, suc, Bool, true, false, cond, nat_lt, List, [], ◌∷◌, length, map, replicate, Option, None, Some, Vec, refl, sym, ap, subst, inl, inr, arith}
use Rattle.std.specs.declared.alloc.Global.{Global}
use Rattle.std.specs.List.{slice_get}
use Rattle.std.proofs.lemmas.Bool.{cases_eq, false≢true}
use Rattle.std.proofs.lemmas.List.{length-map, length-replicate}
use Rattle.std.proofs.lemmas.Option.{slice_get_within}
use Rattle.rtl_flat.specs.declared.design.Design.{Design}
use Rattle.rtl_rule.specs.declared.finding.Finding.{Finding}
use Rattle.rtl_flat.specs.Flats.{flat}
use Rattle.demo_replay.specs.declared.compare.Difference.{Difference}
use Rattle.demo_told.specs.declared.demo.Demo.{Demo}
use Rattle.demo_told.specs.declared.demo.Shown.{Shown as Values}
use Rattle.demo_replay.specs.declared.setup.Setup.{Setup as Kept}
use Rattle.demo_replay.specs.Compared.{AreCompared, is_trial_of, is_unwoken}
use Rattle.demo_replay.specs.Firsts.{AreFirsts, IsFirst, NoNetlist, Nothing, Here, Place, Shows, Told, told}
use Rattle.demo_replay.specs.Setups.{Setup, IsSetup, LacksNetlist}
use Rattle.demo_replay.specs.declared.run.Run.{Run}
use Rattle.demo_replay.specs.Progress.{IsAt, trial_of}
use Rattle.demo_replay.specs.Runs.{Moment}
use Rattle.demo_replay.specs.Tables.{AreClocked, AreDifferences, AreShownBelow, IsCourseOf, IsOf, IsShownBelow, IsUnwanted, compared, first_in, is_marked, plain, told_of}
use Rattle.demo_replay.proofs.Comparing.{are_compared}
use Rattle.demo_replay.proofs.Differing.{first_is}
use Rattle.demo_replay.proofs.Setting.{setup_of}

-- ---- lists

nothing_at : (n k : ℕ) (one : Option (Demo × Values)) → slice_get (replicate n None) k ≡ Some one → one ≡ None
nothing_at zero k one is = absurd (cc)
nothing_at (suc n) zero one is = cc
nothing_at (suc n) (suc k) one is = nothing_at n k one is

mapped : (found : List (Option (Demo × Values))) (k : ℕ) (one : Option Told) → slice_get (map told found) k ≡ Some one → (shown : Option (Demo × Values)) × (slice_get found k ≡ Some shown) × (told shown ≡ one)
mapped [] k one is = absurd (cc)
mapped (x ∷ found) zero one is = (x, refl, cc)
mapped (x ∷ found) (suc k) one is = mapped found k one is

-- ---- one trial

-- what a trial shows by its course
pub shows : (kept : Kept) (clocked skipped : List Bool) (finding : Finding) → ((s : ℕ) → compared kept clocked finding s ≡ true → is_marked skipped s ≡ false) → (trial : ℕ) (steps : List (Vec Difference Global)) → IsCourseOf kept.design.now kept skipped trial steps → Shows (flat kept.design.now) (plain kept) (compared kept clocked finding) trial (first_in (compared kept clocked finding) 1 steps)
shows kept clocked skipped finding free trial steps course =
    record {
      moments = course.moments;
      course = course.course;
      first = sym (first_is (compared kept clocked finding) skipped free (length kept.design.now.signals.items) 1 course.moments steps course.are);
    }

module _ (design : Design) (g : Setup) (finding : Finding) (test : ℕ → Bool) (n : ℕ) where
  -- nothing is shown before the first trial
  pub shown_below_none : IsShownBelow design g finding test 0 None
  shown_below_none lower below is = absurd (omega (arith, below))

  -- a trial that isn't run for the finding changes nothing
  pub shown_passed : (one : Option Told) → is_trial_of finding.rule n ≡ false → IsShownBelow design g finding test n one → IsShownBelow design g finding test (n + 1) one
  shown_passed None unrun before = λ lower below is.
      elim (cases_eq lower n) [
        | inl here ↦ absurd (false≢true (sym unrun ∙ ap (is_trial_of finding.rule) (sym here) ∙ is))
        | inr other ↦ before lower (omega (arith, below, other)) is
      ]
  shown_passed (Some one) unrun before = (omega (arith, before.0), before.1, before.2, before.3)

  -- what is shown stays
  pub shown_stays : (one : Told) → IsShownBelow design g finding test n (Some one) → IsShownBelow design g finding test (n + 1) (Some one)
  shown_stays one before = (omega (arith, before.0), before.1, before.2, before.3)

  -- a trial that is run for it
  pub shown_run : (found : Option Place) → is_trial_of finding.rule n ≡ true → IsShownBelow design g finding test n None → Shows (flat design) g test n found → IsShownBelow design g finding test (n + 1) (told_of n found)
  shown_run None runs before showing = λ lower below is.
      elim (cases_eq lower n) [
        | inl here ↦ subst (λ m. Shows (flat design) g test m None) (sym here) showing
        | inr other ↦ before lower (omega (arith, below, other)) is
      ]
  shown_run (Some place) runs before showing = (omega arith, runs, showing, before)

-- ---- all trials

trial_inside : (finding : Finding) (trial : ℕ) → is_trial_of finding.rule trial ≡ true → trial < 33
trial_inside finding trial is = by (is_unwoken finding.rule) is
  where
    by : (b : Bool) → cond b (trial == 32) (nat_lt trial 32) ≡ true → trial < 33
    by true e = grind arith
    by false e = grind arith

pub first_of_all : (design : Design) (g : Setup) (finding : Finding) (test : ℕ → Bool) (one : Option Told) → IsSetup (flat design) g → AreCompared (flat design) finding test → IsShownBelow design g finding test 33 one → IsFirst (flat design) finding one
first_of_all design g finding test None is are below =
    Nothing g test is are (λ trial of_rule. below trial (trial_inside finding trial of_rule) of_rule)
first_of_all design g finding test (Some one) is are below =
    Here g test one.trial one.place is are below.1 below.2 below.3

-- ---- a course as it is made

-- the steps that a trial under way took, and the signals that differ after each, but for those that are marked
pub record IsGoing (kept : Kept) (skipped : List Bool) (trial : ℕ) (run : Run) (steps : List (Vec Difference Global)) : Type 0 where
  pub setup_is : run.setup.now ≡ kept
  pub trial_is : trial_of run ≡ trial
  pub moments : List Moment
  pub at : IsAt run moments
  pub are : AreDifferences (length kept.design.now.signals.items) skipped moments steps

-- ---- steps that are taken again

-- a trial that took the steps below one
pub record IsUnderWay (begun run : Run) (step : ℕ) : Type 0 where
  pub setup_is : run.setup.now ≡ begun.setup.now
  pub trial_is : trial_of run ≡ trial_of begun
  pub moments : List Moment
  pub at : IsAt run moments
  pub count : length moments + 1 ≡ step

-- ---- findings one after another

-- what trials show for each finding: for those below a place, with a trial that is run; for all others, with those before it
pub record ArePartly (kept : Kept) (clocked : List Bool) (findings : List Finding) (n at : ℕ) (found : List (Option (Demo × Values))) : Type 0 where
  pub count : length found ≡ length findings
  pub behind :
      (k : ℕ) (finding : Finding) (one : Option (Demo × Values)) → k < at →
      slice_get findings k ≡ Some finding → slice_get found k ≡ Some one →
      IsShownBelow kept.design.now (plain kept) finding (compared kept clocked finding) (n + 1) (told one)
  pub before :
      (k : ℕ) (finding : Finding) (one : Option (Demo × Values)) → at ≤ k →
      slice_get findings k ≡ Some finding → slice_get found k ≡ Some one →
      IsShownBelow kept.design.now (plain kept) finding (compared kept clocked finding) n (told one)

module _ (kept : Kept) (clocked : List Bool) (findings : List Finding) (n : ℕ) where
  pub partly_none : (found : List (Option (Demo × Values))) → AreShownBelow kept.design.now kept clocked findings n found → ArePartly kept clocked findings n 0 found
  partly_none found are =
      record { count = are.count; behind = λ k finding one below. absurd (omega (arith, below)); before = λ k finding one past. are.each k finding one }

  pub partly_all : (at : ℕ) (found : List (Option (Demo × Values))) → length findings ≤ at → ArePartly kept clocked findings n at found → AreShownBelow kept.design.now kept clocked findings (n + 1) found
  partly_all at found past are =
      record {
        count = are.count;
        each = λ k finding one there. are.behind k finding one (omega (arith, past, slice_get_within findings k finding there)) there;
      }

  -- one finding more, of which all others keep what they have
  pub partly_more : (at : ℕ) (old new : List (Option (Demo × Values))) → length new ≡ length old → ((k : ℕ) → (k ≡ at → ⊥) → slice_get new k ≡ slice_get old k) → ((finding : Finding) (one : Option (Demo × Values)) → slice_get findings at ≡ Some finding → slice_get new at ≡ Some one → IsShownBelow kept.design.now (plain kept) finding (compared kept clocked finding) (n + 1) (told one)) → ArePartly kept clocked findings n at old → ArePartly kept clocked findings n (at + 1) new
  partly_more at old new count same here are =
      record {
        count = count ∙ are.count;
        behind = λ k finding one below there is.
            elim (cases_eq k at) [
              | inl e ↦
                  let there' : slice_get findings at ≡ Some finding = ap (slice_get findings) (sym e) ∙ there in
                  let is' : slice_get new at ≡ Some one = ap (slice_get new) (sym e) ∙ is in
                  here finding one there' is'
              | inr other ↦
                  are.behind k finding one (omega (arith, below, other)) there (sym (same k other) ∙ is)
            ];
        before = λ k finding one past there is.
            let other : k ≡ at → ⊥ = λ e. omega (arith, past, e) in
            are.before k finding one (omega (arith, past)) there (sym (same k other) ∙ is);
      }

-- ---- one finding of some

module _ (kept : Kept) (clocked : List Bool) (n : ℕ) (finding : Finding) where
  abbrev test : ℕ → Bool
  test = compared kept clocked finding

  -- what is shown stays, and so does what a trial isn't run for
  pub stays : (one : Option (Demo × Values)) → (one ≡ None → is_trial_of finding.rule n ≡ false) → IsShownBelow kept.design.now (plain kept) finding test n (told one) → IsShownBelow kept.design.now (plain kept) finding test (n + 1) (told one)
  stays None unrun before = shown_passed kept.design.now (plain kept) finding test n None (unrun refl) before
  stays (Some (demo, shown)) unrun before =
      (omega (arith, before.0), before.1, before.2, before.3)

  -- a trial that is run for it shows something or nothing
  pub shown_now : (skipped : List Bool) → ((s : ℕ) → test s ≡ true → is_marked skipped s ≡ false) → (steps : List (Vec Difference Global)) (one : Option (Demo × Values)) → IsCourseOf kept.design.now kept skipped n steps → is_trial_of finding.rule n ≡ true → told one ≡ told_of n (first_in test 1 steps) → IsShownBelow kept.design.now (plain kept) finding test n None → IsShownBelow kept.design.now (plain kept) finding test (n + 1) (told one)
  shown_now skipped free steps one course runs same before =
      subst (IsShownBelow kept.design.now (plain kept) finding test (n + 1)) (sym same)
      (shown_run kept.design.now (plain kept) finding test n (first_in test 1 steps) runs before (shows kept clocked skipped finding free n steps course))

-- ---- all findings

-- before the first trial
pub none_shown : (kept : Kept) (clocked : List Bool) (findings : List Finding) → AreShownBelow kept.design.now kept clocked findings 0 (replicate (length findings) None)
none_shown kept clocked findings =
    record {
      count = length-replicate (length findings) None;
      each = λ k finding one there is.
          subst (λ (o : Option (Demo × Values)). IsShownBelow kept.design.now (plain kept) finding (compared kept clocked finding) 0 (told o))
          (sym (nothing_at (length findings) k one is)) (shown_below_none kept.design.now (plain kept) finding (compared kept clocked finding) 0);
    }

-- a trial that isn't wanted
pub unwanted : (kept : Kept) (clocked : List Bool) (findings : List Finding) (n : ℕ) (found : List (Option (Demo × Values))) → IsUnwanted n findings found → AreShownBelow kept.design.now kept clocked findings n found → AreShownBelow kept.design.now kept clocked findings (n + 1) found
unwanted kept clocked findings n found none are =
    record {
      count = are.count;
      each = λ k finding one there is.
          stays kept clocked n finding one (λ e. none k finding there (is ∙ ap Some e)) (are.each k finding one there is);
    }

-- after the last trial
pub all_first : (kept : Kept) (clocked : List Bool) (findings : List Finding) (found : List (Option (Demo × Values))) → IsOf kept.design.now kept → AreClocked (flat kept.design.now) clocked → AreShownBelow kept.design.now kept clocked findings 33 found → AreFirsts (flat kept.design.now) findings (map told found)
all_first kept clocked findings found is marks are =
    record {
      count = length-map found told ∙ are.count;
      each = λ k finding one there here.
          let (shown, at, same) = mapped found k one here in
          subst (IsFirst (flat kept.design.now) finding) same
          (first_of_all kept.design.now (plain kept) finding (compared kept clocked finding) (told shown) (setup_of kept is) (are_compared kept is clocked marks finding) (are.each k finding shown there at));
    }

-- where the design has no netlist
pub none_first : (design : Design) (findings : List Finding) → LacksNetlist (flat design) → AreFirsts (flat design) findings (map told (replicate (length findings) None))
none_first design findings lacks =
    record {
      count = length-map (replicate (length findings) None) told ∙ length-replicate (length findings) None;
      each = λ k finding one there here.
          let (shown, at, same) = mapped (replicate (length findings) None) k one here in
          subst (IsFirst (flat design) finding) (ap told (sym (nothing_at (length findings) k shown at)) ∙ same) (NoNetlist lacks);
    }

-- nothing is shown for no finding
pub no_firsts : (design : Design) (findings : List Finding) → length findings ≡ 0 → AreFirsts (flat design) findings []
no_firsts design [] none = record { count = refl; each = λ k finding one there shown. absurd (cc) }
no_firsts design (finding ∷ findings) none = absurd (omega (arith, none))
