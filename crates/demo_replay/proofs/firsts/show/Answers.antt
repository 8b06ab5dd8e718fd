use Rattle.std.proofs.Common.{◌≡◌, ◌∙◌, ◌<◌, ◌+◌, ℕ, zero, suc, List, [], ◌∷◌, Bool, true, false, not, length, slice_set, get_or, Option, Some, None, Vec, refl, sym, ap, subst, arith}
use Rattle.std.specs.declared.alloc.Global.{Global}
use Rattle.std.specs.List.{slice_get}
use Rattle.std.specs.Option.{is_some}
use Rattle.std.proofs.lemmas.Bool.{false≢true}
use Rattle.std.proofs.lemmas.List.{length-set}
use Rattle.std.proofs.lemmas.Option.{get_or_from_slice_get, same_Some, slice_get-get_or}
use Rattle.rtl_rule.specs.declared.finding.Finding.{Finding}
use Rattle.demo_told.specs.declared.demo.Demo.{Demo}
use Rattle.demo_told.specs.declared.demo.Shown.{Shown as Values}
use Rattle.demo_replay.specs.declared.compare.Difference.{Difference}
use Rattle.demo_replay.specs.declared.setup.Setup.{Setup as Kept}
use Rattle.demo_replay.specs.Compared.{is_trial_of}
use Rattle.demo_replay.specs.Firsts.{told}
use Rattle.demo_replay.specs.Tables.{AreSkipped, IsCourseOf, IsShownBelow, compared, plain, first_in, told_of}
use Rattle.demo_replay.proofs.Showing.{ArePartly, partly_more, partly_all, stays, shown_now}
use Rattle.demo_replay.proofs.firsts.show.Goals as goal
use Rattle.demo_replay.proofs.firsts.show.Goals.{then-is_none+then-is_trial_of, else-is_none, else-is_none-via-then-is_none+else-is_trial_of, else-is_none-via-else-is_none}

read_same : {A : Type 0} (xs : List A) (i : ℕ) (x : A) → i < length xs → slice_get (slice_set xs i x) i ≡ Some x
read_same [] i x within = absurd (omega (arith, within))
read_same (y ∷ ys) zero x within = refl
read_same (y ∷ ys) (suc i) x within = read_same ys i x (omega (arith, within))

read_other : {A : Type 0} (xs : List A) (i j : ℕ) (x : A) → (j ≡ i → ⊥) → slice_get (slice_set xs i x) j ≡ slice_get xs j
read_other [] i j x apart = refl
read_other (y ∷ ys) zero zero x apart = absurd (apart refl)
read_other (y ∷ ys) zero (suc j) x apart = refl
read_other (y ∷ ys) (suc i) zero x apart = refl
read_other (y ∷ ys) (suc i) (suc j) x apart = read_other ys i j x (λ e. apart (ap suc e))

none_of : {A : Type 0} (o : Option A) → is_some o ≡ false → o ≡ None
none_of None e = refl
none_of (Some x) e = absurd (false≢true (sym e))

module _ (kept : Kept) (clocked : List Bool) (findings : List Finding) (n at : ℕ) (old : List (Option (Demo × Values))) (partly : ArePartly kept clocked findings n at old) where
  -- a finding for which nothing is shown yet, of a trial that is run for it
  taken : (skipped : List Bool) (are : AreSkipped kept clocked findings skipped) (steps : List (Vec Difference Global)) (course : IsCourseOf kept.design.now kept skipped n steps) (given : Finding) (was one : Option (Demo × Values)) → at < length findings → ((finding : Finding) → slice_get findings at ≡ Some finding → given ≡ finding) → is_trial_of given.rule n ≡ true → is_some (get_or old at was) ≡ false → told one ≡ told_of n (first_in (compared kept clocked given) 1 steps) → ArePartly kept clocked findings n (at + 1) (slice_set old at one)
  taken skipped are steps course given was one inside given_is runs none same =
      partly_more kept clocked findings n at old (slice_set old at one) (length-set old at one) (λ k other. read_other old at k one other) here partly
    where
      within : at < length old
      within = omega (arith, inside, partly.count)

      nothing : slice_get old at ≡ Some None
      nothing = slice_get-get_or old at was within ∙ ap Some (none_of (get_or old at was) none)

      here : (finding : Finding) (found : Option (Demo × Values)) → slice_get findings at ≡ Some finding → slice_get (slice_set old at one) at ≡ Some found → IsShownBelow kept.design.now (plain kept) finding (compared kept clocked finding) (n + 1) (told found)
      here finding found there found_is =
          let e : given ≡ finding = given_is finding there in
          let f : one ≡ found = same_Some one found (sym (read_same old at one within) ∙ found_is) in
          let runs' : is_trial_of finding.rule n ≡ true = subst (λ (x : Finding). is_trial_of x.rule n ≡ true) e runs in
          let same' : told one ≡ told_of n (first_in (compared kept clocked finding) 1 steps) = subst (λ (x : Finding). told one ≡ told_of n (first_in (compared kept clocked x) 1 steps)) e same in
          subst (λ (o : Option (Demo × Values)). IsShownBelow kept.design.now (plain kept) finding (compared kept clocked finding) (n + 1) (told o)) f
          (shown_now kept clocked n finding skipped (are at finding there) steps one course runs' same' (partly.before at finding None (omega arith) there nothing))

  -- any other finding
  passed : ((finding : Finding) → slice_get findings at ≡ Some finding → slice_get old at ≡ Some None → is_trial_of finding.rule n ≡ false) → ArePartly kept clocked findings n (at + 1) old
  passed unrun =
      partly_more kept clocked findings n at old old refl (λ k other. refl)
      (λ finding one there is. stays kept clocked n finding one (λ e. unrun finding there (is ∙ ap Some e)) (partly.before at finding one (omega arith) there is)) partly

pub loop-at-preserved : goal.loop-at-preserved
loop-at-preserved c =
    let kept = c.args.setup.now in
    let clocked = c.args.clocked.now in
    let findings = c.args.findings.now in
    let n = c.args.trial.number in
    let at = c.loop-at.at in
    let old = c.loop-at.found in
    elim c.if-is_none.branch [
      | then-is_none+then-is_trial_of w ↦
          subst (λ (found : List (Option (Demo × Values))). ArePartly kept clocked findings n (at + 1) found) (sym w.found-is)
          (taken kept clocked findings n at old c.loop-at.invariant c.args.skipped.now c.requires.skipped c.args.steps.now c.requires.course _ c.index-found-at.result w.first_in.result (omega arith)
          (λ finding there. get_or_from_slice_get findings at finding _ there) (sym w.is_trial_of.ensures ∙ w.if-is_trial_of.true) (c.is_none.ensures ∙ ap not w.if-is_none.true) w.first_in.ensures)
      | else-is_none w ↦
          subst (λ (found : List (Option (Demo × Values))). ArePartly kept clocked findings n (at + 1) found) (sym w.found-is)
          (elim w.else-is_none.branch [
            | else-is_none-via-then-is_none+else-is_trial_of v ↦
                passed kept clocked findings n at old c.loop-at.invariant
                (λ finding there none. ap (λ (x : Finding). is_trial_of x.rule n) (sym (get_or_from_slice_get findings at finding _ there)) ∙ sym v.is_trial_of.ensures ∙ v.if-is_trial_of.false)
            | else-is_none-via-else-is_none v ↦
                passed kept clocked findings n at old c.loop-at.invariant
                (λ finding there none. absurd (false≢true (ap is_some (sym (get_or_from_slice_get old at None c.index-found-at.result none)) ∙ c.is_none.ensures ∙ ap not v.if-is_none.false)))
          ])
    ]

pub returns : goal.returns
returns c =
    partly_all c.args.setup.now c.args.clocked.now c.args.findings.now c.args.trial.number c.loop-at.at c.loop-at.found (omega arith) c.loop-at.invariant
