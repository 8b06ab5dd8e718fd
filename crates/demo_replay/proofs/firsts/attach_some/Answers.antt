use Rattle.std.proofs.Common.{◌≡◌, ◌∙◌, ◌+◌, ◌++◌, ℕ, List, Bool, Option, length, map, take, drop, sym, ap, subst, arith}
use Rattle.std.specs.Option.{is_some}
use Rattle.std.proofs.Math.Seq.{take-append_seam}
use Rattle.std.proofs.lemmas.Bool.{false≢true}
use Rattle.std.proofs.lemmas.Option.{MatchOption-at_none, MatchOption-at_some}
use Rattle.std.proofs.lemmas.Result.{IfOk-weaker}
use Rattle.rtl_flat.specs.declared.design.Design.{Design}
use Rattle.rtl_flat.specs.Flats.{flat}
use Rattle.demo_told.specs.declared.demo.Demo.{Demo}
use Rattle.demo_told.specs.declared.demo.Shown.{Shown as Values}
use Rattle.demo_replay.specs.Firsts.{AreFirsts, told}
use Rattle.demo_replay.specs.Setups.{LacksNetlist}
use Rattle.demo_replay.specs.Tables.{AreClocked, AreShownBelow, AreSkipped, IsOf, skips}
use Rattle.demo_replay.proofs.Showing.{none_shown, all_first, none_first}
use Rattle.demo_replay.proofs.Skipping.{are_skipped}
use Rattle.demo_replay.proofs.firsts.attach_some.Goals as goal
use Rattle.demo_replay.proofs.firsts.attach_some.Goals.{in-Some-new+in_ok-run_trial, in_default-new}

-- a vector whose elements were all written
written : {A : Type 0} (size : ℕ) (new old : List A) → size ≡ length old → length new ≡ length old → take size (new ++ drop (length new) old) ≡ new
written size new old is same =
    ap (λ n. take n (new ++ drop (length new) old)) (is ∙ sym same) ∙ take-append_seam new (drop (length new) old)

pub returns-in_default : goal.returns-in_default
returns-in_default c =
    let lacks = MatchOption-at_none (LacksNetlist (flat c.args.design.now)) (IsOf c.args.design.now) c.in_default.is c.in_ok-setup.ensures in
    IfOk-weaker c.nothing.result _ _ (λ found is. subst (λ (all : List (Option (Demo × Values))). AreFirsts (flat c.args.design.now) c.args.findings.now (map told all)) (sym is) (none_first c.args.design.now c.args.findings.now lacks)) c.nothing.ensures

pub loop-number-init : goal.loop-number-init
loop-number-init c =
    subst (λ (all : List (Option (Demo × Values))). AreShownBelow c.in-Some.setup.design.now c.in-Some.setup c.in_ok-clocked.clocked.items c.args.findings.now 0 all) (sym c.in_ok-found.ensures)
    (none_shown c.in-Some.setup c.in_ok-clocked.clocked.items c.args.findings.now)

-- what no finding compares is marked, as `run_trial` asks
pub run_trial-requires-clause-skipped : goal.run_trial-requires-clause-skipped
run_trial-requires-clause-skipped c =
    let kept = c.in-Some.setup in
    let findings = c.args.findings.now in
    let marks = c.deref-in-Some-new.result.now in
    let count = length kept.design.now.signals.items in
    let both : c.deref.result.now ≡ marks = c.deref.ensures.value ∙ sym c.deref-in-Some-new.ensures.value in
    let same : c.deref-in-Some-new-2.result.now ≡ skips kept marks findings count
    = c.deref-in-Some-new-2.ensures.value ∙ c.in_ok-skipped.ensures ∙ ap (λ (l : List Bool). skips kept l findings count) both in
    subst (λ (l : List Bool). AreSkipped kept marks findings l) (sym same) (are_skipped kept marks findings count)

pub loop-number-preserved : goal.loop-number-preserved
loop-number-preserved c =
    let kept = c.in-Some.setup in
    let clocked = c.in_ok-clocked.clocked.items in
    let findings = c.args.findings.now in
    let old = c.loop-number.found in
    elim c.match-new.branch [
      | in-Some-new+in_ok-run_trial w ↦
          let new = w.run_trial.new.found in
          let trial = w.in-Some-new.trial.number in
          let ran : AreShownBelow kept.design.now kept w.deref-in-Some-new.result.now findings (trial + 1) new = w.in_ok-run_trial.ensures in
          let by_marks : AreShownBelow kept.design.now kept clocked findings (trial + 1) new = subst (λ (marks : List Bool). AreShownBelow kept.design.now kept marks findings (trial + 1) new) w.deref-in-Some-new.ensures.value ran in
          let by_number : AreShownBelow kept.design.now kept clocked findings (c.loop-number.number + 1) new = subst (λ (n : ℕ). AreShownBelow kept.design.now kept clocked findings (n + 1) new) w.in-Some-new.ensures.number by_marks in
          let whole = written old.len new old.items old.ok.0 (by_number.count ∙ sym c.loop-number.invariant.count) in
          subst (λ (v : _). AreShownBelow kept.design.now kept clocked findings (c.loop-number.number + 1) v.items) (sym w.found-is)
          (subst (λ (all : List (Option (Demo × Values))). AreShownBelow kept.design.now kept clocked findings (c.loop-number.number + 1) all) (sym whole) by_number)
      | in_default-new w ↦
          absurd (false≢true (sym (ap is_some w.in_default-new.is) ∙ c.new.ensures.some.1 (omega arith)))
    ]

pub returns : goal.returns
returns c =
    let kept = c.in-Some.setup in
    let clocked = c.in_ok-clocked.clocked.items in
    let findings = c.args.findings.now in
    let found = c.loop-number.found.items in
    let is_of : IsOf c.args.design.now kept = MatchOption-at_some (LacksNetlist (flat c.args.design.now)) (IsOf c.args.design.now) kept c.in-Some.is c.in_ok-setup.ensures in
    let own : IsOf kept.design.now kept = subst (λ (design : Design). IsOf design kept) (sym is_of.design_is) is_of in
    let marks : AreClocked (flat kept.design.now) clocked = subst (λ (design : Design). AreClocked (flat design) clocked) (sym is_of.design_is) c.in_ok-clocked.ensures in
    let last : c.loop-number.number ≡ 33 = omega arith in
    let shown : AreShownBelow kept.design.now kept clocked findings 33 found = subst (λ (n : ℕ). AreShownBelow kept.design.now kept clocked findings n found) last c.loop-number.invariant in
    subst (λ (design : Design). AreFirsts (flat design) findings (map told found)) is_of.design_is (all_first kept clocked findings found own marks shown)
