-- Where no finding of a list is of a rule that agreement stands on, none of these rules has one; each is of the first grade.
use Rattle.std.proofs.Common.{◌≡◌, ◌∙◌, ◌||◌, Bool, true, false, List, [], ◌∷◌, ◌++◌, map, refl, sym, ap, subst}
use Rattle.std.specs.Prelude.{if◌then◌else◌}
use Rattle.std.specs.List.{list_any}
use Rattle.std.proofs.lemmas.Bool.{or_from, or_parts, true≢false}
use Rattle.net_model.specs.Gates.{InCone}
use Rattle.rtl_rule.specs.declared.finding.Finding.{Finding}
use Rattle.rtl_rule.specs.Order.{comes_before, placed, ranked}
use Rattle.rtl_flat.specs.Flats.{Flat, Parts}
use Rattle.rtl_rule.proofs.Rules.{needed_first}
use Rattle.rtl_rule.specs.Rows.{is_needed, row_of}
use Rattle.rtl_rule.specs.Sites.{AreFindings}
use Rattle.check_sense.specs.Sense.{AreSenseFindings}
use Rattle.check_sense.specs.Sense as sense
use Rattle.check_assign.specs.Assigned as assigned
use Rattle.check_assign.specs.Findings.{AreAssignFindings}
use Rattle.check_clocks.specs.Findings.{AreClockFindings}
use Rattle.check_clocks.specs.check_chains.Findings.{AreResetFindings}
use Rattle.check_clocks.specs.check_chains.Chains as chains
use Rattle.check_clocks.specs.Clocks as clocks
use Rattle.check_case.specs.Cases.{AreCaseFindings}
use Rattle.check_case.specs.Cases as cases
use Rattle.check_unknown.specs.Unknowns.{AreUnknownFindings}
use Rattle.check_unknown.specs.Unknowns as unknowns
use Rattle.rtl_rule.specs.declared.rule.Rule.{Rule}
use Rattle.rtl_rule.specs.declared.rule.Rule.TheVariants as rule
use Rattle.check_all.specs.Findings.{AreAllFindings, IsClean}
use Rattle.check_all.specs.Rules.{HasNoFinding}

-- ---- ranked findings

or_swap : (a b c : Bool) → (a || (b || c)) ≡ (b || (a || c))
or_swap true true c = refl
or_swap true false c = refl
or_swap false b c = refl

module _ (test : Finding → Bool) where
  placed_any : (finding : Finding) (all : List Finding) → list_any test (placed finding all) ≡ (test finding || list_any test all)
  placed_any finding [] = refl
  placed_any finding (first ∷ others) = by_order (comes_before first finding) (placed_any finding others)
    where
      by_order : (b : Bool) → list_any test (placed finding others) ≡ (test finding || list_any test others) → list_any test (if b then first ∷ placed finding others else finding ∷ first ∷ others) ≡ (test finding || (test first || list_any test others))
      by_order true e = ap (λ x. test first || x) e ∙ or_swap (test first) (test finding) (list_any test others)
      by_order false e = refl

  ranked_any : (all : List Finding) → list_any test (ranked all) ≡ list_any test all
  ranked_any [] = refl
  ranked_any (first ∷ others) = placed_any first (ranked others) ∙ ap (λ x. test first || x) (ranked_any others)

  -- none among those that are ranked together
  any_parts : (xs ys : List Finding) → list_any test (xs ++ ys) ≡ false → (list_any test xs ≡ false) × (list_any test ys ≡ false)
  any_parts [] ys h = (refl, h)
  any_parts (x ∷ xs) ys h =
      let (here, rest) = or_parts (test x) (list_any test (xs ++ ys)) h in
      let more = any_parts xs ys rest in
      (or_from (test x) (list_any test xs) here more.0, more.1)

-- ---- all rules

-- no finding about lists
record IsSenseFree (d : Flat) : Type 0 where
  s1 : sense.AreSenseMissing d []
  s2 : sense.AreNeverWakes d []
  s3 : sense.AreMixedEdges d []

-- none about assignments and drivers
record IsAssignFree (d : Flat) : Type 0 where
  a1 : assigned.AreBlockingState d []
  a2 : assigned.AreNonblockingComb d []
  a3 : assigned.AreMixedAssign d []
  a4 : assigned.AreSeveralDrivers d []
  a5 : assigned.AreUndriven d []
  a6 : assigned.AreCombLoop d []
  l1 : assigned.AreLatchInferred d []
  z1 : assigned.AreTristate d []

-- none about clocks
record IsClockFree (d : Flat) : Type 0 where
  a7 : clocks.AreDerivedClock d []
  a8 : clocks.AreClockAsData (InCone d) d []

-- none about resets
record IsResetFree (d : Flat) : Type 0 where
  r1 : chains.AreResetShape d []
  r2 : chains.AreResetPolarity d []
  r3 : chains.AreAsyncPair d []
  r4 : chains.AreResetValue d []

-- none about cases
record IsCaseFree (d : Flat) : Type 0 where
  c1 : cases.AreFullCase d []
  c2 : cases.AreParallelCase d []

-- none about x and z
record IsKnownFree (d : Flat) : Type 0 where
  x1 : unknowns.AreUnknownLiteral d []
  x2 : unknowns.AreSelectRange d []
  x3 : unknowns.AreDivideVariable d []

-- rules among which are all that agreement stands on
module _ (among : Rule → Bool) (needed : (one : Rule) → is_needed one ≡ true → among one ≡ true) where
  abbrev is_first : Finding → Bool
  is_first finding = among finding.rule

  unranked : (findings all : List Finding) → findings ≡ ranked all → list_any is_first findings ≡ false → list_any is_first all ≡ false
  unranked findings all e h = sym (ranked_any is_first all) ∙ ap (list_any is_first) (sym e) ∙ h

  -- the findings of one of them are none
  none_of : {A : Type 0} (P : A → Type 0) (finding_at : A → Finding) (sites : List A) (findings : List Finding) → ((site : A) → is_first (finding_at site) ≡ true) → AreFindings P finding_at sites findings → list_any is_first findings ≡ false → AreFindings P finding_at sites []
  none_of P finding_at sites findings grade are h = by_list findings (in_map are.broken findings are.shown) are h
    where
      in_map : (broken : List _) (all : List Finding) → all ≡ map finding_at broken → list_any is_first all ≡ false → all ≡ []
      in_map [] all e none = e
      in_map (one ∷ others) all e none =
          absurd (true≢false (sym (ap (λ b. b || list_any is_first (map finding_at others)) (grade one)) ∙ sym (ap (list_any is_first) e) ∙ none))

      by_list : (all : List Finding) → (list_any is_first all ≡ false → all ≡ []) → AreFindings P finding_at sites all → list_any is_first all ≡ false → AreFindings P finding_at sites []
      by_list all empty are' none = subst (AreFindings P finding_at sites) (empty none) are'

  module _ (whole : Parts) where
    abbrev d : Flat
    d = whole.flat

    of_sense : (findings : List Finding) → AreSenseFindings d findings → list_any is_first findings ≡ false → IsSenseFree d
    of_sense findings are h =
        let all = unranked findings (are.missing ++ are.never ++ are.mixed) are.in_order h in
        let (front2, h_mixed) = any_parts is_first (are.missing ++ are.never) are.mixed all in
        let (h_missing, h_never) = any_parts is_first are.missing are.never front2 in
        record {
          s1 = none_of (sense.IsSenseMissing d) (sense.sense_missing_at) _ are.missing (λ site. needed rule.SenseMissing refl) are.are_missing h_missing;
          s2 = none_of (sense.IsNeverWakes d) (sense.never_wakes_at d) _ are.never (λ site. needed rule.NeverWakes refl) are.are_never h_never;
          s3 = none_of (sense.IsMixedEdges) (sense.mixed_edges_at) _ are.mixed (λ site. needed rule.MixedEdges refl) are.are_mixed h_mixed;
        }

    of_assign : (findings : List Finding) → AreAssignFindings d findings → list_any is_first findings ≡ false → IsAssignFree d
    of_assign findings are h =
        let all = unranked findings (are.blocking ++ are.nonblocking ++ are.mixed ++ are.several ++ are.undriven ++ are.loop ++ are.latch ++ are.tristate) are.in_order h in
        let (front7, h_tristate) = any_parts is_first (are.blocking ++ are.nonblocking ++ are.mixed ++ are.several ++ are.undriven ++ are.loop ++ are.latch) are.tristate all in
        let (front6, h_latch) = any_parts is_first (are.blocking ++ are.nonblocking ++ are.mixed ++ are.several ++ are.undriven ++ are.loop) are.latch front7 in
        let (front5, h_loop) = any_parts is_first (are.blocking ++ are.nonblocking ++ are.mixed ++ are.several ++ are.undriven) are.loop front6 in
        let (front4, h_undriven) = any_parts is_first (are.blocking ++ are.nonblocking ++ are.mixed ++ are.several) are.undriven front5 in
        let (front3, h_several) = any_parts is_first (are.blocking ++ are.nonblocking ++ are.mixed) are.several front4 in
        let (front2, h_mixed) = any_parts is_first (are.blocking ++ are.nonblocking) are.mixed front3 in
        let (h_blocking, h_nonblocking) = any_parts is_first are.blocking are.nonblocking front2 in
        record {
          a1 = none_of (assigned.IsBlockingState d) (assigned.blocking_state_at d) _ are.blocking (λ site. needed rule.BlockingState refl) are.are_blocking h_blocking;
          a2 = none_of (assigned.IsNonblockingComb d) (assigned.nonblocking_comb_at d) _ are.nonblocking (λ site. needed rule.NonblockingComb refl) are.are_nonblocking h_nonblocking;
          a3 = none_of (assigned.IsMixedAssign d) (assigned.mixed_assign_at d) _ are.mixed (λ site. needed rule.MixedAssign refl) are.are_mixed h_mixed;
          a4 = none_of (assigned.IsSeveralDrivers d) (assigned.several_drivers_at) _ are.several (λ site. needed rule.SeveralDrivers refl) are.are_several h_several;
          a5 = none_of (assigned.IsUndriven d) (assigned.undriven_at) _ are.undriven (λ site. needed rule.Undriven refl) are.are_undriven h_undriven;
          a6 = none_of (assigned.IsCombLoop d) (assigned.comb_loop_at d) _ are.loop (λ site. needed rule.CombLoop refl) are.are_loop h_loop;
          l1 = none_of (assigned.IsLatchInferred d) (assigned.latch_inferred_at) _ are.latch (λ site. needed rule.LatchInferred refl) are.are_latch h_latch;
          z1 = none_of (assigned.IsTristate) (assigned.tristate_at d) _ are.tristate (λ site. needed rule.Tristate refl) are.are_tristate h_tristate;
        }

    of_clocks : (findings : List Finding) → AreClockFindings (InCone d) d findings → list_any is_first findings ≡ false → IsClockFree d
    of_clocks findings are h =
        let all = unranked findings (are.derived ++ are.as_data) are.in_order h in
        let (h_derived, h_as_data) = any_parts is_first are.derived are.as_data all in
        record {
          a7 = none_of (clocks.IsDerivedClock d) (clocks.derived_clock_at) _ are.derived (λ site. needed rule.DerivedClock refl) are.are_derived h_derived;
          a8 = none_of (clocks.IsClockAsData (InCone d) d) (clocks.clock_as_data_at d) _ are.as_data (λ site. needed rule.ClockAsData refl) are.are_data h_as_data;
        }

    of_resets : (findings : List Finding) → AreResetFindings d findings → list_any is_first findings ≡ false → IsResetFree d
    of_resets findings are h =
        let all = unranked findings (are.shape ++ are.polarity ++ are.pair ++ are.reset) are.in_order h in
        let (front3, h_reset) = any_parts is_first (are.shape ++ are.polarity ++ are.pair) are.reset all in
        let (front2, h_pair) = any_parts is_first (are.shape ++ are.polarity) are.pair front3 in
        let (h_shape, h_polarity) = any_parts is_first are.shape are.polarity front2 in
        record {
          r1 = none_of (chains.IsResetShape d) (chains.reset_shape_at d) _ are.shape (λ site. needed rule.ResetShape refl) are.are_shape h_shape;
          r2 = none_of (chains.IsResetPolarity d) (chains.reset_polarity_at d) _ are.polarity (λ site. needed rule.ResetPolarity refl) are.are_polarity h_polarity;
          r3 = none_of (chains.IsAsyncPair d) (chains.async_pair_at d) _ are.pair (λ site. needed rule.AsyncPair refl) are.are_pair h_pair;
          r4 = none_of (chains.IsResetValue d) (chains.reset_value_at d) _ are.reset (λ site. needed rule.ResetValue refl) are.are_value h_reset;
        }

    of_cases : (findings : List Finding) → AreCaseFindings d findings → list_any is_first findings ≡ false → IsCaseFree d
    of_cases findings are h =
        let all = unranked findings (are.full ++ are.parallel ++ are.unknown) are.in_order h in
        let (front2, h_unknown) = any_parts is_first (are.full ++ are.parallel) are.unknown all in
        let (h_full, h_parallel) = any_parts is_first are.full are.parallel front2 in
        record {
          c1 = none_of (cases.IsFullCase d) (cases.full_case_at d) _ are.full (λ site. needed rule.FullCase refl) are.are_full h_full;
          c2 = none_of (cases.IsParallelCase) (cases.parallel_case_at d) _ are.parallel (λ site. needed rule.ParallelCase refl) are.are_parallel h_parallel;
        }

    of_unknown : (findings : List Finding) → AreUnknownFindings whole findings → list_any is_first findings ≡ false → IsKnownFree d
    of_unknown findings are h =
        let all = unranked findings (are.literal ++ are.range ++ are.divide ++ are.equality ++ are.delay ++ are.initial ++ are.region ++ are.optimism ++ are.wild) are.in_order h in
        let (front8, h_wild) = any_parts is_first (are.literal ++ are.range ++ are.divide ++ are.equality ++ are.delay ++ are.initial ++ are.region ++ are.optimism) are.wild all in
        let (front7, h_optimism) = any_parts is_first (are.literal ++ are.range ++ are.divide ++ are.equality ++ are.delay ++ are.initial ++ are.region) are.optimism front8 in
        let (front6, h_region) = any_parts is_first (are.literal ++ are.range ++ are.divide ++ are.equality ++ are.delay ++ are.initial) are.region front7 in
        let (front5, h_initial) = any_parts is_first (are.literal ++ are.range ++ are.divide ++ are.equality ++ are.delay) are.initial front6 in
        let (front4, h_delay) = any_parts is_first (are.literal ++ are.range ++ are.divide ++ are.equality) are.delay front5 in
        let (front3, h_equality) = any_parts is_first (are.literal ++ are.range ++ are.divide) are.equality front4 in
        let (front2, h_divide) = any_parts is_first (are.literal ++ are.range) are.divide front3 in
        let (h_literal, h_range) = any_parts is_first are.literal are.range front2 in
        record {
          x1 = none_of (unknowns.IsUnknownLiteral) (unknowns.unknown_literal_at d) _ are.literal (λ site. needed rule.UnknownLiteral refl) are.are_literal h_literal;
          x2 = none_of (unknowns.IsSelectRange d) (unknowns.select_range_at) _ are.range (λ site. needed rule.SelectRange refl) are.are_range h_range;
          x3 = none_of (unknowns.IsDivideVariable d) (unknowns.at_node rule.DivideVariable d) _ are.divide (λ site. needed rule.DivideVariable refl) are.are_divide h_divide;
        }

    pub none_needed : (findings : List Finding) → AreAllFindings whole findings → list_any is_first findings ≡ false → HasNoFinding d
    none_needed findings are clean =
        let all = unranked findings (are.sense ++ are.assigned ++ are.clocked ++ are.reset ++ are.cases ++ are.unknown ++ are.readings) are.in_order clean in
        let (six, h_readings) = any_parts is_first (are.sense ++ are.assigned ++ are.clocked ++ are.reset ++ are.cases ++ are.unknown) are.readings all in
        let (five, h_unknown) = any_parts is_first (are.sense ++ are.assigned ++ are.clocked ++ are.reset ++ are.cases) are.unknown six in
        let (four, h_cases) = any_parts is_first (are.sense ++ are.assigned ++ are.clocked ++ are.reset) are.cases five in
        let (three, h_reset) = any_parts is_first (are.sense ++ are.assigned ++ are.clocked) are.reset four in
        let (two, h_clocked) = any_parts is_first (are.sense ++ are.assigned) are.clocked three in
        let (h_sense, h_assigned) = any_parts is_first are.sense are.assigned two in
        let lists = of_sense are.sense are.are_sense h_sense in
        let assigns = of_assign are.assigned are.are_assigned h_assigned in
        let clocked = of_clocks are.clocked are.are_clocked h_clocked in
        let resets = of_resets are.reset are.are_reset h_reset in
        let of_case = of_cases are.cases are.are_cases h_cases in
        let known = of_unknown are.unknown are.are_unknown h_unknown in
        record {
          s1 = lists.s1;
          s2 = lists.s2;
          s3 = lists.s3;
          a1 = assigns.a1;
          a2 = assigns.a2;
          a3 = assigns.a3;
          a4 = assigns.a4;
          a5 = assigns.a5;
          a6 = assigns.a6;
          a7 = clocked.a7;
          a8 = clocked.a8;
          l1 = assigns.l1;
          z1 = assigns.z1;
          r1 = resets.r1;
          r2 = resets.r2;
          r3 = resets.r3;
          r4 = resets.r4;
          c1 = of_case.c1;
          c2 = of_case.c2;
          x1 = known.x1;
          x2 = known.x2;
          x3 = known.x3;
        }

-- ---- rules of the first grade

pub no_finding : (d : Parts) (findings : List Finding) → AreAllFindings d findings → IsClean findings → HasNoFinding d.flat
no_finding d findings are clean =
    none_needed (λ one. (row_of one).first_grade) needed_first d findings are clean
