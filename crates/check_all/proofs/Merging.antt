-- Seven lists of findings in order, put together one after the other.
use Rattle.std.proofs.Common.{◌≡◌, map, ◌∙◌, ℕ, List, ◌++◌, Result, Ok, Err, Vec, IfOk, ap, sym}
use Rattle.std.specs.declared.alloc.Global.{Global}
use Rattle.text_ground.specs.declared.memory.Memory.{Memory}
use Rattle.net_model.specs.Gates.{Gate, InCone}
use Rattle.rtl_rule.specs.declared.finding.Finding.{Finding}
use Rattle.rtl_rule.specs.Order.{comes_before, ranked}
use Rattle.rtl_flat.specs.Flats.{Parts}
use Rattle.check_sense.proofs.check_found_proofs.Ordered.{finding_order, level, one_order, ranked_sum, ranked_up}
use Rattle.check_sense.specs.Sense.{AreSenseFindings}
use Rattle.check_assign.specs.Findings.{AreAssignFindings}
use Rattle.check_clocks.specs.check_gates.Admitted.{AreGates}
use Rattle.check_clocks.specs.check_chains.Findings.{AreResetFindings}
use Rattle.check_clocks.specs.Findings.{AreClockFindings}
use Rattle.check_case.specs.Cases.{AreCaseFindings}
use Rattle.check_unknown.specs.Unknowns.{AreUnknownFindings}
use Rattle.check_readings.specs.Readings.{AreReadingFindings, comments, note_at}
use Rattle.check_readings.proofs.Once.{once_ranked}
use Rattle.check_all.specs.Findings.{AreAllFindings}

-- what is ranked stays as it is when it is ranked again
again : (xs : List Finding) → ranked (ranked xs) ≡ ranked xs
again xs =
    one_order comes_before finding_order level (ranked (ranked xs)) (ranked xs) (ranked_up (ranked xs)) (ranked_up xs) (λ f. ranked_sum f (ranked xs))

in_order : (all xs : List Finding) → all ≡ ranked xs → all ≡ ranked all
in_order all xs is = is ∙ sym (again xs) ∙ sym (ap ranked is)

module _ (d : Parts) (gates : List (ℕ × Gate)) (are_gates : AreGates d.flat gates) (sense assigned clocked reset cases unknown readings two three four five six : List Finding) (s : AreSenseFindings d.flat sense) (a : AreAssignFindings d.flat assigned) (k : AreClockFindings (InCone d.flat) d.flat clocked) (r : AreResetFindings d.flat reset) (c : AreCaseFindings d.flat cases) (u : AreUnknownFindings d unknown) (g : AreReadingFindings d readings) where
  told : (all : List Finding) → all ≡ ranked (sense ++ assigned ++ clocked ++ reset ++ cases ++ unknown ++ readings) → AreAllFindings d all
  told all is =
      record {
        gates = gates;
        sense = sense;
        assigned = assigned;
        clocked = clocked;
        reset = reset;
        cases = cases;
        unknown = unknown;
        readings = readings;
        are_gates = are_gates;
        are_sense = s;
        are_assigned = a;
        are_clocked = k;
        are_reset = r;
        are_cases = c;
        are_unknown = u;
        are_readings = g;
        in_order = is;
      }

  by_result : (o : Result (Vec Finding Global) Memory) → IfOk o (λ all. all.items ≡ ranked (sense ++ assigned ++ clocked ++ reset ++ cases ++ unknown ++ readings)) → IfOk o (λ all. AreAllFindings d all.items)
  by_result (Ok all) is = told all.items is
  by_result (Err fault) is = tt

  -- what is made of the seven lists is all findings
  pub all_of : (o : Result (Vec Finding Global) Memory)
      → ((xs ys : List Finding) → sense ≡ ranked xs → assigned ≡ ranked ys → two ≡ ranked (xs ++ ys))
      → ((xs ys : List Finding) → two ≡ ranked xs → clocked ≡ ranked ys → three ≡ ranked (xs ++ ys))
      → ((xs ys : List Finding) → three ≡ ranked xs → reset ≡ ranked ys → four ≡ ranked (xs ++ ys))
      → ((xs ys : List Finding) → four ≡ ranked xs → cases ≡ ranked ys → five ≡ ranked (xs ++ ys))
      → ((xs ys : List Finding) → five ≡ ranked xs → unknown ≡ ranked ys → six ≡ ranked (xs ++ ys))
      → ((xs ys : List Finding) → six ≡ ranked xs → readings ≡ ranked ys → IfOk o (λ all. all.items ≡ ranked (xs ++ ys)))
      → IfOk o (λ all. AreAllFindings d all.items)
  all_of o first second third fourth fifth sixth =
      let of_sense = in_order sense (s.missing ++ s.never ++ s.mixed) s.in_order in
      let of_assigned =
      in_order assigned (a.blocking ++ a.nonblocking ++ a.mixed ++ a.several ++ a.undriven ++ a.loop ++ a.latch ++ a.tristate) a.in_order in
      let of_clocked = in_order clocked (k.derived ++ k.as_data) k.in_order in
      let of_reset = in_order reset (r.shape ++ r.polarity ++ r.pair ++ r.reset) r.in_order in
      let of_cases = in_order cases (c.full ++ c.parallel ++ c.unknown) c.in_order in
      let of_unknown =
      in_order unknown (u.literal ++ u.range ++ u.divide ++ u.equality ++ u.delay ++ u.initial ++ u.region ++ u.optimism ++ u.wild) u.in_order in
      let of_two = first sense assigned of_sense of_assigned in
      let of_three = second (sense ++ assigned) clocked of_two of_clocked in
      let of_four = third (sense ++ assigned ++ clocked) reset of_three of_reset in
      let of_five = fourth (sense ++ assigned ++ clocked ++ reset) cases of_four of_cases in
      let of_readings =
      g.in_order ∙ once_ranked (g.target ++ g.listed ++ g.select ++ comments d.dropped ++ map note_at d.notes) ∙ sym (ap ranked g.in_order) in
      let of_six = fifth (sense ++ assigned ++ clocked ++ reset ++ cases) unknown of_five of_unknown in
      by_result o (sixth (sense ++ assigned ++ clocked ++ reset ++ cases ++ unknown) readings of_six of_readings)
