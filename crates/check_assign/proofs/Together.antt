-- The lists of findings, one behind another.
use Rattle.std.proofs.Common.{◌≡◌, ◌∙◌, List, ◌++◌, append_assoc, ap}
use Rattle.rtl_rule.specs.declared.finding.Finding.{Finding}
use Rattle.rtl_rule.specs.Order.{ranked}
use Rattle.rtl_flat.specs.Flats.{Flat}
use Rattle.check_assign.specs.Findings.{AreAssignFindings}
use Rattle.check_assign.specs.Lists.{AreAssigned, AreDriven, AreHeld, Both}

pub both : (First Second : List Finding → Type 0) (xs ys found : List Finding) → found ≡ xs ++ ys → First xs → Second ys → Both First Second found
both First Second xs ys found in_order are_first are_second =
    record { first = xs; second = ys; in_order = in_order; are_first = are_first; are_second = are_second }

in_a_row : (a b c d e f g h ab abc de def first gh all : List Finding) → ab ≡ a ++ b → abc ≡ ab ++ c → de ≡ d ++ e → def ≡ de ++ f → first ≡ abc ++ def → gh ≡ g ++ h → all ≡ first ++ gh → all ≡ a ++ b ++ c ++ d ++ e ++ f ++ g ++ h
in_a_row a b c d e f g h ab abc de def first gh all e1 e2 e3 e4 e5 e6 e7 =
    e7 ∙ simp (e5, e2, e1, e4, e3, e6, append_assoc)

pub together : (d : Flat) (assigned driven held first all found : List Finding) → AreAssigned d assigned → AreDriven d driven → AreHeld d held → first ≡ assigned ++ driven → all ≡ first ++ held → found ≡ ranked all → AreAssignFindings d found
together d assigned driven held first all found are_assigned are_driven are_held front row is =
    record {
      blocking = are_assigned.are_first.first;
      nonblocking = are_assigned.are_first.second;
      mixed = are_assigned.second;
      several = are_driven.are_first.first;
      undriven = are_driven.are_first.second;
      loop = are_driven.second;
      latch = are_held.first;
      tristate = are_held.second;
      are_blocking = are_assigned.are_first.are_first;
      are_nonblocking = are_assigned.are_first.are_second;
      are_mixed = are_assigned.are_second;
      are_several = are_driven.are_first.are_first;
      are_undriven = are_driven.are_first.are_second;
      are_loop = are_driven.are_second;
      are_latch = are_held.are_first;
      are_tristate = are_held.are_second;
      in_order = is ∙ ap ranked (in_a_row are_assigned.are_first.first are_assigned.are_first.second are_assigned.second are_driven.are_first.first are_driven.are_first.second are_driven.second are_held.first are_held.second
          are_assigned.first assigned are_driven.first driven first held all are_assigned.are_first.in_order are_assigned.in_order are_driven.are_first.in_order are_driven.in_order front are_held.in_order row);
    }
