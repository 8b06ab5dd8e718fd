-- A design has one list of all findings.
use Rattle.std.proofs.Common.{◌≡◌, ◌∙◌, ℕ, List, [], ◌∷◌, ◌++◌, map, inl, inr, ap, sym}
use Rattle.net_model.specs.Gates.{InCone}
use Rattle.rtl_rule.specs.declared.finding.Finding.{Finding}
use Rattle.rtl_rule.specs.Order.{ranked}
use Rattle.rtl_flat.specs.Flats.{Flat, Parts}
use Rattle.rtl_rule.specs.Sites.{AreFindings, AreThose}
use Rattle.check_sense.specs.Sense.{AreSenseFindings}
use Rattle.check_clocks.specs.check_chains.Findings.{AreResetFindings}
use Rattle.check_clocks.specs.Findings.{AreClockFindings}
use Rattle.check_assign.specs.Findings.{AreAssignFindings}
use Rattle.check_case.specs.Cases.{AreCaseFindings}
use Rattle.check_unknown.specs.Unknowns.{AreUnknownFindings}
use Rattle.check_readings.specs.Readings.{AreReadingFindings, comments, note_at, once}
use Rattle.check_all.specs.Findings.{AreAllFindings}

those_alone : {A : Type 0} (P : A → Type 0) (xs a b : List A) → AreThose P xs a → AreThose P xs b → a ≡ b
those_alone P [] a b one other = one ∙ sym other
those_alone P (x ∷ xs) a b (inl one) (inl other) =
    one.2 ∙ ap (λ rest. x ∷ rest) (those_alone P xs one.1 other.1 one.3 other.3) ∙ sym other.2
those_alone P (x ∷ xs) a b (inl one) (inr other) = absurd (other.0 one.0)
those_alone P (x ∷ xs) a b (inr one) (inl other) = absurd (one.0 other.0)
those_alone P (x ∷ xs) a b (inr one) (inr other) = those_alone P xs a b one.1 other.1

findings_alone : {A : Type 0} {Breaks : A → Type 0} {finding_at : A → Finding} {sites : List A} {a b : List Finding} → AreFindings Breaks finding_at sites a → AreFindings Breaks finding_at sites b → a ≡ b
findings_alone {A} {Breaks} {finding_at} {sites} one other =
    one.shown ∙ ap (map finding_at) (those_alone Breaks sites one.broken other.broken one.those other.those) ∙ sym other.shown

both : {a b c e : List Finding} → a ≡ b → c ≡ e → a ++ c ≡ b ++ e
both {a} {b} {c} {e} first second = ap (λ all. all ++ c) first ∙ ap (λ all. b ++ all) second

sense_alone : (d : Flat) (a b : List Finding) → AreSenseFindings d a → AreSenseFindings d b → a ≡ b
sense_alone d a b one other =
    one.in_order ∙ ap ranked (both (both (findings_alone one.are_missing other.are_missing) (findings_alone one.are_never other.are_never)) (findings_alone one.are_mixed other.are_mixed)) ∙ sym other.in_order

assign_alone : (d : Flat) (a b : List Finding) → AreAssignFindings d a → AreAssignFindings d b → a ≡ b
assign_alone d a b one other =
    one.in_order ∙ ap ranked (both (both (both (both (both (both (both (findings_alone one.are_blocking other.are_blocking) (findings_alone one.are_nonblocking other.are_nonblocking)) (findings_alone one.are_mixed other.are_mixed)) (findings_alone one.are_several other.are_several)) (findings_alone one.are_undriven other.are_undriven)) (findings_alone one.are_loop other.are_loop)) (findings_alone one.are_latch other.are_latch)) (findings_alone one.are_tristate other.are_tristate)) ∙ sym other.in_order

clock_alone : (cone : ℕ → Type 0) (d : Flat) (a b : List Finding) → AreClockFindings cone d a → AreClockFindings cone d b → a ≡ b
clock_alone cone d a b one other =
    one.in_order ∙ ap ranked (both (findings_alone one.are_derived other.are_derived) (findings_alone one.are_data other.are_data)) ∙ sym other.in_order

reset_alone : (d : Flat) (a b : List Finding) → AreResetFindings d a → AreResetFindings d b → a ≡ b
reset_alone d a b one other =
    one.in_order ∙ ap ranked (both (both (both (findings_alone one.are_shape other.are_shape) (findings_alone one.are_polarity other.are_polarity)) (findings_alone one.are_pair other.are_pair)) (findings_alone one.are_value other.are_value)) ∙ sym other.in_order

case_alone : (d : Flat) (a b : List Finding) → AreCaseFindings d a → AreCaseFindings d b → a ≡ b
case_alone d a b one other =
    one.in_order ∙ ap ranked (both (both (findings_alone one.are_full other.are_full) (findings_alone one.are_parallel other.are_parallel)) (findings_alone one.are_unknown other.are_unknown)) ∙ sym other.in_order

unknown_alone : (d : Parts) (a b : List Finding) → AreUnknownFindings d a → AreUnknownFindings d b → a ≡ b
unknown_alone d a b one other =
    one.in_order ∙ ap ranked (both (both (both (both (both (both (both (both (findings_alone one.are_literal other.are_literal) (findings_alone one.are_range other.are_range)) (findings_alone one.are_divide other.are_divide)) (findings_alone one.are_equality other.are_equality)) (findings_alone one.are_delay other.are_delay)) (findings_alone one.are_initial other.are_initial)) (findings_alone one.are_region other.are_region)) (findings_alone one.are_optimism other.are_optimism)) (findings_alone one.are_wild other.are_wild)) ∙ sym other.in_order

reading_alone : (d : Parts) (a b : List Finding) → AreReadingFindings d a → AreReadingFindings d b → a ≡ b
reading_alone d a b one other =
    one.in_order
    ∙ ap (λ found. once (found ++ comments d.dropped ++ map note_at d.notes))
    (both (both (findings_alone one.are_target other.are_target) (findings_alone one.are_listed other.are_listed)) (findings_alone one.are_select other.are_select))
    ∙ sym other.in_order

pub alone : (d : Parts) (a b : List Finding) → AreAllFindings d a → AreAllFindings d b → a ≡ b
alone d a b one other =
    one.in_order
    ∙ ap ranked (both (both (both (both (both (both (sense_alone d.flat one.sense other.sense one.are_sense other.are_sense)
    (assign_alone d.flat one.assigned other.assigned one.are_assigned other.are_assigned))
    (clock_alone (InCone d.flat) d.flat one.clocked other.clocked one.are_clocked other.are_clocked))
    (reset_alone d.flat one.reset other.reset one.are_reset other.are_reset))
    (case_alone d.flat one.cases other.cases one.are_cases other.are_cases))
    (unknown_alone d one.unknown other.unknown one.are_unknown other.are_unknown))
    (reading_alone d one.readings other.readings one.are_readings other.are_readings))
    ∙ sym other.in_order
