use Rattle.std.proofs.Common.{◌≡◌, ◌∙◌, [], ◌∷◌, true, false, not, ◌&&◌, List, sym, ap, subst}
use Rattle.std.proofs.lemmas.Bool.{both_ways}
use Rattle.rtl_rule.specs.declared.finding.Finding.{Finding}
use Rattle.rtl_rule.specs.Parts.{has_some}
use Rattle.rtl_flat.specs.Flats.{flat, widths}
use Rattle.check_loops.specs.check_found.Masks.{has_in}
use Rattle.check_loops.specs.check_found.Gathered.{Gets}
use Rattle.check_loops.proofs.check_found_proofs.Gathering.{gets_nothing, gets_one}
use Rattle.event_model.specs.Queue.{is_input_kind}
use Rattle.check_assign.specs.Assigned.{IsUndriven, is_written, undriven_at}
use Rattle.check_assign.proofs.Below.{below_same}
use Rattle.check_assign.proofs.drivers.push_undriven.Goals as goal

pub returns-then-not-is_undriven : goal.returns-then-not-is_undriven
returns-then-not-is_undriven c =
    let d = flat c.args.design.now in
    let s = c.args.number.0 in
    let test : (not (is_input_kind c.args.signal.now.kind) && has_some (widths d) (λ i k. not (has_in c.args.driven.now i k)) s) ≡ false = cc in
    let same = below_same (widths d s) (λ k. not (has_in c.args.driven.now s k)) (λ k. not (is_written d s k)) (λ k. ap not (c.requires s k)) in
    gets_nothing (IsUndriven d) undriven_at c.args.found.now.items (s, c.args.signal.now)
    (λ broken. both_ways _ test (ap (λ b. not (is_input_kind c.args.signal.now.kind) && b) same ∙ broken))

pub returns : goal.returns
returns c =
    let d = flat c.args.design.now in
    let s = c.args.number.0 in
    let test : (not (is_input_kind c.args.signal.now.kind) && has_some (widths d) (λ i k. not (has_in c.args.driven.now i k)) s) ≡ true = cc in
    let same = below_same (widths d s) (λ k. not (has_in c.args.driven.now s k)) (λ k. not (is_written d s k)) (λ k. ap not (c.requires s k)) in
    subst (λ (fs : List Finding). Gets (IsUndriven d) undriven_at ((s, c.args.signal.now) ∷ []) c.args.found.now.items fs) (sym c.in_ok-push.ensures.items)
    (gets_one (IsUndriven d) undriven_at c.args.found.now.items (s, c.args.signal.now) (sym (ap (λ b. not (is_input_kind c.args.signal.now.kind) && b) same) ∙ test))
