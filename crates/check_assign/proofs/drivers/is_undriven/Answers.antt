use Rattle.std.proofs.Common.{◌≡◌, ◌∙◌, ◌&&◌, not, false, sym, ap}
use Rattle.rtl_rule.specs.Parts.{has_some}
use Rattle.rtl_flat.specs.Flats.{flat, widths}
use Rattle.check_loops.specs.check_found.Masks.{has_in, mask_in}
use Rattle.event_model.specs.Queue.{is_input_kind}
use Rattle.check_assign.proofs.Hits.{whole_leaves}
use Rattle.check_assign.proofs.drivers.is_undriven.Goals as goal

pub returns-then-not-is_input : goal.returns-then-not-is_input
returns-then-not-is_input c =
    let ws = widths (flat c.args.design.now) in
    let other : is_input_kind c.args.signal.now.kind ≡ false = cc in
    c.leaves.ensures ∙ whole_leaves (mask_in c.args.driven.now) ws c.args.number.0 c.selected.result c.selected.ensures
    ∙ ap (λ b. not b && has_some ws (λ s k. not (has_in c.args.driven.now s k)) c.args.number.0) (sym other)
