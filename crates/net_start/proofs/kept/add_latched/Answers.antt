use Rattle.std.proofs.Common.{◌≡◌, ◌∙◌, ◌||◌, ◌&&◌, not, List, ap}
use Rattle.std.proofs.lemmas.Result.{IfOk-weaker}
use Rattle.rtl_flat.specs.Flows.{flow_of}
use Rattle.rtl_flat.specs.Paths.{is_sure}
use Rattle.rtl_rule.specs.Parts.{written}
use Rattle.rtl_flat.specs.Flats.{flat, widths}
use Rattle.check_found.specs.rtl_scan.declared.bits.Row.{Row}
use Rattle.check_found.specs.rtl_scan.Sets.{has, has_rows}
use Rattle.net_start.proofs.kept.add_latched.Goals as goal

pub returns : goal.returns
returns c =
    IfOk-weaker c.add_left.result _ _
    (λ _ made task there s k.
    let d = flat c.args.design.now in
    let old = has c.args.bits.now.masks s k in
    let sure : has c.add.new.bits.masks s k ≡ is_sure (flow_of (widths d) task.does) s k
    = c.in_ok-add.ensures s k ∙ (ap (λ b. b || has_rows c.deref.result.now s k) (c.new-sure.ensures s k)
    ∙ (ap (λ (rows : List Row). has_rows rows s k) c.deref.ensures.value ∙ c.in_ok-always.ensures.bits task there s k)) in
    let may : has_rows c.deref-2.result.now s k ≡ written d task.does s k
    = ap (λ (rows : List Row). has_rows rows s k) c.deref-2.ensures.value ∙ c.in_ok-written.ensures.bits task there s k in
    made s k ∙ (ap (λ b. old || (b && not (has c.add.new.bits.masks s k))) may ∙ ap (λ b. old || (written d task.does s k && not b)) sure))
    c.add_left.ensures
