use Rattle.std.proofs.Common.{◌≡◌, ◌∙◌, ◌||◌, true, List, ap, sym, subst}
use Rattle.std.specs.Prelude.{◌↔◌}
use Rattle.std.specs.List.{list_any}
use Rattle.rtl_rule.specs.declared.rule.Rule.TheVariants.{SeveralDrivers}
use Rattle.rtl_rule.specs.Parts.{written}
use Rattle.rtl_flat.specs.Flats.{flat}
use Rattle.check_assign.specs.rtl_scan.declared.bits.Row.{Row}
use Rattle.check_assign.specs.rtl_scan.Sets.{has, has_rows, mask_of}
use Rattle.check_assign.specs.Marks.{shares}
use Rattle.check_assign.proofs.Turns.{lower_next, task_of}
use Rattle.net_list.specs.Faults.{HasFault}
use Rattle.net_list.proofs.Meeting.{meets_is}
use Rattle.net_list.proofs.drivers.drives_again.Goals as goal

pub returns-clause-again : goal.returns-clause-again
returns-clause-again c =
    let d = flat c.args.design.now in
    let p = c.args.p.0 in
    let (one, there) = task_of c.args.design.now p c.requires.inside in
    let masks = mask_of c.args.lower.now.masks in
    let same : c.any_shares-again.result ≡ list_any (shares masks) c.in_ok-written.written.rows.items = c.any_shares-again.ensures ∙ ap (list_any (shares masks)) c.deref.ensures.value in
    subst (λ b. b ≡ true ↔ HasFault d p SeveralDrivers) (sym same)
    (meets_is d p one there masks c.in_ok-written.written.rows.items c.requires.lower (c.in_ok-written.ensures.bits one there))

pub returns-clause-lower : goal.returns-clause-lower
returns-clause-lower c = λ s k.
    let d = flat c.args.design.now in
    let p = c.args.p.0 in
    let (one, there) = task_of c.args.design.now p c.requires.inside in
    let old = has c.args.lower.now.masks s k in
    c.in_ok-add.ensures s k
    ∙ ap (λ (rows : List Row). old || has_rows rows s k) c.deref-2.ensures.value
    ∙ ap (λ b. old || b) (c.in_ok-written.ensures.bits one there s k)
    ∙ ap (λ b. b || written d one.does s k) (c.requires.lower s k)
    ∙ sym (lower_next d p one there s k)
