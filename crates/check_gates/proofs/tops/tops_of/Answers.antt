use Rattle.std.proofs.Common.{◌≡◌, ◌∙◌, ◌+◌, length, ap, sym, subst}
use Rattle.rtl_flat.specs.Flats.{flat}
use Rattle.check_gates.specs.Links.{AreRows}
use Rattle.check_gates.specs.Tops.{AreTops, IsNoted}
use Rattle.check_gates.proofs.Linked.{ArePlain}
use Rattle.check_gates.proofs.Topped.{tops_next, tops_pass}
use Rattle.check_gates.proofs.tops.tops_of.Goals as goal
use Rattle.check_gates.proofs.tops.tops_of.Goals.{then-is_top+in_ok-note_top, else-is_top}

pub loop-top-preserved : goal.loop-top-preserved
loop-top-preserved c =
    let d = flat c.args.design.now in
    let rows = c.in_ok-rows.rows.items in
    let count : c.len-count.result ≡ length d.signals = c.len-count.ensures ∙ c.args.design.now.signals.ok.0 in
    let links = c.deref.ensures.value ∙ c.in_ok-links.ensures in
    let plain : ArePlain d rows =
    record { are = subst (λ all. AreRows (length d.signals) all rows) links (subst (λ n. AreRows n c.deref.result.now rows) count c.in_ok-rows.ensures) } in
    elim c.if-is_top.branch [
      | then-is_top+in_ok-note_top w ↦
          tops_next d rows plain c.loop-top.top c.loop-top.tops.items c.if-is_top.tops.items c.loop-top.invariant (sym c.is_top.ensures ∙ w.if-is_top.true)
          (subst (IsNoted rows c.loop-top.top c.loop-top.tops.items) (sym (ap (λ v. v.items) w.tops-is))
          (subst (λ all. IsNoted all c.loop-top.top c.loop-top.tops.items w.note_top.new.tops.items) w.deref-then-is_top.ensures.value w.in_ok-note_top.ensures))
      | else-is_top w ↦
          subst (AreTops d (c.loop-top.top + 1)) (sym (ap (λ v. v.items) w.tops-is))
          (tops_pass d rows plain c.loop-top.top c.loop-top.tops.items c.loop-top.invariant (sym c.is_top.ensures ∙ w.if-is_top.false))
    ]
