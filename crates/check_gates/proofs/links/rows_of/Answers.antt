use Rattle.std.proofs.Common.{◌∷◌, [], ◌++◌, take, get_or, ap, sym, subst, arith}
use Rattle.std.proofs.lemmas.List.{take_more}
use Rattle.check_gates.specs.Links.{AreRows, IsPut}
use Rattle.check_gates.proofs.Linked.{link_in, link_past}
use Rattle.check_gates.proofs.links.rows_of.Goals as goal
use Rattle.check_gates.proofs.links.rows_of.Goals.{then-place-count+in_ok-push_at, else-place-count}

pub loop-link-preserved : goal.loop-link-preserved
loop-link-preserved c =
    let links = c.args.links.now in
    let at = c.loop-link.link-index in
    let link = get_or links at (record { source = 0; target = 0 }) in
    let rows = c.loop-link.rows.items in
    let next : AreRows c.args.count (take at links ++ link ∷ []) c.if-place-count.rows.items =
    elim c.if-place-count.branch [
      | then-place-count+in_ok-push_at w ↦
          link_in c.args.count (take at links) link rows c.if-place-count.rows.items (omega arith) c.loop-link.invariant
          (subst (IsPut link.source link.target rows) (sym (ap (λ v. v.items) w.rows-is)) w.in_ok-push_at.ensures)
      | else-place-count w ↦
          link_past c.args.count (take at links) link c.if-place-count.rows.items (omega arith)
          (subst (AreRows c.args.count (take at links)) (sym (ap (λ v. v.items) w.rows-is)) c.loop-link.invariant)
    ] in
    subst (λ all. AreRows c.args.count all c.if-place-count.rows.items) (sym (take_more links at (record { source = 0; target = 0 }) (omega arith))) next
