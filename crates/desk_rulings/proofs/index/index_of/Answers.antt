use Rattle.std.proofs.Common.{◌∙◌, ◌+◌, drop, subst, sym, ap}
use Rattle.name_map.specs.Values.{values_of}
use Rattle.desk_rulings.proofs.Indexed.{Leads, leads_else, leads_none, leads_then}
use Rattle.desk_rulings.proofs.index.index_of.Goals as goal
use Rattle.desk_rulings.proofs.index.index_of.Goals.{then-stands+in_ok-subject+in_ok-enter, else-stands}

pub loop-row-init : goal.loop-row-init
loop-row-init c =
    subst (λ it. Leads it c.args.today c.args.rows.now c.args.rows.now) (sym c.new-index.ensures)
    (leads_none c.args.today c.args.rows.now)

pub loop-row-preserved : goal.loop-row-preserved
loop-row-preserved c =
    elim c.if-stands.branch [
      | then-stands+in_ok-subject+in_ok-enter w ↦
          leads_then (values_of c.loop-row.index) (values_of c.if-stands.index) c.args.today c.args.rows.now c.loop-row.row-index c.row-item.result w.in_ok-subject.subject c.loop-row-test.true c.row-item.is
          (sym c.stands.ensures ∙ w.if-stands.true) w.row_subject.ensures.small w.in_ok-subject.ensures.same
          (ap (λ it. values_of it) w.index-is ∙ w.in_ok-enter.ensures.ok) c.loop-row.invariant
      | else-stands w ↦
          subst (λ it. Leads (values_of it) c.args.today (drop (c.loop-row.row-index + 1) c.args.rows.now) c.args.rows.now) (sym w.index-is)
          (leads_else (values_of c.loop-row.index) c.args.today c.args.rows.now c.loop-row.row-index c.row-item.result c.loop-row-test.true c.row-item.is
          (sym c.stands.ensures ∙ w.if-stands.false) c.loop-row.invariant)
    ]
