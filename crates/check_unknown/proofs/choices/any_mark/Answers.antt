use Rattle.std.proofs.Common.{◌∙◌, List, Bor, sym, ap, length, map}
use Rattle.std.specs.List.{list_any}
use Rattle.rtl_flat.specs.declared.expr.SizedExpr.{SizedExpr}
use Rattle.rtl_flat.specs.Expression.{Tree, tree}
use Rattle.rtl_flat.specs.Flats.{flat, widths}
use Rattle.rtl_rule.specs.Parts.{own_reads}
use Rattle.check_chains.proofs.check_parts_proofs.OwnReads.{any_end, any_found, any_next}
use Rattle.check_unknown.specs.Doubts.{meets}
use Rattle.check_unknown.proofs.Doubts.{any_reads, marked_at}
use Rattle.check_unknown.proofs.choices.any_mark.Goals as goal

pub returns-then-reads_mark : goal.returns-then-reads_mark
returns-then-reads_mark c =
    let ws = widths (flat c.args.design.now) in
    let marks = c.args.marks.now in
    let own = λ (one : Tree). meets ws marks (own_reads ws one) in
    let items = c.deref-e-items.result.now in
    let listed = ap (λ (es : List (Bor SizedExpr)). map (λ e. tree e.now) es) c.deref-e-items.ensures.value ∙ c.in_ok-all.ensures in
    sym (any_reads ws marks (λ (e : Bor SizedExpr). e.now) c.args.all.now ∙ ap (list_any own) (sym listed)
    ∙ any_found ws (length marks) (marked_at marks) (λ (e : Bor SizedExpr). tree e.now) items c.loop-e.e-index c.e-item.result c.loop-e-test.true c.e-item.is (sym c.reads_mark.ensures ∙ c.if-reads_mark.true) (list_any own (map (λ e. tree e.now) items)) c.loop-e.invariant)

pub loop-e-preserved : goal.loop-e-preserved
loop-e-preserved c =
    let ws = widths (flat c.args.design.now) in
    let marks = c.args.marks.now in
    let own = λ (one : Tree). meets ws marks (own_reads ws one) in
    let items = c.deref-e-items.result.now in
    any_next ws (length marks) (marked_at marks) (λ (e : Bor SizedExpr). tree e.now) items c.loop-e.e-index c.e-item.result c.loop-e-test.true c.e-item.is (sym c.reads_mark.ensures ∙ c.if-reads_mark.false) (list_any own (map (λ e. tree e.now) items)) c.loop-e.invariant

pub returns : goal.returns
returns c =
    let ws = widths (flat c.args.design.now) in
    let marks = c.args.marks.now in
    let own = λ (one : Tree). meets ws marks (own_reads ws one) in
    let items = c.deref-e-items.result.now in
    let listed = ap (λ (es : List (Bor SizedExpr)). map (λ e. tree e.now) es) c.deref-e-items.ensures.value ∙ c.in_ok-all.ensures in
    sym (any_reads ws marks (λ (e : Bor SizedExpr). e.now) c.args.all.now ∙ ap (list_any own) (sym listed)
    ∙ any_end ws (length marks) (marked_at marks) (λ (e : Bor SizedExpr). tree e.now) items c.loop-e.e-index c.loop-e-test.false (list_any own (map (λ e. tree e.now) items)) c.loop-e.invariant)
