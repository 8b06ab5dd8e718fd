use Rattle.std.proofs.Common.{◌∙◌, List, Bor, ap, append-nil, length, map, sym}
use Rattle.std.specs.List.{list_any}
use Rattle.rtl_flat.specs.declared.expr.SizedExpr.{SizedExpr}
use Rattle.rtl_flat.specs.Expression.{Tree, tree}
use Rattle.rtl_flat.specs.Flats.{flat, widths}
use Rattle.rtl_rule.specs.Parts.{nodes, own_reads, reads_signal}
use Rattle.check_parts.specs.Reads.{meets}
use Rattle.check_parts.proofs.OwnReads.{any_end, any_found, any_next, any_signal, own_no, own_some, tree_reads}
use Rattle.check_parts.proofs.reads.reads_signal.Goals as goal

pub loop-one-init : goal.loop-one-init
loop-one-init c =
    let d = flat c.args.design.now in
    let own = λ (one : Tree). meets (widths d) (length d.signals) any_signal (own_reads (widths d) one) in
    ap (list_any own) (ap (λ (es : List (Bor SizedExpr)). map (λ e. tree e.now) es) c.deref-one-items.ensures.value ∙ c.in_ok-nodes.ensures ∙ append-nil (nodes (tree c.args.e.now)))
    ∙ sym (tree_reads (widths d) (length d.signals) any_signal c.args.e.now)

pub returns-in-Some : goal.returns-in-Some
returns-in-Some c =
    let d = flat c.args.design.now in
    sym (any_found (widths d) (length d.signals) any_signal (λ (e : Bor SizedExpr). tree e.now) c.deref-one-items.result.now c.loop-one.one-index c.one-item.result c.loop-one-test.true c.one-item.is (own_some d (tree c.one-item.result.now) c.in-Some.field-0 c.in-Some.ensures) (reads_signal d (tree c.args.e.now)) c.loop-one.invariant)

pub loop-one-preserved : goal.loop-one-preserved
loop-one-preserved c =
    let d = flat c.args.design.now in
    any_next (widths d) (length d.signals) any_signal (λ (e : Bor SizedExpr). tree e.now) c.deref-one-items.result.now c.loop-one.one-index c.one-item.result c.loop-one-test.true c.one-item.is (own_no d (tree c.one-item.result.now) c.in-None.ensures) (reads_signal d (tree c.args.e.now)) c.loop-one.invariant

pub returns : goal.returns
returns c =
    let d = flat c.args.design.now in
    sym (any_end (widths d) (length d.signals) any_signal (λ (e : Bor SizedExpr). tree e.now) c.deref-one-items.result.now c.loop-one.one-index c.loop-one-test.false (reads_signal d (tree c.args.e.now)) c.loop-one.invariant)
