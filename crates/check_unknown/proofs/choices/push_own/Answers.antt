use Rattle.std.proofs.Common.{◌∙◌, ◌++◌, List, Bor, ap, map}
use Rattle.std.proofs.lemmas.List.{map-append}
use Rattle.std.proofs.lemmas.Result.{on_ok_weaker}
use Rattle.rtl_flat.specs.declared.expr.SizedExpr.{SizedExpr}
use Rattle.rtl_flat.specs.Expression.{Tree, tree}
use Rattle.rtl_flat.specs.Process.{action}
use Rattle.rtl_rule.specs.Parts.{own_trees}
use Rattle.rtl_flat.specs.Flats.{flat, widths}
use Rattle.check_unknown.specs.Doubts.{choice_spots}
use Rattle.check_unknown.specs.Unknowns.{choice}
use Rattle.check_unknown.proofs.choices.push_own.Goals as goal

pub returns : goal.returns
returns c =
    let t = λ (e : Bor SizedExpr). tree e.now in
    let a = action c.args.one.now in
    let all = c.in_ok-all.all.items in
    let labels = c.in_ok-labels.labels.items in
    let listed = ap (map t) (c.deref-2.ensures.value ∙ c.in_ok-extend_from_slice.ensures.items ∙ ap (λ (ls : List (Bor SizedExpr)). all ++ ls) c.deref.ensures.value) ∙ map-append t all labels ∙ ap (λ xs. xs ++ map t labels) c.in_ok-all.ensures ∙ ap (λ ys. own_trees a ++ ys) c.in_ok-labels.ensures in
    on_ok_weaker c.push_if.result
    (λ h. h ∙ ap (λ (es : List Tree). c.args.spots.now.items ++ choice_spots (widths (flat c.args.design.now)) c.args.marks.now (choice c.args.spot es)) listed)
    c.push_if.ensures
