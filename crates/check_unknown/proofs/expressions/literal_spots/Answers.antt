use Rattle.std.specs.Prelude.{Vec}
use Rattle.std.specs.declared.alloc.Global.{Global}
use Rattle.std.proofs.Common.{◌∙◌, List, ap, sym, refl, map, Bor}
use Rattle.text_ground.specs.declared.text.Spot.{Spot}
use Rattle.rtl_flat.specs.Expression.{tree}
use Rattle.std.specs.List.{flat_map}
use Rattle.rtl_flat.specs.declared.expr.SizedExpr.{SizedExpr}
use Rattle.rtl_flat.specs.Process.{doing}
use Rattle.rtl_rule.specs.Parts.{is_literal_with, is_x, nodes, place_of, valued_trees}
use Rattle.check_unknown.proofs.Lists.{spot_less, spot_more}
use Rattle.check_unknown.proofs.Processes.{spots_end}
use Rattle.check_unknown.proofs.expressions.literal_spots.Goals as goal
use Rattle.check_unknown.proofs.expressions.literal_spots.Goals.{then-is_unknown_literal+in_ok-push, else-is_unknown_literal}

pub loop-e-preserved : goal.loop-e-preserved
loop-e-preserved c =
    let inside = c.loop-e-test.true in
    let items = c.deref-e-items.result.now in
    elim c.if-is_unknown_literal.branch [
      | then-is_unknown_literal+in_ok-push w ↦
          spot_more (is_literal_with is_x) (λ e. tree e.now) (place_of c.args.process.now.spot) items c.loop-e.e-index c.e-item.result inside c.e-item.is c.loop-e.spots.items (c.loop-e.invariant) c.if-is_unknown_literal.spots.items
          (sym c.is_unknown_literal.ensures ∙ w.if-is_unknown_literal.true)
          (ap (λ (v : Vec Spot Global). v.items) w.spots-is ∙ w.in_ok-push.ensures.items)
      | else-is_unknown_literal w ↦
          ap (λ (v : Vec Spot Global). v.items) w.spots-is
          ∙ spot_less (is_literal_with is_x) (λ e. tree e.now) (place_of c.args.process.now.spot) items c.loop-e.e-index c.e-item.result inside c.e-item.is c.loop-e.spots.items (c.loop-e.invariant)
          (sym c.is_unknown_literal.ensures ∙ w.if-is_unknown_literal.false)
    ]

pub returns : goal.returns
returns c =
    let found = flat_map nodes (valued_trees (doing c.args.process.now.does)) in
    spots_end (λ e. tree e.now) (is_literal_with is_x) c.args.process.now.spot c.loop-e.e-index c.deref-e-items.result.now c.in_ok-all.all.items found c.loop-e.spots.items c.loop-e.spots.items refl c.loop-e.invariant c.loop-e-test.false c.deref-e-items.ensures.value
    (c.in_ok-all.ensures ∙ ap (λ (es : List (Bor SizedExpr)). flat_map nodes (map (λ e. tree e.now) es)) c.deref.ensures.value ∙ ap (flat_map nodes) c.in_ok-valued.ensures)
