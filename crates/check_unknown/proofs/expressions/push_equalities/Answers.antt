use Rattle.std.specs.Prelude.{Vec}
use Rattle.std.specs.declared.alloc.Global.{Global}
use Rattle.std.proofs.Common.{◌∙◌, ◌++◌, ap, refl, sym}
use Rattle.std.proofs.lemmas.Result.{on_ok_weaker}
use Rattle.text_ground.specs.declared.text.Spot.{Spot}
use Rattle.rtl_flat.specs.Expression.{tree}
use Rattle.rtl_rule.specs.declared.rule.Rule.TheVariants as rule
use Rattle.rtl_rule.specs.Parts.{place_of}
use Rattle.rtl_flat.specs.Flats.{flat}
use Rattle.check_unknown.specs.Lists.{at_spots}
use Rattle.check_unknown.specs.Unknowns.{all_nodes, is_case_equality}
use Rattle.check_unknown.proofs.Lists.{spot_less, spot_more}
use Rattle.check_unknown.proofs.Processes.{spots_end}
use Rattle.check_unknown.proofs.expressions.push_equalities.Goals as goal
use Rattle.check_unknown.proofs.expressions.push_equalities.Goals.{then-is_case_equality+in_ok-push, else-is_case_equality}

pub loop-e-preserved : goal.loop-e-preserved
loop-e-preserved c = λ otherwise.
    let inside = c.loop-e-test.true in
    let items = c.args.all.now in
    elim c.if-is_case_equality.branch [
      | then-is_case_equality+in_ok-push w ↦
          spot_more is_case_equality (λ e. tree e.now) (place_of otherwise) items c.loop-e.e-index c.e-item.result inside c.e-item.is c.loop-e.spots.items (c.loop-e.invariant otherwise) c.if-is_case_equality.spots.items
          (sym c.is_case_equality.ensures ∙ w.if-is_case_equality.true)
          (ap (λ (v : Vec Spot Global). v.items) w.spots-is ∙ w.in_ok-push.ensures.items)
      | else-is_case_equality w ↦
          ap (λ (v : Vec Spot Global). v.items) w.spots-is
          ∙ spot_less is_case_equality (λ e. tree e.now) (place_of otherwise) items c.loop-e.e-index c.e-item.result inside c.e-item.is c.loop-e.spots.items (c.loop-e.invariant otherwise)
          (sym c.is_case_equality.ensures ∙ w.if-is_case_equality.false)
    ]

pub returns : goal.returns
returns c =
    let d = flat c.args.design.now in
    let fs = c.args.found.now.items in
    on_ok_weaker c.push_all.result
    (λ h. λ other there.
    let spots = spots_end (λ e. tree e.now) is_case_equality other.spot c.loop-e.e-index c.args.all.now c.args.all.now (all_nodes other.does) c.loop-e.spots.items c.deref.result.now c.deref.ensures.value (c.loop-e.invariant other.spot) c.loop-e-test.false refl (c.requires.all other there) in
    h other there ∙ ap (λ all. fs ++ at_spots rule.CaseEquality d all other) spots)
    c.push_all.ensures
