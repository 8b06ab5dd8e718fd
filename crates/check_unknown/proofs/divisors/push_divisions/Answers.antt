use Rattle.std.specs.Prelude.{Vec}
use Rattle.std.specs.declared.alloc.Global.{Global}
use Rattle.std.proofs.Common.{◌∙◌, ◌<◌, ◌++◌, ap, arith, refl, sym, map, length}
use Rattle.std.proofs.lemmas.Result.{on_ok_weaker}
use Rattle.text_ground.specs.declared.text.Spot.{Spot}
use Rattle.rtl_flat.specs.Expression.{tree}
use Rattle.rtl_flat.specs.Process.{task}
use Rattle.rtl_flat.specs.Signs.{width_in}
use Rattle.rtl_flat.specs.Sizes.{IsSized}
use Rattle.check_chains.proofs.rtl_scan_proofs.Processes.{length-tasks}
use Rattle.check_unknown.proofs.Sized.{all_sized, each_at}
use Rattle.rtl_rule.specs.declared.rule.Rule.TheVariants as rule
use Rattle.rtl_rule.specs.Parts.{place_of}
use Rattle.rtl_flat.specs.Flats.{flat}
use Rattle.check_unknown.specs.Lists.{at_spots}
use Rattle.check_unknown.specs.Unknowns.{all_nodes, divides_by_other}
use Rattle.check_unknown.proofs.Lists.{spot_less, spot_more}
use Rattle.check_unknown.proofs.Processes.{slice_there, spots_end}
use Rattle.check_unknown.proofs.divisors.push_divisions.Goals as goal
use Rattle.check_unknown.proofs.divisors.push_divisions.Goals.{then-branch+in_ok-push, else-branch}

pub loop-e-preserved : goal.loop-e-preserved
loop-e-preserved c = λ otherwise.
    let inside = c.loop-e-test.true in
    let items = c.args.all.now in
    elim c.if-branch.branch [
      | then-branch+in_ok-push w ↦
          spot_more (divides_by_other (flat c.args.design.now)) (λ e. tree e.now) (place_of otherwise) items c.loop-e.e-index c.e-item.result inside c.e-item.is c.loop-e.spots.items (c.loop-e.invariant otherwise) c.if-branch.spots.items
          (sym c.in_ok-divides_by_other.ensures ∙ w.if-branch.true)
          (ap (λ (v : Vec Spot Global). v.items) w.spots-is ∙ w.in_ok-push.ensures.items)
      | else-branch w ↦
          ap (λ (v : Vec Spot Global). v.items) w.spots-is
          ∙ spot_less (divides_by_other (flat c.args.design.now)) (λ e. tree e.now) (place_of otherwise) items c.loop-e.e-index c.e-item.result inside c.e-item.is c.loop-e.spots.items (c.loop-e.invariant otherwise)
          (sym c.in_ok-divides_by_other.ensures ∙ w.if-branch.false)
    ]

pub divides_by_other-requires-clause-sized : goal.divides_by_other-requires-clause-sized
divides_by_other-requires-clause-sized c =
    let design = c.args.design.now in
    let signals = design.signals.items in
    let tasks = map task design.processes.items in
    let fits = IsSized (length signals) (width_in signals) in
    let count = length-tasks design.processes.items in
    let inside : c.args.p.0 < length tasks = omega (arith, count, c.requires.there) in
    let (one, there) = slice_there tasks c.args.p.0 inside in
    each_at fits (λ e. tree e.now) c.args.all.now (all_nodes one.does) (c.requires.all one there) (all_sized signals tasks design.is_design.each_process c.args.p.0 one there) c.loop-e.e-index c.e-item.result c.loop-e-test.true c.e-item.is

pub returns : goal.returns
returns c =
    let d = flat c.args.design.now in
    let fs = c.args.found.now.items in
    on_ok_weaker c.push_all.result
    (λ h. λ other there.
    let spots = spots_end (λ e. tree e.now) (divides_by_other d) other.spot c.loop-e.e-index c.args.all.now c.args.all.now (all_nodes other.does) c.loop-e.spots.items c.deref.result.now c.deref.ensures.value (c.loop-e.invariant other.spot) c.loop-e-test.false refl (c.requires.all other there) in
    h other there ∙ ap (λ all. fs ++ at_spots rule.DivideVariable d all other) spots)
    c.push_all.ensures
