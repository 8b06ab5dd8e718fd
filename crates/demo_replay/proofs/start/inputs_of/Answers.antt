use Rattle.std.proofs.Common.{◌≡◌, ◌∙◌, ◌<◌, Vec, ap, length, map, rules, subst, sym}
use Rattle.std.specs.Slice.Iter.{iter_rest}
use Rattle.std.specs.Vec.{vec_items}
use Rattle.std.specs.declared.alloc.Global.{Global}
use Rattle.std.proofs.lemmas.Iterator.{YieldsList-from_map_by, YieldsList-from_slice}
use Rattle.std.proofs.lemmas.Iterator.Adapters.{serves_from_places}
use Rattle.std.proofs.lemmas.Iterator.Consumers.{map_from_collect}
use Rattle.std.proofs.lemmas.Result.{IfOk-at_ok}
use Rattle.rtl_flat.specs.declared.expr.SigId.{SigId}
use Rattle.rtl_flat.specs.Flats.{flat}
use Rattle.netlist_eval.specs.Sims.{shown}
use Rattle.demo_trials.specs.declared.input.Input.{Input as Made}
use Rattle.demo_trials.specs.Steps.{input}
use Rattle.demo_replay.specs.Runs.{input_of}
use Rattle.demo_replay.specs.Tables.{plain}
use Rattle.demo_replay.proofs.Starting.{over_places, tops_inside}
use Rattle.demo_replay.proofs.start.inputs_of.Goals as goal

pub collect-requires-clause-can : goal.collect-requires-clause-can
collect-requires-clause-can c =
    let kept = c.args.setup.now in
    let tops = kept.basis.tops.items in
    let road = YieldsList-from_slice tops (ap iter_rest c.map.ensures.source ∙ c.iter.ensures.rest ∙ c.deref.ensures.value) in (
      tt {0},
      serves_from_places road (λ x q k. search rules) (λ x k below is.
          let inside : x.now.0 < length kept.design.now.signals.items = subst (λ (one : SigId). one.0 < length kept.design.now.signals.items) (sym is) (tops_inside (flat kept.design.now) tops c.requires.is_of.basis.tops k x.now below) in
          search (rules, inside)),
    )

pub returns : goal.returns
returns c =
    let kept = c.args.setup.now in
    let tops = kept.basis.tops.items in
    let one = input_of (flat kept.design.now) (plain kept) (shown c.args.net.now) in
    IfOk-at_ok (λ (w : Vec Made Global). map input (vec_items w) ≡ map (λ (top : SigId). one top.0) tops) c.in_ok-inputs.was
    (map_from_collect c.collect.result c.collect.ensures.ran
    (YieldsList-from_map_by _ input (λ (top : SigId). one top.0) (YieldsList-from_slice tops (ap iter_rest c.map.ensures.source ∙ c.iter.ensures.rest ∙ c.deref.ensures.value)) c.map.ensures.closure (λ x r q k. search rules)))
    ∙ over_places one tops
