use Rattle.std.proofs.Common.{◌∙◌, ◌++◌, [], List, Bor, ap, map}
use Rattle.std.specs.List.{flat_map}
use Rattle.std.proofs.lemmas.List.{take_all}
use Rattle.std.proofs.lemmas.Result.{on_ok_weaker}
use Rattle.rtl_flat.specs.declared.act.Act.{Act}
use Rattle.rtl_flat.specs.Process.{Action, Task, action}
use Rattle.rtl_rule.specs.declared.rule.Rule.{Rule}
use Rattle.rtl_rule.specs.Parts.{statements}
use Rattle.rtl_flat.specs.Flats.{flat, widths}
use Rattle.check_unknown.specs.Doubts.{choice_spots, choices_of}
use Rattle.check_unknown.specs.Lists.{at_spots}
use Rattle.check_unknown.proofs.Doubts.{choices_more}
use Rattle.check_unknown.proofs.Processes.{same_task}
use Rattle.check_unknown.proofs.choices.Sought.push_process.Goals as goal

pub loop-one-preserved : goal.loop-one-preserved
loop-one-preserved c =
    choices_more (widths (flat c.args.design.now)) c.args.marks.now (choices_of c.args.self) (λ (one : Bor Act). action one.now) c.deref-one-items.result.now c.loop-one.one-index c.one-item.result c.loop-one-test.true c.one-item.is [] c.loop-one.spots.items c.push.new.spots.items c.loop-one.invariant c.in_ok-push.ensures

pub returns : goal.returns
returns c =
    let d = flat c.args.design.now in
    let one = c.index.result.now in
    let fs = c.args.found.now.items in
    let shown = λ (acts : List Action). choice_spots (widths d) c.args.marks.now (flat_map (choices_of c.args.self) acts) in
    on_ok_weaker c.push_all.result
    (λ h. λ other there.
    let same = same_task c.args.design.now.processes.items c.args.p.0 one c.requires c.index.ensures other there in
    let listed = ap (λ (acts : List (Bor Act)). map (λ a. action a.now) acts) c.deref-one-items.ensures.value ∙ c.in_ok-all.ensures in
    let spots = c.deref.ensures.value ∙ c.loop-one.invariant ∙ ap (λ (acts : List (Bor Act)). shown (map (λ a. action a.now) acts)) (take_all c.loop-one.one-index c.deref-one-items.result.now c.loop-one-test.false) ∙ ap shown listed ∙ ap (λ (t : Task). shown (statements t.does)) same in
    h other there ∙ ap (λ all. fs ++ at_spots c.rule.result d all other) spots ∙ ap (λ (name : Rule). fs ++ at_spots name d (shown (statements other.does)) other) c.rule.ensures)
    c.push_all.ensures
