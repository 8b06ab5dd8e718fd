use Rattle.std.proofs.Common.{◌∙◌, ap, subst, map, List}
use Rattle.std.specs.List.{flat_map}
use Rattle.std.proofs.lemmas.List.{take_all}
use Rattle.rtl_flat.specs.Process.{Task, action, task}
use Rattle.rtl_rule.specs.Parts.{At, within}
use Rattle.rtl_flat.specs.Flats.{flat}
use Rattle.check_found.specs.Gathered.{Gets, task_sites}
use Rattle.check_found.proofs.Sites.{task_at}
use Rattle.check_case.specs.Cases.{IsUnknownItem, Label, own_kinds, unknown_item_at}
use Rattle.check_case.specs.Claims.{kinds_in}
use Rattle.check_case.proofs.Claimed.{flat_maps, gets_more, task_is}
use Rattle.check_case.proofs.unknown.push_unknown.Goals as goal

pub loop-one-preserved : goal.loop-one-preserved
loop-one-preserved c =
    let d = flat c.args.scans.now.design.now in
    let process = c.index-process.result.now in
    let first = c.first_written-signal.ensures (task process) (task_at c.args.scans.now.design.now c.args.p.0 process c.requires.there c.index-process.ensures) in
    gets_more IsUnknownItem (unknown_item_at d) (λ one. map (within (c.args.p.0, task process)) (own_kinds (action one.now))) c.deref-one-items.result.now c.loop-one.one-index c.one-item.result c.loop-one-test.true c.one-item.is c.args.found.now.items c.loop-one.found.items c.push_statement.new.found.items c.loop-one.invariant (c.in_ok-push_statement.ensures d c.args.p.0 first)

pub returns : goal.returns
returns c = λ t at.
    let d = flat c.args.scans.now.design.now in
    let process = c.index-process.result.now in
    let same = task_is c.args.scans.now.design.now c.args.p.0 process c.requires.there c.index-process.ensures t at in
    let sites_of = within (c.args.p.0, task process) in
    subst (λ (t : Task). Gets IsUnknownItem (unknown_item_at d) (task_sites kinds_in c.args.p.0 t) c.args.found.now.items c.loop-one.found.items) same
    (subst (λ (sites : List (At Label)). Gets IsUnknownItem (unknown_item_at d) sites c.args.found.now.items c.loop-one.found.items)
    (ap (flat_map (λ one. map sites_of (own_kinds (action one.now)))) (take_all c.loop-one.one-index c.deref-one-items.result.now c.loop-one-test.false ∙ c.deref-one-items.ensures.value)
    ∙ flat_maps sites_of own_kinds (λ one. action one.now) c.in_ok-all.all.items
    ∙ ap (λ all. map sites_of (flat_map own_kinds all)) c.in_ok-all.ensures)
    c.loop-one.invariant)
