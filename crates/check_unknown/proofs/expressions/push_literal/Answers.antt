use Rattle.std.proofs.Common.{◌≡◌, ◌∙◌, sym, ap, arith}
use Rattle.std.proofs.lemmas.Bool.{eqb-true, eqb-false}
use Rattle.std.proofs.lemmas.Result.{on_ok_weaker}
use Rattle.rtl_flat.specs.Process.{Task}
use Rattle.rtl_rule.specs.Parts.{is_literal_with, is_x, least_place, nodes, valued_trees}
use Rattle.rtl_flat.specs.Flats.{flat}
use Rattle.std.specs.List.{flat_map, list_any}
use Rattle.check_unknown.specs.Lists.{tree_spots}
use Rattle.check_unknown.proofs.Processes.{first_literal_found, no_literal_found, same_task, unknown_nowhere}
use Rattle.check_unknown.proofs.expressions.push_literal.Goals as goal

pub returns-then-not-has_unknown_literal : goal.returns-then-not-has_unknown_literal
returns-then-not-has_unknown_literal c = λ other there.
    let none = sym (c.has_unknown_literal.ensures ∙ ap (list_any (is_literal_with is_x)) (c.requires.all other there)) ∙ c.if-not-has_unknown_literal.true in
    unknown_nowhere (flat c.args.design.now) c.args.p.0 other c.args.found.now.items none

pub returns-then-is_empty : goal.returns-then-is_empty
returns-then-is_empty c = λ other there.
    let d = flat c.args.design.now in
    let spots = c.in_ok-spots.spots in
    let same = same_task c.args.design.now.processes.items c.args.p.0 c.index-process.result.now c.requires.there c.index-process.ensures other there in
    let none = eqb-true _ _ (sym c.is_empty.ensures ∙ c.if-is_empty.true) in
    no_literal_found d c.args.p.0 other spots.items c.args.found.now.items
    (c.in_ok-spots.ensures ∙ ap (λ (t : Task). tree_spots (is_literal_with is_x) t.spot (flat_map nodes (valued_trees t.does))) same)
    (omega (arith, none, spots.ok.0))

pub returns : goal.returns
returns c =
    let d = flat c.args.design.now in
    let spots = c.in_ok-spots.spots in
    let some = eqb-false _ _ (sym c.is_empty.ensures ∙ c.if-is_empty.false) in
    on_ok_weaker c.push_all.result
    (λ h. λ other there.
    let same = same_task c.args.design.now.processes.items c.args.p.0 c.index-process.result.now c.requires.there c.index-process.ensures other there in
    h other there
    ∙ first_literal_found d c.args.p.0 other spots.items c.least_place-first.result c.args.found.now.items
    (c.in_ok-spots.ensures ∙ ap (λ (t : Task). tree_spots (is_literal_with is_x) t.spot (flat_map nodes (valued_trees t.does))) same)
    (λ empty. some (let e : _ ≡ 0 = omega (arith, empty, spots.ok.0) in e))
    (c.least_place-first.ensures ∙ ap (λ places. least_place c.index-process.result.now.spot places) c.deref.ensures.value ∙ ap (λ (t : Task). least_place t.spot spots.items) same))
    c.push_all.ensures
