use Rattle.std.proofs.Common.{◌≡◌, ◌∙◌, ◌<◌, ◌≤◌, ◌-◌, sym, ap, map, take, vec_len, arith}
use Rattle.rtl_flat.specs.Process.{action, body_of, watched}
use Rattle.rtl_flat.specs.Flats.{flat}
use Rattle.check_chains.proofs.Steps.{begins, last_is, none_is, step_more, step_none, without_edge}
use Rattle.check_chains.proofs.Taken.{all_watched}
use Rattle.check_chains.proofs.chain.edge_chain.Goals as goal

pub returns-then-not-all_edges : goal.returns-then-not-all_edges
returns-then-not-all_edges c =
    without_edge (flat c.args.design.now) (map watched c.args.events.now) (body_of (map action c.args.body.now))
    (sym (all_watched c.args.events.now) ∙ sym c.all_edges.ensures ∙ c.if-not-all_edges.true)

pub returns-in_default : goal.returns-in_default
returns-in_default c =
    let d = flat c.args.design.now in
    let more : 1 < vec_len c.loop-left.left = omega arith in
    step_none d c.loop-left.resets.items c.loop-left.left.items (vec_len c.loop-left.left) (body_of (map action c.loop-left.rest.now)) more c.in_default.ensures
    ∙ c.loop-left.invariant
    ∙ begins d (map watched c.args.events.now) (body_of (map action c.args.body.now))
    (sym (all_watched c.args.events.now) ∙ sym c.all_edges.ensures ∙ c.if-not-all_edges.false)

pub loop-left-preserved : goal.loop-left-preserved
loop-left-preserved c =
    let d = flat c.args.design.now in
    let more : 1 < vec_len c.loop-left.left = omega arith in
    step_more d c.loop-left.resets.items c.loop-left.left.items (vec_len c.loop-left.left) (body_of (map action c.loop-left.rest.now)) more c.in-Some.step c.step_of.new.events.items (vec_len c.step_of.new.events) c.in-Some.ensures.0 c.in-Some.ensures.1 c.push.new.self.items c.in_ok-push.ensures.items
    ∙ c.loop-left.invariant

pub returns-in-Some-pop : goal.returns-in-Some-pop
returns-in-Some-pop c =
    let d = flat c.args.design.now in
    let left = c.loop-left.left in
    let few : vec_len left ≤ 1 = omega arith in
    let none : vec_len left - 1 ≡ 0 = omega arith in
    last_is d c.loop-left.resets.items left.items (vec_len left) (body_of (map action c.loop-left.rest.now)) few c.pop.new.self.items c.in-Some-pop.clock (c.in-Some-pop.ensures.rest ∙ ap (λ k. take k left.items) none) c.in-Some-pop.ensures.items
    ∙ c.loop-left.invariant
    ∙ begins d (map watched c.args.events.now) (body_of (map action c.args.body.now))
    (sym (all_watched c.args.events.now) ∙ sym c.all_edges.ensures ∙ c.if-not-all_edges.false)

pub returns : goal.returns
returns c =
    let d = flat c.args.design.now in
    let left = c.loop-left.left in
    let few : vec_len left ≤ 1 = omega arith in
    let none : vec_len left - 1 ≡ 0 = omega arith in
    none_is d c.loop-left.resets.items left.items (vec_len left) (body_of (map action c.loop-left.rest.now)) few c.pop.new.self.items (c.in-None.ensures.rest ∙ ap (λ k. take k left.items) none) c.in-None.ensures.items
    ∙ c.loop-left.invariant
    ∙ begins d (map watched c.args.events.now) (body_of (map action c.args.body.now))
    (sym (all_watched c.args.events.now) ∙ sym c.all_edges.ensures ∙ c.if-not-all_edges.false)
