use Rattle.std.proofs.Common.{◌≡◌, ℕ, List, length, get_or, refl, subst, arith, rules}
use Rattle.std.proofs.lemmas.List.Sorted.{answers_always}
use Rattle.rtl_flat.specs.declared.act.ProcId.{ProcId}
use Rattle.rtl_flat.specs.Flats.{flat}
use Rattle.net_order.specs.declared.rank.Placed.{Placed}
use Rattle.net_order.proofs.Ranking.{AreFirst, first_more, first_none, nothing, ranked_all}
use Rattle.net_order.proofs.rank.ranked.Goals as goal

pub loop-placed-init : goal.loop-placed-init
loop-placed-init c =
    first_none c.deref-placed-items.result.now c.new-order.result.items c.new-order.ensures.items

pub loop-placed-preserved : goal.loop-placed-preserved
loop-placed-preserved c =
    let sorted = c.deref-placed-items.result.now in
    let n = c.loop-placed.placed-index in
    let p : ProcId = record { 0 = (get_or sorted n nothing).process } in
    first_more sorted n p c.loop-placed.order.items c.push.new.self.items refl c.in_ok-push.ensures.items c.loop-placed.invariant

pub returns : goal.returns
returns c =
    let items = c.deref-placed-items.result.now in
    let order = c.loop-placed.order.items in
    let e : c.loop-placed.placed-index ≡ length items = omega arith in
    let first : AreFirst items (length items) order = subst (λ (n : ℕ). AreFirst items n order) e c.loop-placed.invariant in
    ranked_all (flat c.args.design.now).tasks c.args.depths.now c.in_ok-sorted.sorted.items c.sort_by_key.new.self.items order c.in_ok-sorted.ensures
    c.sort_by_key.ensures.permutation
    (c.in_ok-sort_by_key.ensures.sorted (λ (x : Placed). x.depth) (answers_always _ _ _ (λ f a r g h. search rules)))
    (subst (λ (xs : List Placed). AreFirst xs (length xs) order) c.deref-placed-items.ensures.value first)
