use Rattle.std.proofs.Common.{◌≡◌, ◌∙◌, ◌<◌, false, length, get_or, replicate, rules, sym, ap, subst, arith}
use Rattle.std.proofs.lemmas.List.{get_or_read, length-replicate}
use Rattle.check_chains.specs.rtl_scan.Graph.{row}
use Rattle.check_gates.specs.Reach.{Finds}
use Rattle.check_gates.proofs.Reached.{found_below, row_read, search_begins, search_ends, search_goes_on}
use Rattle.check_gates.proofs.reach.reached.Goals as goal

pub loop-next-init : goal.loop-next-init
loop-next-init c =
    let marks : c.in_ok-vec.field-0.items ≡ replicate (length c.args.rows.now) false = c.in_ok-vec.ensures.items_if_clones_equal (λ y e. search rules) in
    search_begins c.args.rows.now c.args.start _ c.add.new.self c.requires marks c.new.ensures.items (ap length marks ∙ length-replicate (length c.args.rows.now) false) c.in_ok-add.ensures

pub bounds-rows-node : goal.bounds-rows-node
bounds-rows-node c =
    let below = found_below c.args.rows.now c.args.start c.loop-next.next c.loop-next.reach c.loop-next.invariant c.loop-next.next (omega arith) in
    let read = get_or_read c.loop-next.reach.found.items c.loop-next.next c.index-node.result.now (omega arith) c.index-node.ensures 0 in
    omega (arith, below, read)

pub loop-next-preserved : goal.loop-next-preserved
loop-next-preserved c =
    let rows = c.args.rows.now in
    let node = c.index-node.result.now in
    let found = c.loop-next.reach.found.items in
    let read : node ≡ get_or found c.loop-next.next 0 = get_or_read found c.loop-next.next node (omega arith) c.index-node.ensures 0 in
    let inside = found_below rows c.args.start c.loop-next.next c.loop-next.reach c.loop-next.invariant c.loop-next.next (omega arith) in
    let below : node < length rows = omega (arith, inside, read) in
    let same : c.deref.result.now ≡ row rows (get_or found c.loop-next.next 0) =
    c.deref.ensures.value ∙ ap (λ v. v.items) c.index-rows-node.is ∙ sym (row_read rows node _ below) ∙ ap (row rows) read in
    search_goes_on rows c.args.start c.loop-next.next c.loop-next.reach c.add_all.new.self (omega arith) c.loop-next.invariant
    (subst (λ nodes. Finds nodes c.loop-next.reach c.add_all.new.self) same c.in_ok-add_all.ensures)

pub returns : goal.returns
returns c = λ k.
    search_ends c.args.rows.now c.args.start c.loop-next.next c.loop-next.reach c.loop-next.invariant (omega arith) k
