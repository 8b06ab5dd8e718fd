use Rattle.std.proofs.Common.{◌≡◌, ◌∙◌, ◌<◌, ◌-◌, length, get_or, ap, arith}
use Rattle.std.proofs.lemmas.List.{get_or_default}
use Rattle.rtl_scan.specs.Graph.{row, at}
use Rattle.rtl_scan.proofs.Advances.{top_read, top_node, top_there, fits_finish, finish_is, row_get}
use Rattle.rtl_scan.proofs.graph.Search.step.Goals as goal

pub finish-requires-clause-fits : goal.finish-requires-clause-fits
finish-requires-clause-fits c =
    let old = c.args.self.now in
    fits_finish c.args.rows.now old c.requires.rows c.requires.search c.requires.some c.index-top.result.now (top_read old.stack.items c.len.result c.index-top.result.now c.requires.some (c.len.ensures ∙ c.args.self.now.stack.ok.0) c.index-top.ensures)

pub returns-then-left-eq0 : goal.returns-then-left-eq0
returns-then-left-eq0 c =
    let old = c.args.self.now in
    finish_is c.args.rows.now old c.requires.rows c.requires.search c.requires.some c.index-top.result.now (top_read old.stack.items c.len.result c.index-top.result.now c.requires.some (c.len.ensures ∙ c.args.self.now.stack.ok.0) c.index-top.ensures) c.index.result.now c.index.ensures c.if-left-eq0.true c.finish.new.self c.finish.ensures.nodes c.finish.ensures.stack c.finish.ensures.finished

pub index-requires-2 : goal.index-requires-2
index-requires-2 c =
    let old = c.args.self.now in
    let top = c.index-top.result.now in
    let rows = c.args.rows.now in
    let top_is = top_read old.stack.items c.len.result top c.requires.some (c.len.ensures ∙ c.args.self.now.stack.ok.0) c.index-top.ensures in
    let inside = top_there rows old c.requires.rows c.requires.search c.requires.some top top_is in
    let same = c.requires.search.same_length in
    let node = ap (λ v. v.left) (top_node rows old c.requires.rows c.requires.search c.requires.some top top_is c.index.result.now c.index.ensures) in
    let fits = c.requires.search.left_fits top in
    let below : top < length rows = omega arith in
    let is : length c.index-rows-top.result.items ≡ length (row rows top) = ap (λ v. length v.items) c.index-rows-top.is ∙ ap length (row_get rows top c.index-rows-top.result below) in
    let len = c.index-rows-top.result.ok.0 in
    let some = c.if-left-eq0.false in
    omega arith

pub follow_back-requires-clause-left : goal.follow_back-requires-clause-left
follow_back-requires-clause-left c =
    let old = c.args.self.now in
    let top = c.index-top.result.now in
    let rows = c.args.rows.now in
    let top_is = top_read old.stack.items c.len.result top c.requires.some (c.len.ensures ∙ c.args.self.now.stack.ok.0) c.index-top.ensures in
    let node = ap (λ v. v.left) (top_node rows old c.requires.rows c.requires.search c.requires.some top top_is c.index.result.now c.index.ensures) in
    let some = c.if-left-eq0.false in
    omega arith

pub follow_back-requires-clause-p : goal.follow_back-requires-clause-p
follow_back-requires-clause-p c =
    let old = c.args.self.now in
    let top = c.index-top.result.now in
    let rows = c.args.rows.now in
    let top_is = top_read old.stack.items c.len.result top c.requires.some (c.len.ensures ∙ c.args.self.now.stack.ok.0) c.index-top.ensures in
    let inside = top_there rows old c.requires.rows c.requires.search c.requires.some top top_is in
    let same = c.requires.search.same_length in
    let node = ap (λ v. v.left) (top_node rows old c.requires.rows c.requires.search c.requires.some top top_is c.index.result.now c.index.ensures) in
    let fits = c.requires.search.left_fits top in
    let below : top < length rows = omega arith in
    let same_row = ap (λ v. v.items) c.index-rows-top.is ∙ row_get rows top c.index-rows-top.result below in
    let some = c.if-left-eq0.false in
    let j = (at old.nodes.items top).left - 1 in
    let j_below : j < length (row rows top) = omega arith in
    c.index-2.ensures ∙ ap (λ xs. get_or xs (c.index.result.now.left - 1) c.index-2.result.now) same_row
    ∙ ap (λ m. get_or (row rows top) (m - 1) c.index-2.result.now) node
    ∙ get_or_default (row rows top) j c.index-2.result.now 0 j_below
