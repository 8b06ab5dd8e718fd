use Rattle.std.proofs.Common.{◌<◌, length, arith}
use Rattle.std.proofs.lemmas.Result.{on_ok_weaker}
use Rattle.rtl_scan.proofs.Advances.{entered_is, opened_is, visited_more}
use Rattle.rtl_scan.proofs.graph.Search.begin.Goals as goal

pub run-requires-clause-search : goal.run-requires-clause-search
run-requires-clause-search c =
    let same = c.requires.search.same_length in
    let inside : c.args.start < length c.args.self.now.nodes.items = omega arith in
    (entered_is c.args.rows.now c.args.self.now c.enter.new.self c.requires.search c.args.start inside c.requires.fresh c.requires.empty c.in_ok-enter.ensures.0 c.in_ok-enter.ensures.1 c.in_ok-enter.ensures.2).search

pub returns : goal.returns
returns c =
    let same = c.requires.search.same_length in
    let inside : c.args.start < length c.args.self.now.nodes.items = omega arith in
    on_ok_weaker c.run.result
    (visited_more c.args.rows.now c.args.start c.args.self.now c.enter.new.self c.run.new.self
    (entered_is c.args.rows.now c.args.self.now c.enter.new.self c.requires.search c.args.start inside c.requires.fresh c.requires.empty c.in_ok-enter.ensures.0 c.in_ok-enter.ensures.1 c.in_ok-enter.ensures.2)
    (opened_is c.args.rows.now c.args.self.now c.enter.new.self c.args.start inside c.in_ok-enter.ensures.0))
    c.run.ensures
