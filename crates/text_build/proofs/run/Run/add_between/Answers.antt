use Rattle.std.proofs.Common.{◌++◌, ap, ◌∙◌, length, arith}
use Rattle.std.specs.List.{filter}
use Rattle.std.proofs.lemmas.List.{take_all}
use Rattle.std.proofs.lemmas.Slice.{between_to_end}
use Rattle.text_grammar.specs.GrammarModule.{is_between}
use Rattle.text_build.proofs.Filtered.{all_passed, rest_behind}
use Rattle.text_build.proofs.run.Run.add_between.Goals as goal

pub returns-then-last-region-clause-added : goal.returns-then-last-region-clause-added
returns-then-last-region-clause-added c =
    let xs = c.args.self.now.regions.now in
    c.loop-region.invariant ∙ ap (λ l. c.args.all.now.items ++ l)
    (rest_behind c.args.first c.args.last c.before-2.result c.loop-region.region-index xs _ _ c.args.self.now.by_place c.before-2.ensures.all
    (between_to_end xs c.before-2.result (length xs) (omega arith)) c.loop-region-test.true c.if-last-region.true)

pub returns-clause-added : goal.returns-clause-added
returns-clause-added c =
    let xs = c.args.self.now.regions.now in
    c.loop-region.invariant ∙ ap (λ l. c.args.all.now.items ++ l)
    (ap (filter (is_between c.args.first c.args.last)) (take_all c.loop-region.region-index _ (omega arith) ∙ between_to_end xs c.before-2.result (length xs) (omega arith))
    ∙ all_passed c.args.first c.args.last c.before-2.result xs c.before-2.ensures.all)
