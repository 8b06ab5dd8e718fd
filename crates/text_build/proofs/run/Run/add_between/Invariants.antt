use Rattle.std.proofs.Common.{◌≡◌, ◌++◌, take}
use Rattle.std.specs.List.{filter}
use Rattle.text_grammar.specs.GrammarModule.{is_between}
use Rattle.text_build.proofs.run.Run.add_between.Given as goal

abbrev pub invariant-loop-region : goal.invariant-loop-region
invariant-loop-region l = l.all.items ≡ l.initial.all.items ++ filter (is_between l.first l.last) (take l.region-index l.region-items)
