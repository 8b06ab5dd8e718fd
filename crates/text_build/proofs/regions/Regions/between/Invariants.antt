use Rattle.std.proofs.Common.{◌≡◌, ◌++◌, take}
use Rattle.std.specs.List.{filter}
use Rattle.text_grammar.specs.GrammarModule.{is_between}
use Rattle.text_build.proofs.regions.Regions.between.Given as goal

abbrev pub invariant-loop-region : goal.invariant-loop-region
invariant-loop-region l =
    l.all.items
    ≡ filter (is_between l.first l.last)
    (l.self.front.regions.now ++ (l.self.middle.regions.now ++ (l.self.back.regions.now ++ take l.region-index l.self.rest.now)))
