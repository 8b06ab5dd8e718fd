use Rattle.std.proofs.Common.{◌≡◌, map, drop}
use Rattle.rtl_tree.specs.Symbols.{terminal, terminals, seen}
use Rattle.text_survey.specs.Terminals.{joined}
use Rattle.text_survey.proofs.symbols.gathered.Given as goal

abbrev pub invariant-loop-token : goal.invariant-loop-token
invariant-loop-token l =
    joined (map terminal l.terminals.items) (seen l.text (drop l.token-index l.tokens)) ≡ terminals l.text l.tokens
