use Rattle.std.proofs.Common.{◌≡◌, map, drop}
use Rattle.rtl_tree.specs.Symbols.{terminal}
use Rattle.text_build.specs.Ordinary.{is_ordinary_in}
use Rattle.text_build.specs.declared.ordinary.TheConstants.{MOST_TOKENS}
use Rattle.text_build.proofs.ordinary.is_ordinary.Given as goal

abbrev pub invariant-loop-token : goal.invariant-loop-token
invariant-loop-token l =
    is_ordinary_in l.left (map terminal (drop l.token-index l.tokens))
    ≡ is_ordinary_in MOST_TOKENS (map terminal l.tokens)
