use Rattle.std.proofs.Common.{◌≡◌, ◌++◌, drop, false}
use Rattle.desk_refusals.specs.Words.{on_one_line}
use Rattle.desk_refusals.proofs.word.push_text.Given as goal

abbrev pub invariant-loop-byte : goal.invariant-loop-byte
invariant-loop-byte l =
    l.out.items ++ on_one_line l.behind (drop l.byte-index l.text) ≡ l.fn.out.items ++ on_one_line false l.text
