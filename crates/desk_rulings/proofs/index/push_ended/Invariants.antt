use Rattle.std.proofs.Common.{◌≡◌, ◌++◌, drop}
use Rattle.desk_rulings.specs.Index.{ended}
use Rattle.desk_rulings.proofs.index.push_ended.Given as goal

abbrev pub invariant-loop-byte : goal.invariant-loop-byte
invariant-loop-byte l =
    l.out.items ++ ended (drop l.byte-index l.text) ≡ l.fn.out.items ++ ended l.text
