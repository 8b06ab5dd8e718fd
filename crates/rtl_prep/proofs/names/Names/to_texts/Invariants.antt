use Rattle.std.proofs.Common.{◌≡◌, ◌++◌}
use Rattle.rtl_prep.proofs.Named.{now}
use Rattle.rtl_prep.proofs.names.Names.to_texts.Given as goal

abbrev pub invariant-loop-name : goal.invariant-loop-name
invariant-loop-name l = l.texts.items ++ now l.name-iterator ≡ l.self
