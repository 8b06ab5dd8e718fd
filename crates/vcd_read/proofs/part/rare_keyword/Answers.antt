use Rattle.std.proofs.Common.{rules}
use Rattle.vcd_read.specs.Keywords.{rare_keyword}
use Rattle.vcd_read.proofs.part.rare_keyword.Goals as goal

pub returns-then-eq : goal.returns-then-eq
unfolding rare_keyword
returns-then-eq c = search rules

pub returns-then-eq-2 : goal.returns-then-eq-2
unfolding rare_keyword
returns-then-eq-2 c = search rules

pub returns-then-is_dump : goal.returns-then-is_dump
unfolding rare_keyword
returns-then-is_dump c = search rules

pub returns-then-opens_with : goal.returns-then-opens_with
unfolding rare_keyword
returns-then-opens_with c = search rules

pub returns-else-opens_with : goal.returns-else-opens_with
unfolding rare_keyword
returns-else-opens_with c = search rules
