use Rattle.std.proofs.Common.{rules}
use Rattle.vcd_read.specs.Keywords.{keyword_of}
use Rattle.vcd_read.proofs.part.keyword_of.Goals as goal

pub returns-then-eq : goal.returns-then-eq
unfolding keyword_of
returns-then-eq c = search rules

pub returns-then-eq-2 : goal.returns-then-eq-2
unfolding keyword_of
returns-then-eq-2 c = search rules

pub returns-then-eq-3 : goal.returns-then-eq-3
unfolding keyword_of
returns-then-eq-3 c = search rules

pub returns-then-eq-4 : goal.returns-then-eq-4
unfolding keyword_of
returns-then-eq-4 c = search rules

pub returns-else-eq-4 : goal.returns-else-eq-4
unfolding keyword_of
returns-else-eq-4 c = search rules
