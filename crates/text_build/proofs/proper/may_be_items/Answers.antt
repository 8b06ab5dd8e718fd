use Rattle.std.proofs.Common.{arith}
use Rattle.std.proofs.lemmas.Grind.{common_steps}
use Rattle.text_build.proofs.Rows.{some_item}
use Rattle.text_build.proofs.proper.may_be_items.Goals as goal

pub returns-then-not-is_empty : goal.returns-then-not-is_empty
returns-then-not-is_empty c = grind (arith, common_steps, some_item c.args.items.now)
