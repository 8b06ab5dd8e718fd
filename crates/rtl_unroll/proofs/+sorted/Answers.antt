-- A region holds a vector.
use Rattle.std.proofs.Common.{arith}
use Rattle.std.proofs.lemmas.Grind.{common_steps}
use Rattle.rtl_unroll.specs.Plain.{sorted_of}
use Rattle.rtl_unroll.proofs.Sorting.{region_sorted}
use Rattle.rtl_unroll.proofs.+sorted.Goals as goal

pub push_item-returns-in-Region : goal.push_item-returns-in-Region
push_item-returns-in-Region t c =
    let here = c.in-Region in
    let told = region_sorted (sorted_of c.args.sorted.now) here.field-0 here.items c.args.written here.is in
    grind (arith, common_steps, told)
