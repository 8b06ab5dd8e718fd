use Rattle.std.proofs.Common.{◌≡◌, ◌++◌, map, length}
use Rattle.std.specs.Vec.Iter.{into_iter_items, into_iter_len}
use Rattle.rtl_tree.specs.TreeModule.{circuit, written_circuit}
use Rattle.rtl_unroll.specs.Plain.{plain_circuit}
use Rattle.rtl_parse.proofs.plain.all_plain.Given as goal

abbrev pub invariant-loop-module : goal.invariant-loop-module
invariant-loop-module l = record {
  so_far : map circuit l.made.items ++ map plain_circuit (map written_circuit (into_iter_items l.module-iterator)) ≡ map plain_circuit (map written_circuit l.fn.written.items);
  left : into_iter_len l.module-iterator ≡ length (into_iter_items l.module-iterator);
}
