use Rattle.std.proofs.Common.{◌≡◌, ◌≤◌, ◌^◌, min, drop}
use Rattle.rtl_tree.specs.Literal.{number}
use Rattle.rtl_text.proofs.literal.capped.Given as goal

abbrev pub invariant-loop-b : goal.invariant-loop-b
invariant-loop-b l = record {
  small : l.total ≤ 2 ^ 32;
  value : min (number l.unk l.radix l.total (drop l.b-index l.digits)) (2 ^ 32) ≡ min (number l.unk l.radix 0 l.digits) (2 ^ 32);
}
