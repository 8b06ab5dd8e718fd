use Rattle.std.proofs.Common.{◌≡◌, ◌<◌, ◌^◌, ◌%◌, drop}
use Rattle.rtl_tree.specs.Literal.{number}
use Rattle.rtl_text.proofs.literal.wrapped.Given as goal

abbrev pub invariant-loop-b : goal.invariant-loop-b
invariant-loop-b l = record {
  fits : l.total < 2 ^ 128;
  value : number l.unk l.radix l.total (drop l.b-index l.digits) % 2 ^ 128 ≡ number l.unk l.radix l.front l.digits % 2 ^ 128;
}
