use Rattle.std.proofs.Common.{◌≡◌, cond, drop}
use Rattle.rtl_tree.specs.Lexemes.{is_z}
use Rattle.rtl_tree.specs.Literal.{leftmost, is_unknown}
use Rattle.rtl_text.proofs.literal.is_filled.Given as goal

abbrev pub invariant-loop-b : goal.invariant-loop-b
invariant-loop-b l = leftmost (cond l.unk is_unknown is_z) (drop l.b-index l.digits) ≡ leftmost (cond l.unk is_unknown is_z) l.digits
