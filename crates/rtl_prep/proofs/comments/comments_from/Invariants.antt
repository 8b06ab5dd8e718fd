use Rattle.std.proofs.Common.{◌≡◌, ◌++◌, drop}
use Rattle.rtl_prep.specs.Comments as spec
use Rattle.rtl_prep.proofs.comments.comments_from.Given as goal

abbrev pub invariant-loop-token : goal.invariant-loop-token
invariant-loop-token l =
    l.notes.dropped.items ++ spec.comments_from l.text (spec.seen l.notes) (drop l.token-index l.tokens) ≡ l.fn.dropped.items ++ spec.comments l.text l.tokens
