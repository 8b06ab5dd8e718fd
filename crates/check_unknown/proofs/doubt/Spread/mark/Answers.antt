use Rattle.std.proofs.Common.{◌∙◌, ◌<◌, false, true, sym, length, refl, arith}
use Rattle.std.proofs.lemmas.List.{get_or_read, length-set}
use Rattle.check_unknown.proofs.Spreading.{marks_one}
use Rattle.check_unknown.proofs.doubt.Spread.mark.Goals as goal

pub returns : goal.returns
returns c =
    let old = c.args.self.now in
    let inside : c.args.signal < length old.marked.items = omega (arith, c.if-place-len.false, old.marked.ok.0) in
    marks_one c.args.signal old _ inside (sym (get_or_read old.marked.items _ _ inside c.index.ensures false) ∙ c.if-index.false) refl c.in_ok-push.ensures.items (length-set old.marked.items c.args.signal true)
