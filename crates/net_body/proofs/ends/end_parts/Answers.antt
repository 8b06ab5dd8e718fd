use Rattle.std.proofs.Common.{◌+◌, ◌∙◌, ◌<◌, List, [], ◌∷◌, length, map, drop, sym, ap, subst}
use Rattle.std.proofs.lemmas.List.{at_drop_all}
use Rattle.rtl_flat.specs.declared.act.TargetPart.{TargetPart}
use Rattle.rtl_flat.specs.Process.{piece}
use Rattle.rtl_flat.specs.Value.{store}
use Rattle.rtl_scan.proofs.Labels.{left_at}
use Rattle.net_body.specs.Ends.{Ending, ending, ending_after}
use Rattle.net_body.specs.Named.{target_signals}
use Rattle.net_body.proofs.Ended.{ended_more}
use Rattle.net_body.proofs.ends.end_parts.Goals as goal

pub end_one-requires-clause-there : goal.end_one-requires-clause-there
end_one-requires-clause-there c =
    subst (λ (part : TargetPart). part.signal.0 < length c.args.signals.now) (sym c.part-item.is) (c.requires.there c.loop-part.part-index c.part-item.result c.loop-part-test.true)

pub end_one-requires-clause-kept : goal.end_one-requires-clause-kept
end_one-requires-clause-kept c = c.loop-part.invariant.0

pub end_one-requires-clause-beside : goal.end_one-requires-clause-beside
end_one-requires-clause-beside c = c.loop-part.invariant.1

pub loop-part-preserved : goal.loop-part-preserved
loop-part-preserved c =
    let before = store c.args.before.now in
    let aside = c.args.aside in
    let item = c.part-item.result in
    let at = c.loop-part.part-index in
    let left = left_at c.args.parts.now at item c.loop-part-test.true c.part-item.is in
    let e : Ending = ending c.loop-part.numbers c.loop-part.marks c.loop-part.after in
    let e' : Ending = ending c.end_one.new.numbers c.end_one.new.marks c.end_one.new.after in (
      c.end_one.ensures.kept,
      c.end_one.ensures.beside,
      ended_more aside before e e' (item.signal.0 ∷ []) (target_signals (map piece (drop (at + 1) c.args.parts.now))) c.end_one.ensures.ends
          ∙ ap (λ (ps : List TargetPart). ending_after aside before e (target_signals (map piece ps))) (sym left)
          ∙ c.loop-part.invariant.2,
    )

pub returns-clause-ends : goal.returns-clause-ends
returns-clause-ends c =
    let e : Ending = ending c.loop-part.numbers c.loop-part.marks c.loop-part.after in
    sym (at_drop_all (λ (ps : List TargetPart). ending_after c.args.aside (store c.args.before.now) e (target_signals (map piece ps))) c.args.parts.now c.loop-part.part-index c.loop-part-test.false)
    ∙ c.loop-part.invariant.2
