use Rattle.std.proofs.Common.{◌+◌, ◌∙◌, ◌<◌, ◌&&◌, not, List, length, map, drop, sym, ap, subst}
use Rattle.std.proofs.lemmas.List.{at_drop_all}
use Rattle.rtl_flat.specs.declared.act.TargetPart.{TargetPart}
use Rattle.rtl_flat.specs.Flows.{may_target}
use Rattle.rtl_flat.specs.Process.{piece}
use Rattle.rtl_flat.specs.Signs.{width_in}
use Rattle.rtl_scan.proofs.Labels.{left_at}
use Rattle.net_model.specs.Block.{filled_case}
use Rattle.net_body.specs.Marks.{maps}
use Rattle.net_body.proofs.Filled.{no_part_filled, part_filled}
use Rattle.net_body.proofs.fills.fill_parts.Goals as goal

pub fill_part-requires-clause-there : goal.fill_part-requires-clause-there
fill_part-requires-clause-there c =
    let item = c.part-item.result in
    let at = c.loop-part.part-index in
    subst (λ (part : TargetPart). part.signal.0 < length c.args.design.now.signals.items) (sym c.part-item.is) (c.requires.there at item c.loop-part-test.true)

pub fill_part-requires-clause-kept : goal.fill_part-requires-clause-kept
fill_part-requires-clause-kept c = c.loop-part.invariant.0

pub loop-part-preserved : goal.loop-part-preserved
loop-part-preserved c =
    let f = c.args.fill in
    let ws = width_in c.args.design.now.signals.items in
    let d = c.args.delayed in
    let item = c.part-item.result in
    let at = c.loop-part.part-index in
    let left = left_at c.args.parts.now at item c.loop-part-test.true c.part-item.is in
    let before = maps c.loop-part.numbers c.loop-part.marks in (
      c.fill_part.ensures.kept,
      part_filled f ws d (piece item) (map piece (drop (at + 1) c.args.parts.now)) before (maps c.fill_part.new.numbers c.fill_part.new.marks) c.fill_part.ensures.maps
          ∙ ap (λ (ps : List TargetPart). filled_case f (λ i k. not d && may_target ws (map piece ps) i k) (λ i k. d && may_target ws (map piece ps) i k) before) (sym left)
          ∙ c.loop-part.invariant.1,
    )

pub returns-clause-maps : goal.returns-clause-maps
returns-clause-maps c =
    let f = c.args.fill in
    let ws = width_in c.args.design.now.signals.items in
    let d = c.args.delayed in
    let m = maps c.loop-part.numbers c.loop-part.marks in
    sym (no_part_filled f d m)
    ∙ sym (at_drop_all (λ (ps : List TargetPart). filled_case f (λ i k. not d && may_target ws (map piece ps) i k) (λ i k. d && may_target ws (map piece ps) i k) m) c.args.parts.now c.loop-part.part-index c.loop-part-test.false)
    ∙ c.loop-part.invariant.1
