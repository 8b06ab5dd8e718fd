use Rattle.std.proofs.Common.{◌≡◌, ◌+◌, ◌-◌, ◌∙◌, List, map, drop, replicate, ap, refl, sym, subst, arith}
use Rattle.std.specs.List.{All}
use Rattle.std.proofs.lemmas.List.{drop_all}
use Rattle.std.proofs.lemmas.List.Elements.{All-head, All-tail}
use Rattle.rtl_bits.specs.Bits.{selected}
use Rattle.rtl_bits.specs.declared.Bit.TheVariants.{Z}
use Rattle.rtl_flat.specs.declared.act.TargetPart.{TargetPart}
use Rattle.rtl_flat.specs.Process.{Piece, piece, selection}
use Rattle.rtl_flat.specs.Signs.{width_in}
use Rattle.rtl_flat.specs.WellFormed.{IsFixed}
use Rattle.event_write.proofs.rtl_scan_proofs.Labels.{left_at}
use Rattle.event_model.specs.Writes.{Values, all_written, count_of, counts, no_drive, span_of, write_at, writes}
use Rattle.event_write.specs.Entries.{AreSelected}
use Rattle.event_take.proofs.Driving.{all_written_append, all_written_at}
use Rattle.event_take.proofs.drives.driven.Goals as goal

pub filled-given-requires-clause-not_empty : goal.filled-given-requires-clause-not_empty
filled-given-requires-clause-not_empty c =
    let width = c.width_of.ensures in
    let some = c.requires.width.0 in
    omega (arith, width, some)

pub filled-given-requires-clause-at_most : goal.filled-given-requires-clause-at_most
filled-given-requires-clause-at_most c =
    let width = c.width_of.ensures in
    let most = c.requires.width.1 in
    omega (arith, width, most)

pub loop-part-init : goal.loop-part-init
loop-part-init c =
    let ws = width_in c.args.signals.now in
    let parts = map piece c.args.parts.now in
    let left = c.counts-left.ensures in
    let covered = c.requires.covered in (
      c.requires.selected,
      c.requires.fixed,
      c.counts-left.ensures,
      omega (arith, left, covered),
      c.filled-given.ensures.width ∙ c.width_of.ensures,
      λ v e. all_written_at v (no_drive ws) (writes ws (no_drive ws) parts c.args.bits) c.args.net.0 (e ∙ c.filled-given.ensures.bits ∙ ap (λ n. replicate n Z) c.width_of.ensures),
    )

pub with_part-given-requires-clause-fixed : goal.with_part-given-requires-clause-fixed
with_part-given-requires-clause-fixed c =
    let inv = c.loop-part.invariant in
    let left = left_at c.args.parts.now c.loop-part.part-index c.part-item.result c.loop-part-test.true c.part-item.is in
    let fixed = subst (λ (ps : List TargetPart). All (λ (p : Piece). IsFixed p.selection) (map piece ps)) left inv.1 in
    All-head (λ (p : Piece). IsFixed p.selection) (piece c.part-item.result) (map piece (drop (c.loop-part.part-index + 1) c.args.parts.now)) fixed

pub loop-part-preserved : goal.loop-part-preserved
loop-part-preserved c =
    let ws = width_in c.args.signals.now in
    let net = c.args.net.0 in
    let inv = c.loop-part.invariant in
    let part = c.part-item.result in
    let others = drop (c.loop-part.part-index + 1) c.args.parts.now in
    let left = left_at c.args.parts.now c.loop-part.part-index part c.loop-part-test.true c.part-item.is in
    let lawful = subst (λ (ps : List TargetPart). AreSelected c.args.signals.now (map piece ps)) left inv.0 in
    let fixed = subst (λ (ps : List TargetPart). All (λ (p : Piece). IsFixed p.selection) (map piece ps)) left inv.1 in
    let before = inv.2 ∙ ap (λ (ps : List TargetPart). counts ws (map piece ps)) left in
    let most = inv.3 in
    let count = c.count_of-left.ensures in
    let less : c.loop-part.left - c.count_of-left.result ≡ counts ws (map piece others) = omega (arith, before, count) in
    let u : Values = λ k. c.loop-part.given in
    let first = write_at part.signal.0 (span_of ws (no_drive ws) part.signal.0 (selection part.select)) (selected (counts ws (map piece others)) (count_of ws part.signal.0 (selection part.select)) c.args.bits) in
    let rest = writes ws (no_drive ws) (map piece others) c.args.bits in (
      lawful.2,
      All-tail (λ (p : Piece). IsFixed p.selection) (piece part) (map piece others) fixed,
      less,
      omega (arith, most),
      c.with_part-given.ensures.width,
      λ v e.
          all_written_at v (all_written u first) rest net (e ∙ c.with_part-given.ensures.bits u refl ∙ ap (λ at. all_written u (write_at part.signal.0 (span_of ws (no_drive ws) part.signal.0 (selection part.select)) (selected at (count_of ws part.signal.0 (selection part.select)) c.args.bits)) net) less)
          ∙ ap (λ (w : Values). w net) (sym (all_written_append u first rest))
          ∙ ap (λ (ps : List TargetPart). all_written u (writes ws (no_drive ws) (map piece ps) c.args.bits) net) (sym left)
          ∙ inv.5 u refl,
    )

pub returns-clause-bits : goal.returns-clause-bits
returns-clause-bits c =
    let ws = width_in c.args.signals.now in
    let u : Values = λ k. c.loop-part.given in
    sym (ap (λ (ps : List TargetPart). all_written u (writes ws (no_drive ws) (map piece ps) c.args.bits) c.args.net.0) (drop_all c.loop-part.part-index c.args.parts.now c.loop-part-test.false))
    ∙ c.loop-part.invariant.5 u refl
