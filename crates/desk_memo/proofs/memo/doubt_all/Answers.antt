use Rattle.std.proofs.Common.{◌∙◌, arith, get_or, false, refl}
use Rattle.std.proofs.Math.Seq.{map-set_same}
use Rattle.desk_memo.specs.Shown.{ruling_of}
use Rattle.desk_memo.specs.declared.kept.Kept.{Kept}
use Rattle.desk_memo.proofs.Kepts.{doubt_more}
use Rattle.desk_memo.proofs.memo.doubt_all.Goals as goal

pub loop-place-preserved : goal.loop-place-preserved
loop-place-preserved g c =
    let one : Kept g.row.V.Denot = get_or c.loop-place.rulings c.loop-place.place c.index-rulings-place.result in
    let made : Kept g.row.V.Denot = record one { is_checked = false } in
    record {
      same = map-set_same ruling_of c.loop-place.rulings c.loop-place.place made c.index-rulings-place.result refl ∙ c.loop-place.invariant.same;
      doubted = doubt_more c.loop-place.rulings c.loop-place.place made (omega (arith, c.loop-place.auto.rulings)) refl c.loop-place.invariant.doubted;
    }
