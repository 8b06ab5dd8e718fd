use Rattle.std.proofs.Common.{◌∙◌, sym}
use Rattle.desk_memo.specs.Rulings.{is_of}
use Rattle.desk_memo.proofs.Kepts.{is_place, one_more}
use Rattle.desk_memo.proofs.memo.place_of.Goals as goal

pub returns-then-is_of : goal.returns-then-is_of
returns-then-is_of g c =
    is_place (is_of c.args.top.now) c.args.rulings.now c.loop-place.place c.index-rulings-place.result c.loop-place-test.true c.index-rulings-place.is c.loop-place.invariant
    (sym c.is_of.ensures ∙ c.if-is_of.true)

pub loop-place-preserved : goal.loop-place-preserved
loop-place-preserved g c =
    one_more (is_of c.args.top.now) c.args.rulings.now c.loop-place.place c.index-rulings-place.result c.loop-place-test.true c.index-rulings-place.is c.loop-place.invariant
    (sym c.is_of.ensures ∙ c.if-is_of.false)
