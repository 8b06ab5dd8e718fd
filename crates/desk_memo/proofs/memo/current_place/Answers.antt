use Rattle.std.proofs.Common.{◌∙◌, sym}
use Rattle.std.proofs.lemmas.Bool.{and_from, and_left, and_right}
use Rattle.desk_memo.specs.Rulings.{is_current, is_current_of, is_of}
use Rattle.desk_memo.specs.Shown.{ruling_of}
use Rattle.desk_memo.specs.ShownReadings.{read_of}
use Rattle.desk_memo.proofs.Kepts.{is_place, one_more}
use Rattle.desk_memo.proofs.memo.current_place.Goals.{else-is_of-via-then-is_of+else-is_current, else-is_of-via-else-is_of}
use Rattle.desk_memo.proofs.memo.current_place.Goals as goal

pub returns-then-is_current : goal.returns-then-is_current
returns-then-is_current g c =
    is_place (is_current_of c.args.files.now (read_of c.args.readings.now) c.args.top.now) c.args.rulings.now c.loop-place.place c.index-rulings-place.result c.loop-place-test.true c.index-rulings-place.is c.loop-place.invariant
    (and_from (is_of c.args.top.now (ruling_of c.index-rulings-place.result)) (is_current c.args.files.now (read_of c.args.readings.now) (ruling_of c.index-rulings-place.result))
    (sym c.is_of.ensures ∙ c.if-is_of.true) (sym c.is_current.ensures ∙ c.if-is_current.true))

pub loop-place-preserved : goal.loop-place-preserved
loop-place-preserved g c =
    one_more (is_current_of c.args.files.now (read_of c.args.readings.now) c.args.top.now) c.args.rulings.now c.loop-place.place c.index-rulings-place.result c.loop-place-test.true c.index-rulings-place.is c.loop-place.invariant
    (elim c.else-is_of.branch [
      | else-is_of-via-then-is_of+else-is_current w ↦ and_right (is_of c.args.top.now (ruling_of c.index-rulings-place.result)) (is_current c.args.files.now (read_of c.args.readings.now) (ruling_of c.index-rulings-place.result)) (sym w.is_current.ensures ∙ w.if-is_current.false)
      | else-is_of-via-else-is_of w ↦ and_left (is_of c.args.top.now (ruling_of c.index-rulings-place.result)) (is_current c.args.files.now (read_of c.args.readings.now) (ruling_of c.index-rulings-place.result)) (sym c.is_of.ensures ∙ w.if-is_of.false)
    ])
