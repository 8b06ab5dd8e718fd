use Rattle.std.proofs.Common.{◌≡◌, ◌∙◌, ◌<◌, ℕ, List, length, get_or, refl, sym, subst, arith}
use Rattle.std.proofs.lemmas.List.{length-map}
use Rattle.rtl_flat.specs.declared.act.ProcId.{ProcId}
use Rattle.rtl_flat.specs.Levels.{IsNode}
use Rattle.rtl_flat.specs.Value.{store}
use Rattle.rtl_flat.specs.Flats.{flat}
use Rattle.net_solve.specs.Laws.{AreDone, IsWorked, place}
use Rattle.net_solve.proofs.Worked.{worked}
use Rattle.net_settle.specs.Work.{numbers_of}
use Rattle.net_settle.proofs.Able.{place_is}
use Rattle.net_settle.proofs.Lawful.{lawful_flat}
use Rattle.net_settle.proofs.work.work.Goals as goal

as_many : (order : List ProcId) → length (numbers_of order) ≡ length order
as_many order = length-map order (λ (p : ProcId). p.0)

pub loop-p-init : goal.loop-p-init
loop-p-init c =
    let m = c.args.maps.now in
    let d = flat m.design.now in
    (c.requires.able, refl, (worked d (record { lawful = lawful_flat m.design.now; apart = c.requires.apart })).none c.args.fill (numbers_of c.args.order.now) (store m.numbers.items) c.requires.able.numbers)

pub work_one-requires-clause-able : goal.work_one-requires-clause-able
work_one-requires-clause-able c = c.loop-p.invariant.0

pub work_one-requires-clause-node : goal.work_one-requires-clause-node
work_one-requires-clause-node c =
    let m = c.args.maps.now in
    let order = c.args.order.now in
    let j = c.loop-p.p-index in
    let inside : j < length order = omega arith in
    let count = as_many order in
    let node = c.requires.order.nodes j (omega (arith, inside, count)) in
    subst (λ r. IsNode (flat r.now).tasks (get_or order j (record { 0 = 0 })).0) (sym c.loop-p.invariant.1)
    (subst (λ (p : ℕ). IsNode (flat m.design.now).tasks p) (place_is order j inside) node)

pub loop-p-preserved : goal.loop-p-preserved
loop-p-preserved c =
    let m = c.args.maps.now in
    let d = flat m.design.now in
    let order = c.args.order.now in
    let j = c.loop-p.p-index in
    let inside : j < length order = omega arith in
    let count = as_many order in
    let old = store c.loop-p.maps.numbers.items in
    let new = store c.work_one.new.maps.numbers.items in
    let one : IsWorked d c.args.fill (place (numbers_of order) j) old new
    = subst (λ (p : ℕ). IsWorked d c.args.fill p old new) (sym (place_is order j inside))
    (subst (λ r. IsWorked (flat r.now) c.args.fill (get_or order j (record { 0 = 0 })).0 old new) c.loop-p.invariant.1 c.work_one.ensures.worked) in (
      c.work_one.ensures.able,
      c.work_one.ensures.design ∙ c.loop-p.invariant.1,
      (worked d (record { lawful = lawful_flat m.design.now; apart = c.requires.apart })).more c.args.fill (numbers_of order) (store m.numbers.items) j old new c.requires.order (omega (arith, inside, count)) c.requires.able.numbers c.loop-p.invariant.2 one,
    )

pub returns-clause-solves : goal.returns-clause-solves
returns-clause-solves c = λ held given beginning.
    let m = c.args.maps.now in
    let d = flat m.design.now in
    let order = c.args.order.now in
    let e : c.loop-p.p-index ≡ length order = omega arith in
    let count = as_many order in
    (worked d (record { lawful = lawful_flat m.design.now; apart = c.requires.apart })).all c.args.fill (numbers_of order) held given (store m.numbers.items) (store c.loop-p.maps.numbers.items) c.requires.order beginning
    (subst (λ (n : ℕ). AreDone d c.args.fill (numbers_of order) (store m.numbers.items) n (store c.loop-p.maps.numbers.items)) (e ∙ sym count) c.loop-p.invariant.2)
