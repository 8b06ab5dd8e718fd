use Rattle.std.proofs.Common.{take, get_or, sym, subst, arith}
use Rattle.std.proofs.lemmas.List.{take_more}
use Rattle.check_gates.specs.Tops.{IsNotedFor}
use Rattle.check_gates.proofs.Topped.{noted_more, noted_none}
use Rattle.check_gates.proofs.tops.push_all_at.Goals as goal

pub loop-place-init : goal.loop-place-init
loop-place-init c = noted_none c.args.value c.args.rows.now.items

pub push_at-requires : goal.push_at-requires
push_at-requires c =
    let inside = c.requires c.loop-place.place-index 0 (omega arith) in
    let size = c.loop-place.invariant.size in
    omega (arith, inside, size)

pub loop-place-preserved : goal.loop-place-preserved
loop-place-preserved c =
    let places = c.args.places.now in
    let at = c.loop-place.place-index in
    subst (λ all. IsNotedFor all c.args.value c.args.rows.now.items c.push_at.new.rows.items) (sym (take_more places at 0 (omega arith)))
    (noted_more (take at places) (get_or places at 0) c.args.value c.args.rows.now.items c.loop-place.rows.items c.push_at.new.rows.items c.loop-place.invariant c.in_ok-push_at.ensures)
