use Rattle.std.proofs.Common.{◌∷◌, [], take, get_or, sym, subst, arith}
use Rattle.std.proofs.lemmas.List.{take_more}
use Rattle.check_gates.specs.Tops.{AreMarkedAlso}
use Rattle.check_gates.proofs.Topped.{marked_more}
use Rattle.check_gates.proofs.tops.mark_all.Goals as goal

pub loop-place-preserved : goal.loop-place-preserved
loop-place-preserved c =
    let places = c.args.places.now in
    let at = c.loop-place.place-index in
    subst (λ all. AreMarkedAlso all c.args.marks.now c.mark.new.marks) (sym (take_more places at 0 (omega arith)))
    (marked_more (take at places) (get_or places at 0 ∷ []) c.args.marks.now c.loop-place.marks c.mark.new.marks c.loop-place.invariant c.mark.ensures)
