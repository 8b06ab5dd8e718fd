use Rattle.std.proofs.Common.{◌≡◌, map, drop}
use Rattle.elab_scope.specs.Names.{meanings}
use Rattle.elab_expand.specs.Lifting.{all_lifted}
use Rattle.elab_expand.specs.Openings.{piece, tally}
use Rattle.elab_expand.proofs.lifting.lift_all.Given as goal

abbrev pub invariant-loop-piece : goal.invariant-loop-piece
invariant-loop-piece l =
    all_lifted (meanings l.own) l.component l.at (map piece (drop l.piece-index l.within)) (record { items = map piece l.items.items; tally = tally l.so_far })
    ≡ all_lifted (meanings l.own) l.component l.at (map piece l.within) (record { items = map piece l.initial.items.items; tally = tally l.initial.so_far })
