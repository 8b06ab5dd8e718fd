use Rattle.std.proofs.Common.{◌≡◌, ◌++◌, codes, take}
use Rattle.std.specs.List.{flat_map}
use Rattle.desk_bodies.specs.Bodies.{signoff_text}
use Rattle.desk_bodies.proofs.signoffs.push_others.Given as goal

abbrev pub invariant-loop-row : goal.invariant-loop-row
invariant-loop-row l =
    l.out.items ≡ l.fn.out.items ++ flat_map (λ other. codes "," ++ signoff_text other) (take l.row-index l.rows)
