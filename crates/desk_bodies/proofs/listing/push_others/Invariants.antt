use Rattle.std.proofs.Common.{◌≡◌, ◌++◌, codes, take}
use Rattle.std.specs.List.{flat_map}
use Rattle.std.specs.Prelude.{map}
use Rattle.desk_bodies.specs.Bodies.{listed_file_text}
use Rattle.desk_bodies.proofs.listing.push_others.Given as goal

abbrev pub invariant-loop-row : goal.invariant-loop-row
invariant-loop-row l =
    l.out.items ≡ l.fn.out.items ++ flat_map (λ other. codes "," ++ listed_file_text other) (map (λ row. row.now) (take l.row-index l.rows))
