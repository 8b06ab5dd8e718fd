use Rattle.std.proofs.Common.{◌≡◌, drop}
use Rattle.std.specs.Prelude.{map}
use Rattle.desk_bodies.specs.Orders.{by_name}
use Rattle.desk_bodies.proofs.listing.by_name.Given as goal

-- those that were looked at are in order
abbrev pub invariant-loop-number : goal.invariant-loop-number
invariant-loop-number l = map (λ row. row.now) l.found.items ≡ by_name (drop l.number l.rows)
