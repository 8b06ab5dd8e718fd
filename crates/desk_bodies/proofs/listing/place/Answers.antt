use Rattle.std.proofs.Common.{◌≡◌, ◌∙◌, ◌≤◌, length, ap, arith, subst, sym}
use Rattle.std.specs.List.{insert, position_or_len}
use Rattle.desk_bodies.proofs.Orders.{placed_at, seen, stops, within}
use Rattle.desk_bodies.proofs.listing.place.Goals as goal

pub insert-requires : goal.insert-requires
insert-requires c =
    let found = c.args.found.now.items in
    let at : c.place_of-at.result ≡ position_or_len (stops c.args.row) found = rw c.deref.ensures.value at c.place_of-at.ensures in
    let fits : c.place_of-at.result ≤ length found = subst (λ it. it ≤ length found) (sym at) (within c.args.row found) in
    omega (arith, fits)

pub returns : goal.returns
returns c =
    let found = c.args.found.now.items in
    let at : c.place_of-at.result ≡ position_or_len (stops c.args.row) found = rw c.deref.ensures.value at c.place_of-at.ensures in
    ap seen (c.in_ok-insert.ensures.items ∙ ap (λ it. insert found it c.args.row) at) ∙ placed_at c.args.row found
