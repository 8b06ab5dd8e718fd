use Rattle.std.proofs.Common.{◌∙◌, sym}
use Rattle.desk_bodies.proofs.Orders.{none_place, some_place}
use Rattle.desk_bodies.proofs.listing.place_of.Goals as goal

pub returns-in-Some : goal.returns-in-Some
returns-in-Some c = some_place c.args.row c.args.found.now c.in-Some.at (sym c.first_place.ensures ∙ c.in-Some.is)

pub returns-in-None : goal.returns-in-None
returns-in-None c = none_place c.args.row c.args.found.now (sym c.first_place.ensures ∙ c.in-None.is)
