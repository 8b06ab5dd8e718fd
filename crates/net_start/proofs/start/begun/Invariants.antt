use Rattle.net_start.specs.Listing.{AreMasked}
use Rattle.net_start.specs.Stored.{places}
use Rattle.net_start.proofs.start.begun.Given as goal

abbrev pub invariant-loop-place : goal.invariant-loop-place
invariant-loop-place l =
    AreMasked l.kept.masks l.fill (places l.stored) l.registers l.place l.made.items
