use Rattle.rtl_flat.specs.Value.{store}
use Rattle.net_start.specs.Listing.{AreGiven}
use Rattle.net_start.specs.Stored.{places}
use Rattle.net_start.proofs.start.give.Given as goal

abbrev pub invariant-loop-place : goal.invariant-loop-place
invariant-loop-place l =
    AreGiven (places l.signals) l.values l.place (store l.fn.numbers) (store l.numbers)
