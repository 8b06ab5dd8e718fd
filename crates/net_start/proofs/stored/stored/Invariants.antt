use Rattle.std.proofs.Common.{◌≤◌, length}
use Rattle.rtl_flat.specs.Flats.{flat}
use Rattle.net_start.specs.Listing.{AreBelow}
use Rattle.net_start.specs.Stored.{IsStored, places}
use Rattle.net_start.proofs.stored.stored.Given as goal

abbrev pub invariant-loop-number : goal.invariant-loop-number
invariant-loop-number l = record {
  below : AreBelow (IsStored (flat l.design)) l.number (places l.found.items);
  few : length l.found.items ≤ l.number;
}
