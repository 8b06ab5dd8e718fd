use Rattle.std.proofs.Common.{◌≤◌, length}
use Rattle.std.specs.Prelude.{IsTrue}
use Rattle.event_model.specs.Queue.{is_input}
use Rattle.rtl_flat.specs.Flats.{flat}
use Rattle.net_start.specs.Listing.{AreBelow}
use Rattle.net_start.specs.Stored.{places}
use Rattle.net_start.proofs.stored.top_inputs.Given as goal

abbrev pub invariant-loop-number : goal.invariant-loop-number
invariant-loop-number l = record {
  below : AreBelow (λ s. IsTrue (is_input (flat l.design) s)) l.number (places l.found.items);
  few : length l.found.items ≤ l.number;
}
