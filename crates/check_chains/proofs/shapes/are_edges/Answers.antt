use Rattle.std.proofs.Common.{◌≡◌, ◌∙◌, true, nat_lt, length, map, arith}
use Rattle.std.proofs.lemmas.Bool.{lt-ltb}
use Rattle.std.proofs.lemmas.List.{length-map}
use Rattle.rtl_flat.specs.Process.{watched}
use Rattle.check_chains.proofs.Taken.{all_watched}
use Rattle.check_chains.proofs.shapes.are_edges.Goals as goal

pub returns-then-events-gt1 : goal.returns-then-events-gt1
returns-then-events-gt1 c =
    let events = c.args.events.now in
    let more : nat_lt 1 (length (map watched events)) ≡ true
    = lt-ltb 1 (length (map watched events)) (omega (arith, length-map events watched)) in
    rw more (c.all_edges.ensures ∙ all_watched events)
