use Rattle.std.proofs.Common.{◌≡◌, drop, map}
use Rattle.std.specs.List.{list_any}
use Rattle.rtl_flat.specs.Flats.{flat}
use Rattle.check_chains.specs.Inner.{is_turned_guard}
use Rattle.check_chains.specs.Views.{guard_view}
use Rattle.check_chains.proofs.shapes.any_turned.Given as goal

abbrev pub invariant-loop-guard : goal.invariant-loop-guard
invariant-loop-guard l =
    list_any (is_turned_guard (flat l.design)) (map guard_view (drop l.guard-index l.guards)) ≡ list_any (is_turned_guard (flat l.design)) (map guard_view l.guards)
