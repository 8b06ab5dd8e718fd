use Rattle.std.proofs.Common.{◌≡◌, ◌++◌, map, take}
use Rattle.std.specs.List.{filter_map}
use Rattle.rtl_flat.specs.Expression.{tree}
use Rattle.rtl_flat.specs.Flats.{flat, widths}
use Rattle.check_unknown.specs.Lists.{misses_found}
use Rattle.check_unknown.specs.Unknowns.{pick_in}
use Rattle.check_unknown.proofs.selects.push_reads.Given as goal

abbrev pub invariant-loop-e : goal.invariant-loop-e
invariant-loop-e l =
    l.found.items ≡ l.initial.found.items ++ misses_found (widths (flat l.design)) l.instance (filter_map pick_in (map (λ e. tree e.now) (take l.e-index l.all)))
