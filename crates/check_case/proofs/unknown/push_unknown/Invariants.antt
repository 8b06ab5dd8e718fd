use Rattle.std.proofs.Common.{map, take}
use Rattle.std.specs.List.{flat_map}
use Rattle.rtl_flat.specs.Process.{action, task}
use Rattle.rtl_rule.specs.Parts.{within}
use Rattle.rtl_flat.specs.Flats.{flat}
use Rattle.check_found.specs.Gathered.{Gets}
use Rattle.check_case.specs.Cases.{IsUnknownItem, own_kinds, unknown_item_at}
use Rattle.check_case.proofs.unknown.push_unknown.Given as goal

abbrev pub invariant-loop-one : goal.invariant-loop-one
invariant-loop-one l =
    Gets IsUnknownItem (unknown_item_at (flat l.scans.design.now)) (flat_map (λ one. map (within (l.fn.p.0, task l.process)) (own_kinds (action one.now))) (take l.one-index l.one-items)) l.fn.found.items l.found.items
