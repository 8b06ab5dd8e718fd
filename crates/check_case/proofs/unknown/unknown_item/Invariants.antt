use Rattle.rtl_flat.specs.Flats.{flat}
use Rattle.rtl_rule.specs.Sites.{AreFindings}
use Rattle.check_found.specs.Gathered.{sites_below}
use Rattle.check_case.specs.Cases.{IsUnknownItem, unknown_item_at}
use Rattle.check_case.specs.Claims.{kinds_in}
use Rattle.check_case.proofs.unknown.unknown_item.Given as goal

abbrev pub invariant-loop-number : goal.invariant-loop-number
invariant-loop-number l =
    AreFindings IsUnknownItem (unknown_item_at (flat l.scans.design.now)) (sites_below kinds_in (flat l.scans.design.now) l.number) l.found.items
