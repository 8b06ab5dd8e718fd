use Rattle.rtl_flat.specs.Flats.{flat}
use Rattle.rtl_rule.specs.Sites.{AreFindings}
use Rattle.rtl_rule.specs.Parts.{items_of}
use Rattle.check_found.specs.Gathered.{sites_below}
use Rattle.check_readings.specs.Readings.{IsListIndex, list_index_at}
use Rattle.check_readings.proofs.lists.list_index.Given as goal

abbrev pub invariant-loop-process : goal.invariant-loop-process
invariant-loop-process l =
    AreFindings IsListIndex list_index_at (sites_below items_of (flat l.design) l.process-index) l.found.items
