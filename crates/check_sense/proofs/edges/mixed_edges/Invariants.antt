use Rattle.rtl_flat.specs.Flats.{flat}
use Rattle.rtl_rule.specs.Sites.{AreFindings}
use Rattle.check_found.specs.Gathered.{sites_below}
use Rattle.check_sense.specs.Sense.{IsMixedEdges, mixed_edges_at}
use Rattle.check_sense.specs.Telling.{itself}
use Rattle.check_sense.proofs.edges.mixed_edges.Given as goal

abbrev pub invariant-loop-process : goal.invariant-loop-process
invariant-loop-process l =
    AreFindings IsMixedEdges mixed_edges_at (sites_below itself (flat l.design) l.process-index) l.found.items
