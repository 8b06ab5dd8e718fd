use Rattle.std.proofs.Common.{◌≡◌, take}
use Rattle.std.specs.List.{filter_map}
use Rattle.rtl_flat.specs.Process.{task}
use Rattle.rtl_flat.specs.Flats.{flat}
use Rattle.check_gates.specs.Links.{plain_of}
use Rattle.check_gates.proofs.links.plain_links.Given as goal

abbrev pub invariant-loop-process : goal.invariant-loop-process
invariant-loop-process l =
    l.links.items ≡ filter_map (λ process. plain_of (flat l.design) (task process)) (take l.process-index l.design.processes.items)
