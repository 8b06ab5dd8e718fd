use Rattle.std.proofs.Common.{◌≡◌, map, drop}
use Rattle.std.specs.List.{list_any}
use Rattle.std.specs.Str.{bytes_eq}
use Rattle.elab_links.proofs.instances.is_on.Given as goal

abbrev pub invariant-loop-other : goal.invariant-loop-other
invariant-loop-other l =
    list_any (bytes_eq l.name) (map (λ text. text.now) (drop l.other-index l.way))
    ≡ list_any (bytes_eq l.name) (map (λ text. text.now) l.way)
