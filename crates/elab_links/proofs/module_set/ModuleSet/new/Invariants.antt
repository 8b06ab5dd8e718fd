use Rattle.std.proofs.Common.{◌≡◌, drop}
use Rattle.elab_links.specs.Modules.{circuits_of, lookups_of, placed_from}
use Rattle.elab_links.specs.Modules.{no_lookups, with_all}
use Rattle.elab_links.proofs.module_set.ModuleSet.new.Given as goal

abbrev pub invariant-loop-file : goal.invariant-loop-file
invariant-loop-file l =
    with_all (lookups_of l.set) (placed_from l.file (circuits_of (drop l.file l.files)))
    ≡ with_all no_lookups (placed_from 0 (circuits_of l.files))
