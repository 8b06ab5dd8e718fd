use Rattle.std.proofs.Common.{◌≡◌, ◌≤◌, length, drop}
use Rattle.elab_links.specs.Modules.{circuits_of, found, placed_from}
use Rattle.elab_lookups.proofs.meaning.resolve.Given as goal

abbrev pub invariant-loop-file : goal.invariant-loop-file
invariant-loop-file l =
    record {
      inside : l.file ≤ length l.files;
      meant : l.meant ≡ found (placed_from l.file (circuits_of (drop l.file l.files))) l.name;
    }

abbrev pub decreases-loop-file : goal.decreases-loop-file
decreases-loop-file l = l.file
