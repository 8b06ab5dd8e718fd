use Rattle.std.proofs.Common.{◌≡◌, ◌++◌, drop}
use Rattle.rtl_flat.specs.Process.{task}
use Rattle.check_sense.specs.Telling.{lacking_in}
use Rattle.check_sense.proofs.missing.push_lacking.Given as goal

abbrev pub invariant-loop-row : goal.invariant-loop-row
invariant-loop-row l =
    l.found.items ++ lacking_in (task l.process) l.listed.masks (drop l.row-index l.read) ≡ l.fn.found.items ++ lacking_in (task l.process) l.listed.masks l.read
