use Rattle.std.proofs.Common.{map}
use Rattle.rtl_flat.specs.Process.{action, body_of}
use Rattle.rtl_rule.specs.Parts.{all_of}
use Rattle.rtl_flat.specs.Flats.{flat}
use Rattle.check_chains.specs.Branches.{AreGiven}
use Rattle.check_chains.proofs.branches.is_reset_branch.Given as goal

abbrev pub invariant-loop-one : goal.invariant-loop-one
invariant-loop-one l =
    AreGiven (flat l.design) (all_of (body_of (map action l.branch))) l.one-index l.registers l.seen
