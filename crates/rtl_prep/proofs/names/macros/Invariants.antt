use Rattle.std.proofs.Common.{◌≡◌, [], drop}
use Rattle.rtl_prep.specs.Conditions.{macros_from}
use Rattle.rtl_prep.specs.Passes.{all_seen}
use Rattle.rtl_prep.proofs.names.macros.Given as goal

abbrev pub invariant-loop-notice : goal.invariant-loop-notice
invariant-loop-notice l = macros_from l.names (all_seen (drop l.notice-index l.notices)) ≡ macros_from [] (all_seen l.notices)
