use Rattle.std.proofs.Common.{◌≡◌, ◌<◌, ℕ, false, Some, None}
use Rattle.std.specs.List.{slice_get}
use Rattle.rtl_rule.specs.declared.finding.Finding.{Finding}
use Rattle.demo_replay.specs.Compared.{is_trial_of}
use Rattle.demo_replay.proofs.firsts.is_wanted.Given as goal

abbrev pub invariant-loop-at : goal.invariant-loop-at
invariant-loop-at l =
    (k : ℕ) (finding : Finding) → k < l.at → slice_get l.findings k ≡ Some finding → slice_get l.found k ≡ Some None → is_trial_of finding.rule l.trial.number ≡ false
