use Rattle.std.proofs.Common.{◌≤◌, drop}
use Rattle.rtl_prep.specs.Passes.{all_seen, asking}
use Rattle.rtl_prep.proofs.Asked.{Behind}
use Rattle.rtl_prep.proofs.asks.asks.Given as goal

abbrev pub invariant-loop-notice : goal.invariant-loop-notice
invariant-loop-notice l = record {
  behind : Behind (asking l.asking) (all_seen (drop l.notice-index l.notices)) (all_seen l.notices);
  few : l.asking.begun ≤ l.notice-index;
}
