-- What names a finding across edits.
use Rattle.std.specs.Prelude.{ℕ, ◌≡◌, List, Some, slice_get}
use Rattle.rtl_rule.specs.declared.finding.Finding.{Finding}
use Rattle.rtl_rule.specs.declared.finding.Key.{Key}

-- the finding's rule and place, its target and the name of its file
pub record IsKey (target : List ℕ) (files : List (List ℕ)) (finding : Finding) (key : Key) : Type 0 where
  pub rule : key.rule ≡ finding.rule
  pub of_target : key.target ≡ target
  pub file : slice_get files finding.spot.file ≡ Some key.file
  pub at : key.at ≡ finding.spot.at
