-- No rule has a code that isn't in the table.
use Rattle.std.proofs.Common.{◌≡◌, refl, codes, None}
use Rattle.rtl_rule.specs.Rows.{rule_with}

none_found : rule_with (codes "S4") ≡ None
none_found = refl
