-- It serves inner contracts and proofs; no answer of the program is stated by it.
-- What a case says of itself, and the labels of a statement.
use Rattle.std.specs.Prelude.{◌≡◌, Bool, true, List, map}
use Rattle.std.specs.List.{flat_map}
use Rattle.rtl_flat.specs.declared.act.CaseKind.{CaseKind}
use Rattle.rtl_flat.specs.Process.{Action, Doing}
use Rattle.rtl_rule.specs.declared.finding.Finding.{Finding}
use Rattle.rtl_rule.specs.declared.rule.Rule.{Rule}
use Rattle.rtl_rule.specs.declared.rule.Rule.TheVariants.{FullCase, ParallelCase}
use Rattle.rtl_rule.specs.Parts.{At, found_at, own_labels, statements}
use Rattle.rtl_flat.specs.Flats.{Flat, widths}
use Rattle.rtl_rule.specs.Sites.{AreFindings}
use Rattle.check_found.specs.Gathered.{Gets}
use Rattle.check_case.specs.declared.claims.Claim.{Claim}
use Rattle.check_case.specs.declared.claims.Claim.TheVariants.{Full, Parallel}
use Rattle.check_case.specs.Cases.{IsUnknownItem, Label, first_in, is_false_full, is_false_parallel, label_in, own_kinds, spot_of, statement_sites, unknown_item_at}

-- the rule that a false claim breaks
abbrev pub rule_of : Claim → Rule
rule_of Full = FullCase
rule_of Parallel = ParallelCase

-- whether a statement makes a claim that isn't so
abbrev pub claims_falsely : Flat → Claim → Action → Bool
claims_falsely d Full one = is_false_full (widths d) one
claims_falsely d Parallel one = is_false_parallel one

abbrev pub IsFalse : Flat → Claim → At Action → Type 0
IsFalse d claim site = claims_falsely d claim site.it ≡ true

abbrev pub claim_at : Flat → Claim → At Action → Finding
claim_at d claim site =
    found_at (rule_of claim) site (first_in d site.it) (spot_of site.task.spot site.it)

abbrev pub AreClaims : Flat → Claim → List Finding → Type 0
AreClaims d claim = AreFindings (IsFalse d claim) (claim_at d claim) (statement_sites d)

-- the findings of some statements are added to others
abbrev pub GetsClaims : Flat → Claim → List (At Action) → List Finding → List Finding → Type 0
GetsClaims d claim = Gets (IsFalse d claim) (claim_at d claim)

-- the labels of a statement with a kind
abbrev pub kinds_of : CaseKind → Action → List Label
kinds_of kind one = map (label_in kind) (own_labels one)

-- the labels of a process with the kinds of their cases
abbrev pub kinds_in : Doing → List Label
kinds_in does = flat_map own_kinds (statements does)

-- the findings of some labels are added to others
abbrev pub GetsUnknown : Flat → List (At Label) → List Finding → List Finding → Type 0
GetsUnknown d = Gets IsUnknownItem (unknown_item_at d)
