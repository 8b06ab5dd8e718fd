-- The order of findings: by instance, then by place in the text, then by rule, then by signal, none before any.
-- Worked examples: crates/tests_rows/stdin.
use Rattle.std.specs.Prelude.{ℕ, ◌+◌, List, [], ◌∷◌, Bool, if◌then◌else◌, Option, Some, None}
use Rattle.std.specs.Cmp.Lexicographic.{slice_cmp}
use Rattle.std.specs.Ordering.{is_lt, nat_cmp}
use Rattle.rtl_flat.specs.declared.expr.SigId.{SigId}
use Rattle.rtl_rule.specs.declared.finding.Finding.{Finding}
use Rattle.rtl_rule.specs.Rows.{rule_number}

-- the number by which signals are ranked, none before any
abbrev pub signal_rank : Option SigId → ℕ
signal_rank None = 0
signal_rank (Some signal) = signal.0 + 1

-- the numbers by which a finding is ranked, the weightiest first
abbrev pub rank_of : Finding → List ℕ
rank_of finding =
    finding.instance ∷ finding.spot.file ∷ finding.spot.at ∷ rule_number finding.rule ∷ signal_rank finding.signal ∷ []

-- the first number that differs is the smaller
abbrev pub comes_before : Finding → Finding → Bool
comes_before one other = is_lt (slice_cmp nat_cmp (rank_of one) (rank_of other))

-- a finding put in front of the first that doesn't come before it
abbrev pub placed : Finding → List Finding → List Finding
placed finding [] = finding ∷ []
placed finding (first ∷ others) =
    if comes_before first finding then first ∷ placed finding others else finding ∷ first ∷ others

-- findings in their order
abbrev pub ranked : List Finding → List Finding
ranked [] = []
ranked (first ∷ others) = placed first (ranked others)
