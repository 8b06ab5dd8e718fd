-- Waivers, and what they are of.
-- Worked examples: crates/waiver_book/proofs/Example.antt.
use Rattle.std.specs.Prelude.{ℤ, ℕ, Bool, ◌&&◌, ◌==◌, nat_eq, int_le, int_lt, bytes_eq, List, is_none, Option, Some, None, if◌then◌else◌}
use Rattle.std.specs.List.{list_any}
use Rattle.rtl_rule.specs.Rows.{rule_number}
use Rattle.rtl_rule.specs.declared.finding.Key.{Key}

-- a finding of a file with this digest that is set aside: who answers for it, the last day on which it
-- stands, and why
pub record Waiver : Type 0 where
  pub key : Key
  pub digest : List ℕ
  pub owner : List ℕ
  pub last_day : ℤ
  pub reason : List ℕ

-- a waiver of the book, with the day of its revocation
pub record Entry : Type 0 where
  pub waiver : Waiver
  pub ended : Option ℤ

-- the keys name one finding: rule, place, target and file are the same
abbrev pub is_same_key : Key → Key → Bool
is_same_key one other =
    nat_eq (rule_number one.rule) (rule_number other.rule) && one.at == other.at && bytes_eq one.target other.target && bytes_eq one.file other.file

-- one of these keys names the finding
abbrev pub has_key : Key → List Key → Bool
has_key key keys = list_any (λ other. is_same_key other key) keys

-- the waiver is of this finding, in a file with this digest
abbrev pub is_for : Key → List ℕ → Entry → Bool
is_for key digest entry = is_same_key entry.waiver.key key && bytes_eq entry.waiver.digest digest

-- it isn't revoked, and its last day is this day or later
abbrev pub stands : ℤ → Entry → Bool
stands today entry = is_none entry.ended && int_le today entry.waiver.last_day

-- it is of this finding and stands on this day
abbrev pub covers : Key → List ℕ → ℤ → Entry → Bool
covers key digest today entry = is_for key digest entry && stands today entry

-- the day, if it is past
abbrev pub if_past : ℤ → ℤ → Option ℤ
if_past today day = if int_lt day today then Some day else None

abbrev pub end_by : ℤ → ℤ → Option ℤ → Option ℤ
end_by today last_day None = if_past today last_day
end_by today last_day (Some day) = Some day
