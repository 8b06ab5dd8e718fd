-- It serves inner contracts and proofs; no answer of the program is stated by it.
-- Labels of a case, some of them by their numbers.
use Rattle.std.specs.Prelude.{ℕ, ◌≡◌, Bool, false, ◌||◌, List, [], ◌∷◌, length, Option, Some, None}
use Rattle.std.specs.List.{list_any}
use Rattle.std.specs.Ordering.{nat_cmp}
use Rattle.std.specs.BTreeSet.{contains}
use Rattle.rtl_bits.specs.declared.Bit.{Bit}
use Rattle.rtl_bits.specs.Bits.{has_unknown, number}
use Rattle.rtl_flat.specs.declared.act.CaseKind.{CaseKind}
use Rattle.rtl_flat.specs.Flows.{literal_matches}
use Rattle.rtl_scan.specs.declared.values.Labels.{Labels}

-- the bits of a label that may be a literal
abbrev pub listed_of : Option (List Bit) → List (List Bit)
listed_of None = []
listed_of (Some bits) = bits ∷ []

-- whether one of them matches a value
abbrev pub matches_some : CaseKind → List Bit → Labels → Bool
matches_some kind value labels =
    contains nat_cmp labels.numbers (number value) || list_any (literal_matches kind value) labels.others.items

-- they match besides what one label more does
pub record GetsLabel (width : ℕ) (label : List Bit) (old new : Labels) : Type 0 where
  pub each : (kind : CaseKind) (value : List Bit) → length value ≡ width → has_unknown value ≡ false → matches_some kind value new ≡ (matches_some kind value old || literal_matches kind value label)

-- they match the values of a width that some labels do
pub record AreSorted (width : ℕ) (labels : List (List Bit)) (sorted : Labels) : Type 0 where
  pub each : (kind : CaseKind) (value : List Bit) → length value ≡ width → has_unknown value ≡ false → matches_some kind value sorted ≡ list_any (literal_matches kind value) labels
