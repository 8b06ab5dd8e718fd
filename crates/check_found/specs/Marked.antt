-- It serves inner contracts and proofs; no answer of the program is stated by it.
-- Signals with places in the text, and their findings.
use Rattle.std.specs.Prelude.{ℕ, ◌≡◌, ◌==◌, Bool, true, false, not, List, [], ◌∷◌, ◌++◌, map, Option, Some, None, slice_index_or}
use Rattle.std.specs.List.{filter}
use Rattle.std.specs.List.Sorted.{IsStrictlySortedBy}
use Rattle.std.specs.Map.{lookup}
use Rattle.std.specs.Ordering.{nat_cmp}
use Rattle.std.specs.BTreeMap.{get, is_at}
use Rattle.text_ground.specs.declared.text.Spot.{Spot}
use Rattle.rtl_rule.specs.declared.finding.Finding.{Finding}
use Rattle.rtl_rule.specs.declared.rule.Rule.{Rule}
use Rattle.rtl_rule.specs.Parts.{is_earlier, number}
use Rattle.check_found.specs.declared.marks.Among.{Among}
use Rattle.check_found.specs.declared.marks.Among.TheVariants.{All, Kept, Listed, Marked}

-- ---- places

abbrev pub if_earlier : Bool → Spot → Spot → Spot
if_earlier true one other = other
if_earlier false one other = one

-- the lesser of two places
abbrev pub sooner : Spot → Spot → Spot
sooner one other = if_earlier (is_earlier other one) one other

abbrev pub joined : Option Spot → Option Spot → Option Spot
joined None other = other
joined (Some one) None = Some one
joined (Some one) (Some other) = Some (sooner one other)

-- the least of some places
abbrev pub least_of : List Spot → Option Spot
least_of [] = None
least_of (one ∷ others) = joined (Some one) (least_of others)

-- ---- signals with places

abbrev pub is_some_spot : Option Spot → Bool
is_some_spot None = false
is_some_spot (Some spot) = true

-- whether a signal is among some
abbrev pub wants : Among → ℕ → Bool
wants All s = true
wants (Kept temporaries) s = not (slice_index_or temporaries.now s false)
wants (Listed listed) s = slice_index_or listed.now s false
wants (Marked marks) s = is_some_spot (get nat_cmp marks.now.spots s)

abbrev pub shown : Rule → ℕ → (ℕ × Spot) → Finding
shown rule instance entry =
    record { rule = rule; signal = number entry.0; instance = instance; spot = entry.1 }

-- the entries of signals that pass a test
abbrev pub passing : (ℕ → Bool) → List (ℕ × Spot) → List (ℕ × Spot)
passing test entries = filter (λ (e : ℕ × Spot). test e.0) entries

-- findings of signals that have places are put behind others, in the order of signals
pub record Shows (rule : Rule) (instance : ℕ) (marks : ℕ → Option Spot) (old new : List Finding) : Type 0 where
  pub entries : List (ℕ × Spot)
  pub sorted : IsStrictlySortedBy nat_cmp (map (λ (e : ℕ × Spot). e.0) entries)
  pub each : (s : ℕ) → lookup (is_at (nat_cmp s)) entries ≡ marks s
  pub is : new ≡ old ++ map (shown rule instance) entries
