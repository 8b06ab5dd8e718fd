-- What a body does in one run (IEEE 1364-2001 sections 9.2 to 9.5).
-- Worked examples: proofs/Example.antt.
use Rattle.std.specs.Prelude.{ℕ, Bool, true, false, if◌then◌else◌, List, [], ◌∷◌, ◌++◌, map}
use Rattle.std.specs.List.{list_any}
use Rattle.rtl_bits.specs.declared.Bit.{Bit}
use Rattle.rtl_bits.specs.Bit.{is_one}
use Rattle.rtl_bits.specs.Bits.{truth_bit}
use Rattle.rtl_flat.specs.declared.act.CaseKind.{CaseKind}
use Rattle.rtl_flat.specs.Expression.{Tree}
use Rattle.rtl_flat.specs.Labels.{label_matches}
use Rattle.rtl_flat.specs.Process.{Action, Set, If, Case, Block, Actions, Done, Then, Otherwise, Without, With, Branches, NoBranch, Branch}
use Rattle.rtl_flat.specs.Value.{value}
use Rattle.event_model.specs.Writes.{Values, Write, written, writes}

-- what a statement makes: a write at once; or an update for later, with its writes in order
pub data Made : Type 0 where
  Now : (write : Write) → Made
  Later : (writes : List Write) → Made

-- the values after what is made, of which only the writes at once change any
abbrev pub after_made : Values → List Made → Values
after_made v [] = v
after_made v (Now w ∷ others) = after_made (written v w) others
after_made v (Later ws ∷ others) = after_made v others

-- a blocking assignment writes at once, and a nonblocking one makes an update (section 9.2)
abbrev pub assigned : Bool → List Write → List Made
assigned false ws = map Now ws
assigned true ws = Later ws ∷ []

-- whether some label of an item matches (section 9.5)
abbrev pub some_matches : CaseKind → Values → List Bit → List Tree → Bool
some_matches kind v bits labels =
    list_any (λ label. label_matches kind bits (value v label)) labels

abbrev mutual
  -- what a statement makes from given values. `if` takes its branch where the condition has a 1 (section 9.4); of a case
  -- the first item with a label that matches runs, or else its `default` (section 9.5)
  pub made : (ℕ → ℕ) → Values → Action → List Made
  made ws v (Set target e delayed spot) = assigned delayed (writes ws v target (value v e))
  made ws v (If test taken other spot) =
      if is_one (truth_bit (value v test)) then body_made ws v taken else other_made ws v other
  made ws v (Case kind full parallel selector branches fallback spot) =
      branches_made ws v kind (value v selector) (other_made ws v fallback) branches
  made ws v (Block body) = body_made ws v body

  -- statements in order, each from the values that those before it leave
  pub body_made : (ℕ → ℕ) → Values → Actions → List Made
  body_made ws v Done = []
  body_made ws v (Then first others) =
      made ws v first ++ body_made ws (after_made v (made ws v first)) others

  pub other_made : (ℕ → ℕ) → Values → Otherwise → List Made
  other_made ws v Without = []
  other_made ws v (With body) = body_made ws v body

  -- the items of a case, where `none` is made if none matches
  pub branches_made : (ℕ → ℕ) → Values → CaseKind → List Bit → List Made → Branches → List Made
  branches_made ws v kind bits none NoBranch = none
  branches_made ws v kind bits none (Branch labels body others) =
      if some_matches kind v bits labels then body_made ws v body
      else branches_made ws v kind bits none others
