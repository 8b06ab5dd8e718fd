-- Which steps a body goes through in one run, and which bits it makes (IEEE 1364-2001 sections 9.2 to 9.5).
-- Worked examples: proofs/Example.antt.
use Rattle.std.specs.Prelude.{◌≡◌, ℕ, ◌+◌, ◌==◌, nat_lt, nat_le, Bool, false, ◌&&◌, ◌||◌, if◌then◌else◌, List, [], ◌∷◌, ◌++◌, length}
use Rattle.std.specs.List.{list_any, slice_index_or}
use Rattle.rtl_bits.specs.declared.Bit.{Bit}
use Rattle.rtl_bits.specs.declared.Bit.TheVariants.{X}
use Rattle.rtl_bits.specs.Bit.{is_one}
use Rattle.rtl_bits.specs.Bits.{truth_bit}
use Rattle.rtl_flat.specs.declared.act.CaseKind.{CaseKind}
use Rattle.rtl_flat.specs.Flows.{reads, reads_all, may_target, targets, target_reads, labels_of, body_flow}
use Rattle.rtl_flat.specs.Paths.{Step, Read, either, IsPath}
use Rattle.rtl_flat.specs.Paths as step
use Rattle.rtl_flat.specs.Process.{Action, Set, If, Case, Block, Actions, Done, Then, Otherwise, Without, With, Branches, NoBranch, Branch}
use Rattle.rtl_flat.specs.Value.{value}
use Rattle.event_model.specs.Writes.{Values, Write}
use Rattle.event_model.specs.Bodies.{Made, Now, Later, after_made, made, some_matches}

-- ---- the steps of one run

abbrev mutual
  -- the reads and writes of a statement from given values. An assignment reads its value and its indices and then writes;
  -- `if` reads its condition and goes on in the branch that it takes (section 9.4); a case reads its selector and all
  -- its labels and goes on in the first item that matches, or else in its `default` (section 9.5)
  pub trace : (ℕ → ℕ) → Values → Action → List Step
  trace ws v (Set target e delayed spot) =
      Read (either (reads ws e) (target_reads ws target)) ∷ step.Write delayed (may_target ws target) (targets ws target) ∷ []
  trace ws v (If test taken other spot) =
      Read (reads ws test) ∷ (if is_one (truth_bit (value v test)) then body_trace ws v taken else other_trace ws v other)
  trace ws v (Case kind full parallel selector branches fallback spot) =
      Read (either (reads ws selector) (reads_all ws (labels_of branches))) ∷ branches_trace ws v kind (value v selector) (other_trace ws v fallback) branches
  trace ws v (Block body) = body_trace ws v body

  -- those of statements in order, each from the values that those before it leave
  pub body_trace : (ℕ → ℕ) → Values → Actions → List Step
  body_trace ws v Done = []
  body_trace ws v (Then first others) =
      trace ws v first ++ body_trace ws (after_made v (made ws v first)) others

  pub other_trace : (ℕ → ℕ) → Values → Otherwise → List Step
  other_trace ws v Without = []
  other_trace ws v (With body) = body_trace ws v body

  -- those of the items of a case, where `none` are the steps if none matches
  pub branches_trace : (ℕ → ℕ) → Values → CaseKind → List Bit → List Step → Branches → List Step
  branches_trace ws v kind bits none NoBranch = none
  branches_trace ws v kind bits none (Branch labels body others) =
      if some_matches kind v bits labels then body_trace ws v body
      else branches_trace ws v kind bits none others

-- whether a run takes a path of its body. It doesn't where a case that is taken for complete has no item that matches: by
-- `full_case` that was promised, and labels that cover all known values leave the unknown ones
abbrev pub FollowsPath : (ℕ → ℕ) → Values → Actions → Type 0
FollowsPath ws v body = IsPath (body_flow ws body) (body_trace ws v body)

-- ---- bits

-- whether two values have the same bit k of signal i, counted from the least significant
abbrev pub Same : Values → Values → ℕ → ℕ → Type 0
Same v u i k = slice_index_or (v i) k X ≡ slice_index_or (u i) k X

-- whether a write is over bit k of signal i
abbrev pub covers : ℕ → ℕ → Write → Bool
covers i k w = (w.signal == i) && (nat_le w.at k && nat_lt k (w.at + length w.bits))

-- whether what is made writes bit k of signal i at once
abbrev pub makes_now : ℕ → ℕ → Made → Bool
makes_now i k (Now w) = covers i k w
makes_now i k (Later ws) = false

-- whether it writes the bit later
abbrev pub makes_late : ℕ → ℕ → Made → Bool
makes_late i k (Now w) = false
makes_late i k (Later ws) = list_any (covers i k) ws

-- whether it writes the bit in either way
abbrev pub makes : ℕ → ℕ → Made → Bool
makes i k m = makes_now i k m || makes_late i k m
