-- It serves inner contracts and proofs; no answer of the program is stated by it.
-- How deep the cases of a body stand in one another that say `parallel_case`.
use Rattle.std.specs.Prelude.{ℕ, ◌+◌, max, cond}
use Rattle.rtl_flat.specs.Process.{Action, Set, If, Case, Block, Actions, Done, Then, Otherwise, Without, With, Branches, NoBranch, Branch, Doing, Assign, Comb, Edge'}

abbrev mutual
  pub levels : Action → ℕ
  levels (Set target value delayed spot) = 0
  levels (If test taken other spot) = max (levels_of taken) (other_levels other)
  levels (Case kind full parallel selector branches fallback spot) =
      max (cond parallel 1 0 + branch_levels branches) (other_levels fallback)
  levels (Block body) = levels_of body

  pub levels_of : Actions → ℕ
  levels_of Done = 0
  levels_of (Then first others) = max (levels first) (levels_of others)

  pub other_levels : Otherwise → ℕ
  other_levels Without = 0
  other_levels (With body) = levels_of body

  pub branch_levels : Branches → ℕ
  branch_levels NoBranch = 0
  branch_levels (Branch labels body others) = max (levels_of body) (branch_levels others)

-- the same in a process
abbrev pub process_levels : Doing → ℕ
process_levels (Assign target value) = 0
process_levels (Comb list body) = levels_of body
process_levels (Edge' events body) = levels_of body
