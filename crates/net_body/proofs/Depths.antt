-- Cases stand no deeper in one another than there are statements.
use Rattle.std.proofs.Common.{◌≤◌, Bool, true, false, cond, arith}
use Rattle.rtl_flat.specs.Process.{Action, Set, If, Case, Block, Actions, Done, Then, Otherwise, Without, With, Branches, NoBranch, Branch}
use Rattle.rtl_flat.specs.WellFormed.{branch_statements, other_statements, statements, statements_of}
use Rattle.net_body.specs.Levels.{branch_levels, levels, levels_of, other_levels}

mutual
  pub levels_less : (a : Action) → levels a ≤ statements a
  levels_less (Set target value delayed spot) = omega arith
  levels_less (If test taken other spot) =
      let one = body_less taken in
      let two = other_less other in
      omega (arith, one, two)
  levels_less (Case kind full true selector branches fallback spot) =
      let one = branch_less branches in
      let two = other_less fallback in
      omega (arith, one, two)
  levels_less (Case kind full false selector branches fallback spot) =
      let one = branch_less branches in
      let two = other_less fallback in
      omega (arith, one, two)
  levels_less (Block body) = let one = body_less body in omega (arith, one)

  pub body_less : (body : Actions) → levels_of body ≤ statements_of body
  body_less Done = omega arith
  body_less (Then first others) =
      let one = levels_less first in
      let two = body_less others in
      omega (arith, one, two)

  pub other_less : (other : Otherwise) → other_levels other ≤ other_statements other
  other_less Without = omega arith
  other_less (With body) = body_less body

  pub branch_less : (branches : Branches) → branch_levels branches ≤ branch_statements branches
  branch_less NoBranch = omega arith
  branch_less (Branch labels body others) =
      let one = body_less body in
      let two = branch_less others in
      omega (arith, one, two)

pub cond_one : (b : Bool) → cond b 1 0 ≤ 1
cond_one true = omega arith
cond_one false = omega arith
