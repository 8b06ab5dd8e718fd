-- Bodies without faults.
use Rattle.std.specs.Prelude.{ℕ, ◌+◌, ◌≤◌, Bool, true, List, [], ◌++◌, map, Option}
use Rattle.std.proofs.Common.{◌≡◌, sym, subst, arith}
use Rattle.rtl_const.specs.Constant.{constant}
use Rattle.rtl_tree.specs.TreeExpr.{Formula}
use Rattle.rtl_tree.specs.declared.tree.stmt.AssignmentKind.{AssignmentKind}
use Rattle.rtl_tree.specs.declared.tree.stmt.CaseKind.{CaseKind}
use Rattle.rtl_tree.specs.TreeStmt.{Target, Action, Null, Delayed, Assign, If, IfElse, Case, For, Block, Actions, no_actions, more_actions, Branch, Labelled, Default, Branches, no_branches, more_branches, Pause}
use Rattle.rtl_flat.specs.declared.signal.Signal.{Signal}
use Rattle.rtl_flat.specs.Expression.{Tree}
use Rattle.rtl_flat.specs.Process.{body_of, Otherwise}
use Rattle.rtl_flat.specs.Process as made
use Rattle.rtl_flat.specs.WellFormed.{AreBranches, IsOtherwise, branch_statements, other_statements, statements_of}
use Rattle.elab_body.specs.elab_scope.declared.context.Context.{Context}
use Rattle.elab_body.specs.elab_scope.declared.rules.Writer.TheVariants as writer
use Rattle.elab_body.specs.elab_scope.Expressions.{faults}
use Rattle.elab_body.specs.elab_scope.Names.{Meanings, numbers_in}
use Rattle.elab_body.specs.elab_scope.Own.{breadth, sign}
use Rattle.elab_body.specs.elab_scope.Targets.{target_faults}
use Rattle.elab_body.specs.elab_scope.Trees.{own_context, spot_in, tree_of}
use Rattle.elab_body.specs.elab_scope.Widths.{bits}
use Rattle.elab_body.proofs.elab_scope_proofs.Law.{tree_is_expression}
use Rattle.elab_body.specs.elab_nodes.Nodes.{node_count}
use Rattle.elab_body.specs.Acts.{acts, body_acts, branches_breadth, case_branches, case_context, fallback, first_fallback, with_branch}
use Rattle.elab_body.specs.Bodies.{all_faults, body_steps, branch_item_steps, branches_steps, pause_steps, steps}
use Rattle.elab_body.specs.Steps.{Step, faulty}
use Rattle.elab_body.specs.Faultless.{AreFaultless, statement_count}
use Rattle.elab_laws.specs.Scopes.{IsScopeOf}
use Rattle.elab_laws.proofs.Assignments.{assignment}
use Rattle.elab_laws.proofs.Labels.{AllBelow, AllSigned, IsBelow, IsSignedBranch, WidestBranches, labels_lawful, same_signs, same_widths, signed_branches, widest_branches}
use Rattle.elab_laws.proofs.Made.{Made, made_append, made_else, made_if, made_more, made_none}
use Rattle.elab_laws.proofs.Steps.{count_append, faultless_left, faultless_right, no_faults}
use Rattle.elab_laws.proofs.Turns.{made_loop}
use Rattle.elab_laws.proofs.Values.{Fits, bits_of_fit, bits_most, own_bits, own_expression, own_fits}

-- an assignment
set_made : (file base : ℕ) (ss : List Signal) (scope : Meanings) → IsScopeOf base ss scope → (target : Target) (kind : AssignmentKind) (pause : Option Pause) (value : Formula) → AreFaultless (steps (Assign target kind pause value) scope) → Made ss (steps (Assign target kind pause value) scope) (acts file base (Assign target kind pause value) scope)
set_made file base ss scope d target kind pause value h =
    let first = faulty (target_faults writer.Procedural scope target) in
    let last = faulty (faults scope value) in
    let front : AreFaultless (first ++ pause_steps pause) = faultless_left (first ++ pause_steps pause) last h in
    let fine : target_faults writer.Procedural scope target ≡ [] = no_faults (target_faults writer.Procedural scope target) (faultless_left first (pause_steps pause) front) in
    let none : faults scope value ≡ [] = no_faults (faults scope value) (faultless_right (first ++ pause_steps pause) last h) in
    record { body = (assignment file base scope ss d writer.Procedural target value fine none, tt); count = omega arith }

-- the items of a case
record MadeBranches (ss : List Signal) (xs : List Step) (selector : Tree) (items : made.Branches) (fallback : Otherwise) : Type 0 where
  pub branches : AreBranches ss selector items
  pub other : IsOtherwise ss fallback
  pub count : branch_statements items + other_statements fallback ≤ statement_count xs

labelled : (file base : ℕ) (ss : List Signal) (scope : Meanings) → IsScopeOf base ss scope → (c : Context) → c.width ≤ 128 → (selector : Formula) (labels : List Formula) (body : Action) (xs : List Step) (branches : made.Branches) (other : Otherwise) → Made ss (steps body scope) (acts file base body scope) → MadeBranches ss xs (tree_of file base scope selector c) branches other → all_faults scope labels ≡ [] → IsBelow scope c.width (Labelled labels body) → (c.signed ≡ true → IsSignedBranch scope (Labelled labels body)) → MadeBranches ss (faulty (all_faults scope labels) ++ steps body scope ++ xs) (tree_of file base scope selector c) (made.Branch (map (λ label. tree_of file base scope label c) labels) (body_of (acts file base body scope)) branches) other
labelled file base ss scope d c top selector labels body xs branches other m r none low may =
    let first : statements_of (body_of (acts file base body scope)) ≤ statement_count (steps body scope) = m.count in
    let second : branch_statements branches + other_statements other ≤ statement_count xs = r.count in
    let item = faulty (all_faults scope labels) in
    record {
      branches = (labels_lawful file base scope ss d c top labels none low may, same_widths file base scope ss c selector labels, same_signs file base scope c selector labels, m.body, r.branches);
      other = r.other;
      count = omega (arith, first, second, count_append (item ++ steps body scope) xs, count_append item (steps body scope));
    }

default : (ss : List Signal) (selector : Tree) (ys xs : List Step) (body : List made.Action) (branches : made.Branches) (other : Otherwise) → Made ss ys body → MadeBranches ss xs selector branches other → MadeBranches ss (ys ++ xs) selector branches (made.With (body_of body))
default ss selector ys xs body branches other m r =
    let first : statements_of (body_of body) ≤ statement_count ys = m.count in
    let second : branch_statements branches + other_statements other ≤ statement_count xs = r.count in
    record { branches = r.branches; other = m.body; count = omega (arith, first, second, count_append ys xs) }

-- a case in its context
record CaseFits (scope : Meanings) (selector : Formula) (branches : Branches) (c : Context) : Type 0 where
  pub selector_below : bits (breadth scope selector) ≤ c.width
  pub below : AllBelow scope c.width branches
  pub most : c.width ≤ 128
  pub selector_signed : c.signed ≡ true → sign scope selector ≡ true
  pub signed : c.signed ≡ true → AllSigned scope branches

case_fits : (base : ℕ) (ss : List Signal) (scope : Meanings) → IsScopeOf base ss scope → (selector : Formula) (branches : Branches) → faults scope selector ≡ [] → AreFaultless (branches_steps branches scope) → CaseFits scope selector branches (case_context scope selector branches)
case_fits base ss scope d selector branches none h =
    let n : ℕ = own_bits base scope ss selector in
    let f : Fits (breadth scope selector) n = own_fits base scope ss d selector none in
    let w : WidestBranches scope (branches_breadth scope (breadth scope selector) branches) branches n = widest_branches base scope ss d (breadth scope selector) n f branches h in
    let own : bits (breadth scope selector) ≡ n = bits_of_fit (breadth scope selector) n f in
    let all : bits (branches_breadth scope (breadth scope selector) branches) ≡ w.size = bits_of_fit (branches_breadth scope (breadth scope selector) branches) w.size w.fits in
    let above : n ≤ w.size = w.above in
    record {
      selector_below = omega (arith, own, all, above);
      below = subst (λ n. AllBelow scope n branches) (sym all) w.each;
      most = bits_most (branches_breadth scope (breadth scope selector) branches);
      selector_signed = λ is. (signed_branches scope (sign scope selector) branches is).0;
      signed = λ is. (signed_branches scope (sign scope selector) branches is).1;
    }

case_made : (file base : ℕ) (ss : List Signal) (scope : Meanings) → IsScopeOf base ss scope → (at : ℕ) (kind : CaseKind) (full parallel : Bool) (selector : Formula) (branches : Branches) → AreFaultless (faulty (faults scope selector) ++ branches_steps branches scope) → (AreFaultless (branches_steps branches scope) → CaseFits scope selector branches (case_context scope selector branches) → MadeBranches ss (branches_steps branches scope) (tree_of file base scope selector (case_context scope selector branches)) (case_branches file base branches scope (case_context scope selector branches)) (fallback file base branches scope)) → Made ss (steps (Case at kind full parallel selector branches) scope) (acts file base (Case at kind full parallel selector branches) scope)
case_made file base ss scope d at kind full parallel selector branches h next =
    let none : faults scope selector ≡ [] = no_faults (faults scope selector) (faultless_left (faulty (faults scope selector)) (branches_steps branches scope) h) in
    let rest : AreFaultless (branches_steps branches scope) = faultless_right (faulty (faults scope selector)) (branches_steps branches scope) h in
    let c : Context = case_context scope selector branches in
    let fits : CaseFits scope selector branches c = case_fits base ss scope d selector branches none rest in
    let r = next rest fits in
    let few : branch_statements (case_branches file base branches scope c) + other_statements (fallback file base branches scope) ≤ statement_count (branches_steps branches scope) = r.count in
    record {
      body = ((tree_is_expression file base scope ss d.described d.bits selector none c fits.selector_below fits.most fits.selector_signed, r.branches, r.other), tt);
      count = omega (arith, few, count_append (faulty (faults scope selector)) (branches_steps branches scope));
    }

mutual
  -- the statements of a body without faults are lawful, and no more than its steps count
  pub body_made : (file base : ℕ) (ss : List Signal) (body : Action) (scope : Meanings) → IsScopeOf base ss scope → AreFaultless (steps body scope) → Made ss (steps body scope) (acts file base body scope)
  body_made file base ss (Null at) scope d h = made_none ss []
  body_made file base ss (Delayed pause body) scope d h =
      made_more ss (steps body scope) (steps (Delayed pause body) scope) (acts file base body scope) (body_made file base ss body scope d h) (omega arith)
  body_made file base ss (Assign target kind pause value) scope d h =
      set_made file base ss scope d target kind pause value h
  body_made file base ss (If at condition taken) scope d h =
      made_if ss at (constant (numbers_in scope) condition) (node_count scope condition) (faults scope condition) (steps taken scope) (spot_in file at) (tree_of file base scope condition (own_context scope condition)) (acts file base taken scope) (λ none. own_expression file base scope ss d condition none) (λ none. body_made file base ss taken scope d none) h
  body_made file base ss (IfElse at condition taken otherwise) scope d h =
      made_else ss at (constant (numbers_in scope) condition) (node_count scope condition) (faults scope condition) (steps taken scope) (steps otherwise scope) (spot_in file at) (tree_of file base scope condition (own_context scope condition)) (acts file base taken scope) (acts file base otherwise scope) (λ none. own_expression file base scope ss d condition none) (λ none. body_made file base ss taken scope d none) (λ none. body_made file base ss otherwise scope d none) h
  body_made file base ss (Case at kind full parallel selector branches) scope d h =
      case_made file base ss scope d at kind full parallel selector branches h (λ rest fits. branches_made file base ss branches scope d (case_context scope selector branches) fits.most selector rest fits.below fits.signed)
  body_made file base ss (For at index start condition stepped step body) scope d h =
      made_loop base ss (steps body) (acts file base body) (λ turn e none. body_made file base ss body turn e none) scope d (record { at = at; index = index; start = start; condition = condition; stepped = stepped; step = step }) h
  body_made file base ss (Block at label body) scope d h =
      let r = list_made file base ss body scope d h in
      let few : statements_of (body_of (body_acts file base body scope)) ≤ statement_count (body_steps body scope) = r.count in
      record { body = (r.body, tt); count = omega (arith, few) }

  list_made : (file base : ℕ) (ss : List Signal) (body : Actions) (scope : Meanings) → IsScopeOf base ss scope → AreFaultless (body_steps body scope) → Made ss (body_steps body scope) (body_acts file base body scope)
  list_made file base ss no_actions scope d h = made_none ss []
  list_made file base ss (more_actions first others) scope d h =
      made_append ss (steps first scope) (body_steps others scope) (acts file base first scope) (body_acts file base others scope) (body_made file base ss first scope d (faultless_left (steps first scope) (body_steps others scope) h)) (list_made file base ss others scope d (faultless_right (steps first scope) (body_steps others scope) h))

  branch_made : (file base : ℕ) (ss : List Signal) (first : Branch) (scope : Meanings) → IsScopeOf base ss scope → (c : Context) → c.width ≤ 128 → (selector : Formula) (xs : List Step) (branches : made.Branches) (other : Otherwise) → AreFaultless (branch_item_steps first scope) → IsBelow scope c.width first → (c.signed ≡ true → IsSignedBranch scope first) → MadeBranches ss xs (tree_of file base scope selector c) branches other → MadeBranches ss (branch_item_steps first scope ++ xs) (tree_of file base scope selector c) (with_branch file base first scope c branches) (first_fallback file base first scope other)
  branch_made file base ss (Labelled labels body) scope d c top selector xs branches other h low may r =
      labelled file base ss scope d c top selector labels body xs branches other (body_made file base ss body scope d (faultless_right (faulty (all_faults scope labels)) (steps body scope) h)) r (no_faults (all_faults scope labels) (faultless_left (faulty (all_faults scope labels)) (steps body scope) h)) low may
  branch_made file base ss (Default at body) scope d c top selector xs branches other h low may r =
      default ss (tree_of file base scope selector c) (steps body scope) xs (acts file base body scope) branches other (body_made file base ss body scope d h) r

  branches_made : (file base : ℕ) (ss : List Signal) (branches : Branches) (scope : Meanings) → IsScopeOf base ss scope → (c : Context) → c.width ≤ 128 → (selector : Formula) → AreFaultless (branches_steps branches scope) → AllBelow scope c.width branches → (c.signed ≡ true → AllSigned scope branches) → MadeBranches ss (branches_steps branches scope) (tree_of file base scope selector c) (case_branches file base branches scope c) (fallback file base branches scope)
  branches_made file base ss no_branches scope d c top selector h low may =
      record { branches = tt; other = tt; count = omega arith }
  branches_made file base ss (more_branches first others) scope d c top selector h low may =
      branch_made file base ss first scope d c top selector (branches_steps others scope) (case_branches file base others scope c) (fallback file base others scope) (faultless_left (branch_item_steps first scope) (branches_steps others scope) h) low.0 (λ is. (may is).0) (branches_made file base ss others scope d c top selector (faultless_right (branch_item_steps first scope) (branches_steps others scope) h) low.1 (λ is. (may is).1))
