-- What statements and the items of a case begin with, and that nothing is longer after they were read.
use Rattle.std.proofs.Common.{◌≡◌, ◌≤◌, ◌<◌, Bool, true, false, List, [], ◌∷◌, length, Option, Some, None, refl, sym, ap, subst, inl, inr, arith}
use Rattle.rtl_tree.specs.declared.symbol.Symbol.{Symbol}
use Rattle.rtl_tree.specs.declared.symbol.Symbol.TheVariants as symbol
use Rattle.rtl_tree.specs.declared.tree.stmt.CaseKind.TheVariants as kind
use Rattle.rtl_tree.specs.Symbols.{Terminal}
use Rattle.rtl_tree.specs.TreeExpr.{Identifier, Formula}
use Rattle.rtl_tree.specs.TreeStmt.{Action, Null, Delayed, Assign, If, IfElse, Case, For, Block, Actions, no_actions, more_actions, Branch, Labelled, Default, Branches, no_branches, more_branches}
use Rattle.text_grammar.specs.Grammar.{IsOptional, AreMore, AreListed}
use Rattle.text_grammar.specs.GrammarExpr.{IsExpression}
use Rattle.text_grammar.specs.GrammarStmt.{AreAttributes, IsLabel, IsDefaultEnd, IsAction, AreStatements, IsBranch, AreBranches, AreMoreBranches, IsStatement}
use Rattle.text_build.proofs.Laws.Follows.{is_start, Opens, opens_by, formula_opens, formula_shorter}
use Rattle.text_build.proofs.Laws.Attributes.{attributes_shorter}
use Rattle.text_build.proofs.Laws.Targets.{is_target, target_opens, target_shorter, pause_shorter, optional_shorter}

pub weaker : (p q : Symbol → Bool) → ((s : Symbol) → p s ≡ true → q s ≡ true) → (ts : List Terminal) → Opens p ts → Opens q ts
weaker p q f ts o = record { first = o.first; others = o.others; is = o.is; passes = f o.first.symbol o.passes }

-- the symbols that a statement may begin with after its attributes
abbrev pub is_action : Symbol → Bool
is_action symbol.Semicolon = true
is_action symbol.Hash = true
is_action symbol.If = true
is_action symbol.Case = true
is_action symbol.Casez = true
is_action symbol.Casex = true
is_action symbol.For = true
is_action symbol.Begin = true
is_action symbol.Name = true
is_action symbol.OpenBrace = true
is_action s = false

-- and those before its attributes
abbrev pub is_statement : Symbol → Bool
is_statement symbol.OpenAttribute = true
is_statement s = is_action s

target_action : (s : Symbol) → is_target s ≡ true → is_action s ≡ true
target_action symbol.Name h = refl
target_action symbol.OpenBrace h = refl
target_action s h = absurd (cc)

action_statement : (s : Symbol) → is_action s ≡ true → is_statement s ≡ true
action_statement symbol.OpenAttribute h = refl
action_statement s h = h

pub action_opens : (m : List (List Identifier)) (a : Action) (ts rest : List Terminal) → IsAction m a ts rest → Opens is_action ts
action_opens m (Null at) ts rest w = opens_by is_action symbol.Semicolon ts rest w.0 w.1 w.2.0 refl
action_opens m (Delayed p body) ts rest w = let x = w.1 in let y = x.1 in opens_by is_action symbol.Hash ts x.0 y.0 y.1 y.2.0 refl
action_opens m (Assign t k p v) ts rest w = weaker is_target is_action target_action ts (target_opens t ts w.0 w.1)
action_opens m (If at c t) ts rest w = let x = w.1 in opens_by is_action symbol.If ts w.0 x.0 x.1 x.2.0 refl
action_opens m (IfElse at c t o) ts rest w = let y = w.1 in let x = y.1 in opens_by is_action symbol.If ts y.0 x.0 x.1 x.2.0 refl
action_opens m (Case at kind.Plain f p s bs) ts rest w = let y = w.5 in let x = y.1 in opens_by is_action symbol.Case ts y.0 x.0 x.1 x.2.0 refl
action_opens m (Case at kind.Z f p s bs) ts rest w = let y = w.5 in let x = y.1 in opens_by is_action symbol.Casez ts y.0 x.0 x.1 x.2.0 refl
action_opens m (Case at kind.X f p s bs) ts rest w = let y = w.5 in let x = y.1 in opens_by is_action symbol.Casex ts y.0 x.0 x.1 x.2.0 refl
action_opens m (For at i s c n e body) ts rest w = let x = w.1 in opens_by is_action symbol.For ts w.0 x.0 x.1 x.2.0 refl
action_opens m (Block at l body) ts rest w = let x = w.1 in opens_by is_action symbol.Begin ts w.0 x.0 x.1 x.2.0 refl

marked_opens : (m : List (List Identifier)) (ts mid : List Terminal) → AreAttributes m ts mid → Opens is_action mid → Opens is_statement ts
marked_opens [] ts mid w o = weaker is_action is_statement action_statement ts (subst (Opens is_action) (sym w) o)
marked_opens (ns ∷ m) ts mid w o = let x = w.1 in let y = x.1 in opens_by is_statement symbol.OpenAttribute ts x.0 y.0 y.1 y.2 refl

pub statement_opens : (a : Action) (ts rest : List Terminal) → IsStatement a ts rest → Opens is_statement ts
statement_opens a ts rest w = let v = w.1 in marked_opens w.0 ts v.0 v.1 (action_opens w.0 a v.0 rest v.2)

-- the symbols that an item of a case may begin with
abbrev pub is_branch : Symbol → Bool
is_branch symbol.Default = true
is_branch s = is_start s

start_branch : (s : Symbol) → is_start s ≡ true → is_branch s ≡ true
start_branch symbol.Default h = refl
start_branch s h = h

pub listed_opens : (labels : List Formula) (ts rest : List Terminal) → AreListed IsExpression labels ts rest → Opens is_start ts
listed_opens [] ts rest w = absurd w
listed_opens (f ∷ fs) ts rest w = formula_opens 12 f ts w.0 w.1

pub branch_opens : (b : Branch) (ts rest : List Terminal) → IsBranch b ts rest → Opens is_branch ts
branch_opens (Labelled labels body) ts rest w = weaker is_start is_branch start_branch ts (listed_opens labels ts w.0 w.1)
branch_opens (Default at body) ts rest w = let x = w.1 in opens_by is_branch symbol.Default ts w.0 x.0 x.1 x.2.0 refl

-- ---- nothing is longer after it was read

more_shorter : (fs : List Formula) (ts rest : List Terminal) → AreMore IsExpression fs ts rest → length rest ≤ length ts
more_shorter [] ts rest w = omega (arith, ap length w)
more_shorter (f ∷ fs) ts rest w = let a = w.2 in omega (arith, ap length w.1.1, formula_shorter 12 f w.0 a.0 a.1, more_shorter fs a.0 rest a.2)

pub labels_shorter : (fs : List Formula) (ts rest : List Terminal) → AreListed IsExpression fs ts rest → length rest < length ts
labels_shorter [] ts rest w = absurd w
labels_shorter (f ∷ fs) ts rest w = omega (arith, formula_shorter 12 f ts w.0 w.1, more_shorter fs w.0 rest w.2)

pub label_shorter : (l : Option Identifier) (ts rest : List Terminal) → IsOptional IsLabel l ts rest → length rest ≤ length ts
label_shorter None ts rest w = omega (arith, ap length w)
label_shorter (Some n) ts rest w = omega (arith, ap length w.1.1, ap length w.2.1)

pub default_shorter : (ts rest : List Terminal) → IsDefaultEnd ts rest → length rest ≤ length ts
default_shorter ts rest (inl w) = omega (arith, ap length w)
default_shorter ts rest (inr w) = omega (arith, ap length w.1)

mutual
  action_shorter : (a : Action) (m : List (List Identifier)) (ts rest : List Terminal) → IsAction m a ts rest → length rest < length ts
  action_shorter (Null at) m ts rest w = omega (arith, ap length w.1)
  action_shorter (Delayed p body) m ts rest w = let a = w.2 in let b = a.1 in omega (arith, pause_shorter p ts w.0 w.1, attributes_shorter a.0 w.0 b.0 b.1, action_shorter body a.0 b.0 rest b.2)
  action_shorter (Assign t k p v) m ts rest w =
      let a = w.2 in let b = a.2 in let c = b.2 in
      omega (arith, target_shorter t ts w.0 w.1, ap length a.1.1, optional_shorter p a.0 b.0 b.1, formula_shorter 12 v b.0 c.0 c.1, ap length c.2.1)
  action_shorter (If at x t) m ts rest w =
      let a = w.2 in let b = a.2 in let c = b.2 in let e = c.2 in let f = e.1 in
      omega (arith, ap length w.1.1, ap length a.1.1, formula_shorter 12 x a.0 b.0 b.1, ap length c.1.1, attributes_shorter e.0 c.0 f.0 f.1, action_shorter t e.0 f.0 rest f.2)
  action_shorter (IfElse at x t o) m ts rest w =
      let v = w.1 in let a = v.2 in let b = a.2 in let c = b.2 in let e = c.2 in let y = e.1 in let f = y.1 in let g = e.2 in let z = g.2 in let h = z.1 in
      omega (
        arith,
        ap length v.1.1,
        ap length a.1.1,
        formula_shorter 12 x a.0 b.0 b.1,
        ap length c.1.1,
        attributes_shorter y.0 c.0 f.0 f.1,
        action_shorter t y.0 f.0 e.0 f.2,
        ap length g.1.1,
        attributes_shorter z.0 g.0 h.0 h.1,
        action_shorter o z.0 h.0 rest h.2,
      )
  action_shorter (Case at k f p s bs) m ts rest w =
      let v = w.5 in let a = v.2 in let b = a.2 in let c = b.2 in let e = c.2 in
      omega (arith, ap length v.1.1, ap length a.1.1, formula_shorter 12 s a.0 b.0 b.1, ap length c.1.1, first_shorter bs c.0 e.0 e.1, ap length e.2.1)
  action_shorter (For at i s x n e body) m ts rest w =
      let a = w.2 in let b = a.2 in let c = b.2 in let f = c.2 in let g = f.2 in let h = g.2 in let j = h.2 in let k = j.2 in let l = k.2 in let o = l.2 in let q = o.2 in let r = q.2 in let u = r.1 in
      omega (
        arith,
        ap length w.1.1,
        ap length a.1.1,
        ap length b.1.1,
        ap length c.1.1,
        formula_shorter 12 s c.0 f.0 f.1,
        ap length g.1.1,
        formula_shorter 12 x g.0 h.0 h.1,
        ap length j.1.1,
        ap length k.1.1,
        ap length l.1.1,
        formula_shorter 12 e l.0 o.0 o.1,
        ap length q.1.1,
        attributes_shorter r.0 q.0 u.0 u.1,
        action_shorter body r.0 u.0 rest u.2,
      )
  action_shorter (Block at l body) m ts rest w =
      let a = w.2 in let b = a.2 in omega (arith, ap length w.1.1, label_shorter l w.0 a.0 a.1, statements_shorter body a.0 b.0 b.1, ap length b.2.1)

  statements_shorter : (all : Actions) (ts rest : List Terminal) → AreStatements all ts rest → length rest ≤ length ts
  statements_shorter no_actions ts rest w = omega (arith, ap length w)
  statements_shorter (more_actions a all) ts rest w =
      let v = w.1 in let u = v.1 in omega (arith, attributes_shorter v.0 ts u.0 u.1, action_shorter a v.0 u.0 w.0 u.2, statements_shorter all w.0 rest w.2)

  branch_shorter : (b : Branch) (ts rest : List Terminal) → IsBranch b ts rest → length rest < length ts
  branch_shorter (Labelled labels body) ts rest w =
      let a = w.2 in let v = a.2 in let u = v.1 in
      omega (arith, labels_shorter labels ts w.0 w.1, ap length a.1.1, attributes_shorter v.0 a.0 u.0 u.1, action_shorter body v.0 u.0 rest u.2)
  branch_shorter (Default at body) ts rest w =
      let a = w.2 in let v = a.2 in let u = v.1 in
      omega (arith, ap length w.1.1, default_shorter w.0 a.0 a.1, attributes_shorter v.0 a.0 u.0 u.1, action_shorter body v.0 u.0 rest u.2)

  first_shorter : (all : Branches) (ts rest : List Terminal) → AreBranches all ts rest → length rest ≤ length ts
  first_shorter no_branches ts rest w = absurd w
  first_shorter (more_branches b all) ts rest w = omega (arith, branch_shorter b ts w.0 w.1, branches_shorter all w.0 rest w.2)

  branches_shorter : (all : Branches) (ts rest : List Terminal) → AreMoreBranches all ts rest → length rest ≤ length ts
  branches_shorter no_branches ts rest w = omega (arith, ap length w)
  branches_shorter (more_branches b all) ts rest w = omega (arith, branch_shorter b ts w.0 w.1, branches_shorter all w.0 rest w.2)

pub statement_shorter : (a : Action) (ts rest : List Terminal) → IsStatement a ts rest → length rest < length ts
statement_shorter a ts rest w = let v = w.1 in omega (arith, attributes_shorter w.0 ts v.0 v.1, action_shorter a w.0 v.0 rest v.2)

pub branch_consumes : (b : Branch) (ts rest : List Terminal) → IsBranch b ts rest → length rest < length ts
branch_consumes b ts rest w = branch_shorter b ts rest w
