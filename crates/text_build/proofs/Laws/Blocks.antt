-- What is spelled is read: cases, loops, blocks, and whole statements.
use Rattle.std.proofs.Common.{◌≡◌, ℕ, zero, suc, ◌≤◌, Bool, true, false, ◌||◌, List, Option, Some, None, refl, sym, ap, subst, ◌∙◌, inl, inr, max, codes, arith}
use Rattle.rtl_tree.specs.declared.symbol.Symbol.{Symbol}
use Rattle.rtl_tree.specs.declared.symbol.Symbol.TheVariants as symbol
use Rattle.rtl_tree.specs.declared.tree.stmt.CaseKind.{CaseKind}
use Rattle.rtl_tree.specs.declared.tree.stmt.CaseKind.TheVariants as kind
use Rattle.rtl_tree.specs.Symbols.{Terminal}
use Rattle.rtl_tree.specs.TreeExpr.{Identifier, Formula}
use Rattle.rtl_tree.specs.TreeStmt.{Target, Whole, Bit, Part, Joined, Action, Null, Delayed, Assign, If, IfElse, Case, For, Block, Actions, no_actions, more_actions, action_row, action_list, Branch, Labelled, Default, Branches, no_branches, more_branches, branch_row, branch_list}
use Rattle.text_grammar.specs.Depth.{greatest, formula_depth, target_depth, action_depth, actions_depth, branch_depth, branches_depth}
use Rattle.text_grammar.specs.Grammar.{◌⨾◌, IsA, IsAt, IsName, IsOptional, AreListed}
use Rattle.text_grammar.specs.GrammarExpr.{IsExpression}
use Rattle.text_grammar.specs.GrammarStmt.{names, IsTarget, case_symbol, IsLabel, IsDefaultEnd, IsAction, AreStatements, IsBranch, AreBranches, AreMoreBranches, IsStatement}
use Rattle.text_build.specs.declared.attributes.Marks.{Marks}
use Rattle.text_build.specs.Reading.{Parser, and_then, ◌>>=◌, ◌>>◌, pure, same_symbol, starts, token, name, advance, mark, optional, until, listed}
use Rattle.text_build.specs.ReadingExpr.{climb}
use Rattle.text_build.specs.ReadingStmt.{with_pragmas, attributes, labelled, no_colon, otherwise, branch, case_of, step_of, loop_of, label, block, action_by, action, target, statement_within, statement}
use Rattle.text_build.proofs.Laws.Tokens.{at_is, name_is, token_again, mark_then, advance_at, advance_then, starts_is, starts_not, after_is, after_not, symbol_is, name_again, bind, either_first, either_second, optional_there, optional_absent}
use Rattle.text_build.proofs.Laws.Repeats.{Again, Rows, Begins, until_again, listed_again}
use Rattle.text_build.proofs.Laws.Follows.{Stops, is_start, is_stop, stop_stops, opens_not, formula_shorter}
use Rattle.text_build.proofs.Laws.Exprs.{Entire, before, stop_ends}
use Rattle.text_build.proofs.Laws.Chains.{expression_again}
use Rattle.text_build.proofs.Laws.Attributes.{marks_of, full_said, parallel_said, attributes_again}
use Rattle.text_build.proofs.Laws.Targets.{IsWhole, target_again}
use Rattle.text_build.proofs.Laws.Openings.{is_action, is_statement, is_branch, action_opens, statement_opens, listed_opens, branch_opens, statement_shorter, branch_consumes}
use Rattle.text_build.proofs.Laws.Statements.{Closed, NoElse, Within, closed, no_else_is, assign_again, null_again, delayed_again, if_again, else_again}

pub comma_stops : (ts mid : List Terminal) → IsA symbol.Comma ts mid → Stops 12 ts
comma_stops ts mid w = stop_stops symbol.Comma ts mid refl w

-- ---- parts that generate constructs have, too

pub label_again : (l : Option Identifier) (ts mid : List Terminal) → IsOptional IsLabel l ts mid → starts symbol.Colon mid ≡ false → optional symbol.Colon label ts ≡ Some (l, mid)
unfolding label
label_again None ts mid w h = optional_absent symbol.Colon label ts (ap (starts symbol.Colon) w ∙ h) ∙ ap (λ x. Some (None, x)) w
label_again (Some n) ts mid w h =
    optional_there symbol.Colon label n ts mid (starts_is symbol.Colon ts w.0 w.1.0 w.1.1 w.1.2) (advance_then symbol.Colon name ts w.0 w.1 ∙ name_again n w.0 mid w.2)

module _ (d : ℕ) (e : Parser Formula) (c : Entire d e) where
  pub step_again : (n : Identifier) (f : Formula) (o : Symbol) (ts mid rest : List Terminal) → (IsName n ⨾ IsA symbol.Equals ⨾ IsExpression f) ts mid → IsA o mid rest → is_stop o ≡ true → formula_depth f ≤ d
      → step_of e ts ≡ Some ((n, f), mid)
  unfolding step_of
  step_again n f o ts mid rest w m k h =
      let a = w.2 in
      bind (name ts) (λ x. mark symbol.Equals >> e >>= (λ y. pure (x, y))) n w.0 (name_again n ts w.0 w.1)
      ∙ ap (λ q. and_then q (λ y. pure (n, y))) (mark_then symbol.Equals e w.0 a.0 a.1)
      ∙ before d e c o (λ y. pure (n, y)) f a.0 mid rest a.2 h k m

module _ (d : ℕ) (e : Parser Formula) (c : Entire d e) (s : Parser Action) (i : Within d s) where
  -- ---- items of a case

  labelled_again : (labels : List Formula) (body : Action) (ts rest : List Terminal) → (AreListed IsExpression labels ⨾ IsA symbol.Colon ⨾ IsStatement body) ts rest → greatest formula_depth labels ≤ d
      → action_depth body ≤ d → Closed body rest → labelled e s ts ≡ Some (Labelled labels body, rest)
  unfolding labelled same_symbol
  labelled_again labels body ts rest w h k o =
      let a = w.2 in
      bind (listed e ts) (λ ls. mark symbol.Colon >> s >>= (λ b. pure (Labelled ls b))) labels w.0
      (listed_again IsExpression (Stops 12) formula_depth d e c (λ x us vs m. let l = formula_shorter 12 x us vs m in omega (arith, l)) comma_stops labels ts w.0 w.1 h
      (stop_ends symbol.Colon w.0 a.0 refl refl a.1))
      ∙ ap (λ q. and_then q (λ b. pure (Labelled labels b))) (mark_then symbol.Colon s w.0 a.0 a.1)
      ∙ bind (s a.0) (λ b. pure (Labelled labels b)) body rest (i body a.0 rest a.2 k o)

  colon_again : (body : Action) (ts mid rest : List Terminal) → IsDefaultEnd ts mid → IsStatement body mid rest → and_then (no_colon ts) (λ _. s) ≡ s mid
  unfolding no_colon
  colon_again body ts mid rest (inl w) v =
      ap s (after_not symbol.Colon ts (ap (starts symbol.Colon) w ∙ opens_not is_statement symbol.Colon mid refl (statement_opens body mid rest v)) ∙ w)
  colon_again body ts mid rest (inr w) v = ap s (after_is symbol.Colon ts mid w.0 w.1 w.2)

  default_again : (at : ℕ) (body : Action) (ts rest : List Terminal) → (IsAt symbol.Default at ⨾ IsDefaultEnd ⨾ IsStatement body) ts rest → action_depth body ≤ d → Closed body rest
      → otherwise s ts ≡ Some (Default at body, rest)
  unfolding otherwise
  default_again at body ts rest w h o =
      let a = w.2 in
      bind (advance ts) (λ p. no_colon >> s >>= (λ b. pure (Default p b))) at w.0 (advance_at symbol.Default at ts w.0 w.1)
      ∙ ap (λ q. and_then q (λ b. pure (Default at b))) (colon_again body w.0 a.0 rest a.1 a.2)
      ∙ bind (s a.0) (λ b. pure (Default at b)) body rest (i body a.0 rest a.2 h o)

  branch_again : Again branch_depth d (branch e s) IsBranch NoElse
  unfolding branch
  branch_again (Labelled labels body) ts rest w h o =
      either_second (starts symbol.Default) (otherwise s) (labelled e s) ts (opens_not is_start symbol.Default ts refl (listed_opens labels ts w.0 w.1))
      ∙ labelled_again labels body ts rest w (omega (arith, h)) (omega (arith, h)) (closed body rest o)
  branch_again (Default at body) ts rest w h o =
      either_first (starts symbol.Default) (otherwise s) (labelled e s) ts (starts_is symbol.Default ts w.0 w.1.0 w.1.1 w.1.2.0)
      ∙ default_again at body ts rest w h (closed body rest o)

  branch_begins : Begins IsBranch symbol.Endcase NoElse
  branch_begins =
      record {
        consumes = branch_consumes;
        other = λ b ts rest w. opens_not is_branch symbol.Endcase ts refl (branch_opens b ts rest w);
        follows = λ b ts rest w. opens_not is_branch symbol.Else ts refl (branch_opens b ts rest w);
      }

  abbrev BranchRow : List Branch → List Terminal → List Terminal → Type 0
  BranchRow bs = AreMoreBranches (branch_row bs)

  branch_rows : Rows IsBranch BranchRow
  branch_rows = record { at_end = λ ts rest w. w; goes_on = λ x xs ts rest w. w }

  branch_back : (bs : Branches) → branch_row (branch_list bs) ≡ bs
  branch_back no_branches = refl
  branch_back (more_branches b bs) = ap (more_branches b) (branch_back bs)

  branch_deep : (bs : Branches) → greatest branch_depth (branch_list bs) ≡ branches_depth bs
  branch_deep no_branches = refl
  branch_deep (more_branches b bs) = ap (max (branch_depth b)) (branch_deep bs)

  as_more : (bs : Branches) (ts rest : List Terminal) → AreBranches bs ts rest → AreMoreBranches bs ts rest
  as_more no_branches ts rest w = absurd w
  as_more (more_branches b bs) ts rest w = w

  branches_again : (bs : Branches) (ts mid rest : List Terminal) → AreBranches bs ts mid → branches_depth bs ≤ d → IsA symbol.Endcase mid rest
      → until symbol.Endcase (branch e s) ts ≡ Some (branch_list bs, mid)
  unfolding same_symbol
  branches_again bs ts mid rest w h m =
      until_again IsBranch BranchRow symbol.Endcase NoElse branch_depth d (branch e s) branch_again branch_begins branch_rows (branch_list bs) ts mid
      (subst (λ x. AreMoreBranches x ts mid) (sym (branch_back bs)) (as_more bs ts mid w)) (omega (arith, h, branch_deep bs)) (no_else_is symbol.Endcase mid rest m refl)
      (starts_is symbol.Endcase mid rest m.0 m.1 m.2)

  -- ---- cases

  abbrev built : ℕ → CaseKind → Marks → Formula → Terminal → List Branch → Action
  built at k m x t bs = Case at k (with_pragmas m t.full t.parallel).full (with_pragmas m t.full t.parallel).parallel x (branch_row bs)

  case_again : (m : List (List Identifier)) (at : ℕ) (k : CaseKind) (full parallel : Bool) (x : Formula) (bs : Branches) (ts rest : List Terminal) → IsAction m (Case at k full parallel x bs) ts rest
      → formula_depth x ≤ d → branches_depth bs ≤ d → case_of k (marks_of m) e s ts ≡ Some (Case at k full parallel x bs, rest)
  unfolding case_of
  case_again m at k full parallel x bs ts rest v h q =
      let w = v.5 in
      let a = w.2 in
      let b = a.2 in
      let f = b.2 in
      let j = f.2 in
      let t = f.1.0 in
      let fulls = ap (λ o. o || t.full) (full_said m) ∙ ap (λ o. names (codes "full_case") m || o) f.1.2.1 ∙ sym v.2 in
      let parallels = ap (λ o. o || t.parallel) (parallel_said m) ∙ ap (λ o. names (codes "parallel_case") m || o) f.1.2.2 ∙ sym v.3 in
      bind (advance ts) (λ p. mark symbol.OpenParen >> e >>= (λ y. token symbol.CloseParen >>= (λ z. until symbol.Endcase (branch e s) >>= (λ u. mark symbol.Endcase >> pure (built p k (marks_of m) y z u)))))
      at w.0 (advance_at (case_symbol k) at ts w.0 w.1)
      ∙ ap (λ o. and_then o (λ y. token symbol.CloseParen >>= (λ z. until symbol.Endcase (branch e s) >>= (λ u. mark symbol.Endcase >> pure (built at k (marks_of m) y z u))))) (mark_then symbol.OpenParen e w.0 a.0 a.1)
      ∙ before d e c symbol.CloseParen (λ y. token symbol.CloseParen >>= (λ z. until symbol.Endcase (branch e s) >>= (λ u. mark symbol.Endcase >> pure (built at k (marks_of m) y z u)))) x a.0 b.0 f.0 b.1 h refl
      (t, f.1.1, f.1.2.0)
      ∙ bind (token symbol.CloseParen b.0) (λ z. until symbol.Endcase (branch e s) >>= (λ u. mark symbol.Endcase >> pure (built at k (marks_of m) x z u))) t f.0 (token_again symbol.CloseParen b.0 f.0 t f.1.1 f.1.2.0)
      ∙ bind (until symbol.Endcase (branch e s) f.0) (λ u. mark symbol.Endcase >> pure (built at k (marks_of m) x t u)) (branch_list bs) j.0 (branches_again bs f.0 j.0 rest j.1 q j.2)
      ∙ mark_then symbol.Endcase (pure (built at k (marks_of m) x t (branch_list bs))) j.0 rest j.2
      ∙ ap (λ y. Some (Case at k y (with_pragmas (marks_of m) t.full t.parallel).parallel x (branch_row (branch_list bs)), rest)) fulls
      ∙ ap (λ y. Some (Case at k full y x (branch_row (branch_list bs)), rest)) parallels
      ∙ ap (λ y. Some (Case at k full parallel x y, rest)) (branch_back bs)

  -- ---- loops

  for_again : (at : ℕ) (n : Identifier) (x y : Formula) (m : Identifier) (z : Formula) (body : Action) (ts rest : List Terminal)
      → (IsAt symbol.For at ⨾ IsA symbol.OpenParen ⨾ IsName n ⨾ IsA symbol.Equals ⨾ IsExpression x ⨾ IsA symbol.Semicolon ⨾ IsExpression y ⨾ IsA symbol.Semicolon ⨾ IsName m ⨾ IsA symbol.Equals ⨾ IsExpression z ⨾ IsA symbol.CloseParen ⨾ IsStatement body) ts rest
      → formula_depth x ≤ d → formula_depth y ≤ d → formula_depth z ≤ d → action_depth body ≤ d → Closed body rest → loop_of e s ts ≡ Some (For at n x y m z body, rest)
  unfolding loop_of
  for_again at n x y m z body ts rest w hx hy hz hb o =
      let a = w.2 in
      let b = a.2 in
      let f = b.2 in
      let g = f.2 in
      let h = g.2 in
      let j = h.2 in
      let k = j.2 in
      let l = k.2 in
      let p = l.2 in
      let q = p.2 in
      let r = q.2 in
      bind (advance ts) (λ at. mark symbol.OpenParen >> step_of e >>= (λ first. mark symbol.Semicolon >> e >>= (λ condition. mark symbol.Semicolon >> step_of e >>= (λ next. mark symbol.CloseParen >> s >>= (λ body. pure (For at first.0 first.1 condition next.0 next.1 body))))))
      at w.0 (advance_at symbol.For at ts w.0 w.1)
      ∙ ap (λ o. and_then o (λ first. mark symbol.Semicolon >> e >>= (λ condition. mark symbol.Semicolon >> step_of e >>= (λ next. mark symbol.CloseParen >> s >>= (λ body. pure (For at first.0 first.1 condition next.0 next.1 body))))))
      (mark_then symbol.OpenParen (step_of e) w.0 a.0 a.1 ∙ step_again d e c n x symbol.Semicolon a.0 g.0 h.0 (b.0, b.1, (f.0, f.1, g.1)) h.1 refl hx)
      ∙ ap (λ o. and_then o (λ condition. mark symbol.Semicolon >> step_of e >>= (λ next. mark symbol.CloseParen >> s >>= (λ body. pure (For at n x condition next.0 next.1 body))))) (mark_then symbol.Semicolon e g.0 h.0 h.1)
      ∙ before d e c symbol.Semicolon (λ condition. mark symbol.Semicolon >> step_of e >>= (λ next. mark symbol.CloseParen >> s >>= (λ body. pure (For at n x condition next.0 next.1 body)))) y h.0 j.0 k.0 j.1 hy refl k.1
      ∙ ap (λ o. and_then o (λ next. mark symbol.CloseParen >> s >>= (λ body. pure (For at n x y next.0 next.1 body))))
      (mark_then symbol.Semicolon (step_of e) j.0 k.0 k.1 ∙ step_again d e c m z symbol.CloseParen k.0 q.0 r.0 (l.0, l.1, (p.0, p.1, q.1)) r.1 refl hz)
      ∙ ap (λ o. and_then o (λ body. pure (For at n x y m z body))) (mark_then symbol.CloseParen s q.0 r.0 r.1)
      ∙ bind (s r.0) (λ body. pure (For at n x y m z body)) body rest (i body r.0 rest r.2 hb o)

  -- ---- blocks

  abbrev ActionRow : List Action → List Terminal → List Terminal → Type 0
  ActionRow all = AreStatements (action_row all)

  action_rows : Rows IsStatement ActionRow
  action_rows = record { at_end = λ ts rest w. w; goes_on = λ x xs ts rest w. w }

  statement_begins : Begins IsStatement symbol.End NoElse
  statement_begins =
      record {
        consumes = statement_shorter;
        other = λ a ts rest w. opens_not is_statement symbol.End ts refl (statement_opens a ts rest w);
        follows = λ a ts rest w. opens_not is_statement symbol.Else ts refl (statement_opens a ts rest w);
      }

  action_back : (all : Actions) → action_row (action_list all) ≡ all
  action_back no_actions = refl
  action_back (more_actions a all) = ap (more_actions a) (action_back all)

  action_deep : (all : Actions) → greatest action_depth (action_list all) ≡ actions_depth all
  action_deep no_actions = refl
  action_deep (more_actions a all) = ap (max (action_depth a)) (action_deep all)

  -- what comes first in a block has no colon
  no_label : (all : Actions) (ts mid rest : List Terminal) → AreStatements all ts mid → IsA symbol.End mid rest → starts symbol.Colon ts ≡ false
  unfolding same_symbol
  no_label no_actions ts mid rest w m = ap (starts symbol.Colon) w ∙ starts_not symbol.Colon symbol.End mid rest m.0 m.1 m.2 refl
  no_label (more_actions a all) ts mid rest w m = opens_not is_statement symbol.Colon ts refl (statement_opens a ts w.0 w.1)

  block_again : (at : ℕ) (l : Option Identifier) (all : Actions) (ts rest : List Terminal) → (IsAt symbol.Begin at ⨾ IsOptional IsLabel l ⨾ AreStatements all ⨾ IsA symbol.End) ts rest → actions_depth all ≤ d
      → block s ts ≡ Some (Block at l all, rest)
  unfolding block same_symbol
  block_again at l all ts rest w h =
      let a = w.2 in
      let b = a.2 in
      bind (advance ts) (λ p. optional symbol.Colon label >>= (λ l. until symbol.End s >>= (λ body. mark symbol.End >> pure (Block p l (action_row body))))) at w.0 (advance_at symbol.Begin at ts w.0 w.1)
      ∙ bind (optional symbol.Colon label w.0) (λ l. until symbol.End s >>= (λ body. mark symbol.End >> pure (Block at l (action_row body)))) l a.0 (label_again l w.0 a.0 a.1 (no_label all a.0 b.0 rest b.1 b.2))
      ∙ bind (until symbol.End s a.0) (λ body. mark symbol.End >> pure (Block at l (action_row body))) (action_list all) b.0
      (until_again IsStatement ActionRow symbol.End NoElse action_depth d s (λ x us vs m q o. i x us vs m q (closed x vs o)) statement_begins action_rows (action_list all) a.0 b.0
      (subst (λ x. AreStatements x a.0 b.0) (sym (action_back all)) b.1) (omega (arith, h, action_deep all)) (no_else_is symbol.End b.0 rest b.2 refl) (starts_is symbol.End b.0 rest b.2.0 b.2.1 b.2.2))
      ∙ mark_then symbol.End (pure (Block at l (action_row (action_list all)))) b.0 rest b.2
      ∙ ap (λ x. Some (Block at l x, rest)) (action_back all)

  -- ---- any statement

  module _ (t : Parser Target) (g : Again target_depth d t IsTarget IsWhole) where
    by : (m : List (List Identifier)) (o : Symbol) (ts rest : List Terminal) → IsA o ts rest → action (marks_of m) e t s ts ≡ action_by (Some o) (marks_of m) e t s ts
    unfolding action
    by m o ts rest w = ap (λ x. action_by x (marks_of m) e t s ts) (symbol_is o ts rest w.0 w.1 w.2)

    by_target : (m : List (List Identifier)) (to : Target) (ts rest : List Terminal) → IsTarget to ts rest → action (marks_of m) e t s ts ≡ action_by (Some symbol.Name) (marks_of m) e t s ts
    by_target m (Whole n) ts rest w = by m symbol.Name ts rest (name_is n ts rest w)
    by_target m (Bit n x) ts rest w = by m symbol.Name ts w.0 (name_is n ts w.0 w.1)
    by_target m (Part n k x y) ts rest w = by m symbol.Name ts w.0 (name_is n ts w.0 w.1)
    by_target m (Joined at parts) ts rest w = by m symbol.OpenBrace ts w.0 (at_is symbol.OpenBrace at ts w.0 w.1)

    action_again : (m : List (List Identifier)) (a : Action) (ts rest : List Terminal) → IsAction m a ts rest → action_depth a ≤ suc d → Closed a rest → action (marks_of m) e t s ts ≡ Some (a, rest)
    action_again m (Null at) ts rest w h o = by m symbol.Semicolon ts rest (at_is symbol.Semicolon at ts rest w) ∙ null_again d e c t g s i at ts rest w
    action_again m (Delayed p body) ts rest w h o =
        by m symbol.Hash ts w.1.0 (at_is symbol.Hash p.at ts w.1.0 w.1.1) ∙ delayed_again d e c t g s i p body ts rest w (omega (arith, h)) (omega (arith, h)) o
    action_again m (Assign to k p v) ts rest w h o =
        by_target m to ts w.0 w.1 ∙ assign_again d e c t g s i to k p v ts rest w (omega (arith, h)) (omega (arith, h)) (omega (arith, h))
    action_again m (If at x a) ts rest w h o =
        by m symbol.If ts w.0 (at_is symbol.If at ts w.0 w.1) ∙ if_again d e c t g s i at x a ts rest w (omega (arith, h)) (omega (arith, h)) o
    action_again m (IfElse at x a b) ts rest w h o =
        let v = w.1 in
        by m symbol.If ts v.0 (at_is symbol.If at ts v.0 v.1) ∙ else_again d e c t g s i at x a b ts rest w.0 v (omega (arith, h)) (omega (arith, h)) (omega (arith, h)) o
    action_again m (Case at kind.Plain full parallel x bs) ts rest w h o =
        let v = w.5 in
        by m symbol.Case ts v.0 (at_is symbol.Case at ts v.0 v.1) ∙ case_again m at kind.Plain full parallel x bs ts rest w (omega (arith, h)) (omega (arith, h))
    action_again m (Case at kind.Z full parallel x bs) ts rest w h o =
        let v = w.5 in
        by m symbol.Casez ts v.0 (at_is symbol.Casez at ts v.0 v.1) ∙ case_again m at kind.Z full parallel x bs ts rest w (omega (arith, h)) (omega (arith, h))
    action_again m (Case at kind.X full parallel x bs) ts rest w h o =
        let v = w.5 in
        by m symbol.Casex ts v.0 (at_is symbol.Casex at ts v.0 v.1) ∙ case_again m at kind.X full parallel x bs ts rest w (omega (arith, h)) (omega (arith, h))
    action_again m (For at n x y k z body) ts rest w h o =
        by m symbol.For ts w.0 (at_is symbol.For at ts w.0 w.1) ∙ for_again at n x y k z body ts rest w (omega (arith, h)) (omega (arith, h)) (omega (arith, h)) (omega (arith, h)) o
    action_again m (Block at l all) ts rest w h o =
        by m symbol.Begin ts w.0 (at_is symbol.Begin at ts w.0 w.1) ∙ block_again at l all ts rest w (omega (arith, h))

    pub within_again : (a : Action) (ts rest : List Terminal) → IsStatement a ts rest → action_depth a ≤ suc d → Closed a rest → statement_within e t s ts ≡ Some (a, rest)
    unfolding statement_within
    within_again a ts rest w h o =
        let v = w.1 in
        bind (attributes ts) (λ marks. action marks e t s) (marks_of w.0) v.0
        (attributes_again w.0 ts v.0 v.1 (opens_not is_action symbol.OpenAttribute v.0 refl (action_opens w.0 a v.0 rest v.2)))
        ∙ action_again w.0 a v.0 rest v.2 h o

deep : (a : Action) → 1 ≤ action_depth a
deep (Null at) = omega arith
deep (Delayed p body) = omega arith
deep (Assign t k p v) = omega arith
deep (If at x a) = omega arith
deep (IfElse at x a b) = omega arith
deep (Case at k full parallel x bs) = omega arith
deep (For at n x y m z body) = omega arith
deep (Block at l all) = omega arith

pub statement_again : (d : ℕ) → Within d (statement d)
unfolding statement
statement_again zero a ts rest w h o = absurd (omega (arith, deep a, h))
statement_again (suc d) a ts rest w h o =
    within_again d (climb d 12) (expression_again d) (statement d) (statement_again d) (target d) (target_again d) a ts rest w h o
