-- How deep statements are nested that were read where no expression is deeper than its fuel.
use Rattle.std.proofs.Common.{ℕ, zero, suc, ◌≤◌, max, Bool, List, [], ◌∷◌, ◌++◌, length, Option, Some, None, arith}
use Rattle.rtl_tree.specs.declared.symbol.Symbol.{Symbol}
use Rattle.rtl_tree.specs.declared.symbol.Symbol.TheVariants as symbol
use Rattle.rtl_tree.specs.declared.tree.stmt.CaseKind.{CaseKind}
use Rattle.rtl_tree.specs.declared.tree.stmt.CaseKind.TheVariants as kind
use Rattle.rtl_tree.specs.declared.tree.operators.PartKind.{PartKind}
use Rattle.rtl_tree.specs.Symbols.{Terminal}
use Rattle.text_grammar.specs.GrammarExpr.{part_symbol}
use Rattle.rtl_tree.specs.TreeExpr.{Identifier, Formula}
use Rattle.rtl_tree.specs.TreeStmt.{Target, target_row, Action, action_row, Branch, branch_row}
use Rattle.text_grammar.specs.Depth.{greatest, if_any, formula_depth, target_depth, targets_depth, span_depth, pause_depth, action_depth, actions_depth, branch_depth, branches_depth}
use Rattle.text_build.specs.declared.attributes.Marks.{Marks}
use Rattle.text_build.specs.Reading.{Parser, and_then, ◌>>=◌, ◌>>◌, pure, symbol_at, starts, after, token, advance, mark, name, literal, optional, add, until_in, until, links, commas, listed}
use Rattle.text_build.specs.ReadingExpr.{Reference, whole, bit, part, part_by, rest_of_bit, rest_of_part, rest_by, rest_of_selection, selection, selected, reference, expression}
use Rattle.text_build.specs.ReadingStmt.{attributes, target_of, part_target, joined, target, fixed, named, valued, span_by, span, pause, null, delayed, assignment_kind, assign, alternative, conditional, labelled, no_colon, otherwise, branch, case_of, step_of, loop_of, label, block, action_by, action, statement_within, statement}
use Rattle.text_build.proofs.Gives.{Gives, anything, bind, choose, either_gives}

-- what is read is no deeper than this
abbrev Deep : {A : Type 0} → (A → ℕ) → ℕ → Parser A → Type 0
Deep g n p = (ts : List Terminal) → Gives (p ts) (λ x rest. g x ≤ n)

module _ {A : Type 0} (g : A → ℕ) (n : ℕ) (p : Parser A) (c : Deep g n p) where
  behind_deep : (s : Symbol) → Deep g n (mark s >> p)
  behind_deep s ts = bind (anything (mark s ts)) (λ x m w. c m)

  optional_deep : (s : Symbol) → Deep (if_any g) n (optional s p)
  unfolding optional
  optional_deep s ts =
      either_gives (starts s) (p >>= (λ x. pure (Some x))) (pure None) ts (λ e. bind (c ts) (λ x m w. record { given = w })) (λ e. record { given = omega arith })

  greatest_add : (found : List A) (x : A) → greatest g found ≤ n → g x ≤ n → greatest g (found ++ x ∷ []) ≤ n
  greatest_add [] x a b = omega (arith, b)
  greatest_add (y ∷ ys) x a b = omega (arith, a, greatest_add ys x (omega (arith, a)) b)

  add_deep : (found : List A) → greatest g found ≤ n → Deep (greatest g) n (add p found)
  add_deep found a ts = bind (c ts) (λ x m w. record { given = greatest_add found x a w })

  links_deep : (test : List Terminal → Bool) (left : List Terminal → List Terminal) (k : ℕ) (found : List A) → greatest g found ≤ n → Deep (greatest g) n (links k test left (add p) found)
  unfolding links
  links_deep test left zero found a ts = record { given = tt }
  links_deep test left (suc k) found a ts =
      bind (add_deep found a ts)
      (λ b m w. choose (test m) (links k test left (add p) b (left m)) (Some (b, left m)) (λ e. links_deep test left k b w (left m)) (λ e. record { given = w }))

  listed_deep : Deep (greatest g) n (listed p)
  unfolding listed commas
  listed_deep ts = links_deep (starts symbol.Comma) (after symbol.Comma) (length ts) [] (omega arith) ts

  until_in_deep : (s : Symbol) (k : ℕ) (found : List A) → greatest g found ≤ n → Deep (greatest g) n (until_in k s p found)
  unfolding until_in
  until_in_deep s zero found a ts = record { given = a }
  until_in_deep s (suc k) found a ts =
      choose (starts s ts) (Some (found, ts)) (and_then (add p found ts) (until_in k s p)) (λ e. record { given = a }) (λ e. bind (add_deep found a ts) (λ b m w. until_in_deep s k b w m))

  until_deep : (s : Symbol) → Deep (greatest g) n (until s p)
  unfolding until
  until_deep s ts = until_in_deep s (length ts) [] (omega arith) ts

-- ---- rows are as deep as their lists

targets_row : (n : ℕ) (xs : List Target) → greatest target_depth xs ≤ n → targets_depth (target_row xs) ≤ n
targets_row n [] h = omega arith
targets_row n (x ∷ xs) h = omega (arith, h, targets_row n xs (omega (arith, h)))

actions_row : (n : ℕ) (xs : List Action) → greatest action_depth xs ≤ n → actions_depth (action_row xs) ≤ n
actions_row n [] h = omega arith
actions_row n (x ∷ xs) h = omega (arith, h, actions_row n xs (omega (arith, h)))

branches_row : (n : ℕ) (xs : List Branch) → greatest branch_depth xs ≤ n → branches_depth (branch_row xs) ≤ n
branches_row n [] h = omega arith
branches_row n (x ∷ xs) h = omega (arith, h, branches_row n xs (omega (arith, h)))

-- ---- targets and delays

reference_depth : Reference → ℕ
reference_depth (whole n) = 0
reference_depth (bit n i) = formula_depth i
reference_depth (part n k a b) = max (formula_depth a) (formula_depth b)

target_of_depth : (r : Reference) (n : ℕ) → reference_depth r ≤ n → target_depth (target_of r) ≤ suc n
unfolding reference_depth
target_of_depth (whole x) n h = omega (arith, h)
target_of_depth (bit x i) n h = omega (arith, h)
target_of_depth (part x k a b) n h = omega (arith, h)

module _ (e : Parser Formula) (n : ℕ) (c : Deep formula_depth n e) where
  rest_deep : (o : Option PartKind) (x : Identifier) (first : Formula) → formula_depth first ≤ n → Deep reference_depth n (rest_by o e x first)
  unfolding rest_of_bit rest_of_part reference_depth
  rest_deep None x first h ts = bind (anything (mark symbol.CloseBracket ts)) (λ y m w. record { given = h })
  rest_deep (Some k) x first h ts =
      bind (behind_deep formula_depth n e c (part_symbol k) ts)
      (λ second m w. bind (anything (mark symbol.CloseBracket m)) (λ y m1 v. record { given = omega (arith, h, w) }))

  selected_deep : (x : Identifier) → Deep reference_depth n (selected e x)
  unfolding selected selection rest_of_selection reference_depth
  selected_deep x ts =
      either_gives _ _ _ ts
      (λ h. bind (behind_deep formula_depth n e c symbol.OpenBracket ts) (λ first m w. rest_deep (part_by (symbol_at m)) x first w m))
      (λ h. record { given = omega arith })

  reference_deep : Deep reference_depth n (reference e)
  unfolding reference
  reference_deep ts = bind (anything (name ts)) (λ x m w. selected_deep x m)

  part_deep : Deep target_depth (suc n) (part_target e)
  unfolding part_target
  part_deep ts = bind (reference_deep ts) (λ r m w. record { given = target_of_depth r n w })

  valued_deep : Deep span_depth n (valued e)
  unfolding valued
  valued_deep ts = bind (behind_deep formula_depth n e c symbol.OpenParen ts) (λ v m w. bind (anything (mark symbol.CloseParen m)) (λ y m1 u. record { given = w }))

  span_from : (s : Symbol) → Deep span_depth n (span_by (Some s) e)
  unfolding fixed named
  span_from symbol.Number ts = bind (anything (literal ts)) (λ v m w. record { given = omega arith })
  span_from symbol.Name ts = bind (anything (name ts)) (λ v m w. record { given = omega arith })
  span_from s ts = valued_deep ts

  span_deep : Deep span_depth n (span e)
  unfolding span
  span_deep [] = valued_deep []
  span_deep (t ∷ ts) = span_from t.symbol (t ∷ ts)

  pause_deep : Deep pause_depth n (pause e)
  unfolding pause
  pause_deep ts = bind (anything (advance ts)) (λ at m w. bind (span_deep m) (λ s m1 v. record { given = v }))

joined_deep : (n : ℕ) (t : Parser Target) → Deep target_depth n t → Deep target_depth (suc n) (joined t)
unfolding joined
joined_deep n t c ts =
    bind (anything (advance ts))
    (λ at m w. bind (listed_deep target_depth n t c m)
    (λ parts m1 v. bind (anything (mark symbol.CloseBrace m1)) (λ y m2 u. record { given = omega (arith, targets_row n parts v) })))

-- ---- statements

module _ (n : ℕ) (e : Parser Formula) (t : Parser Target) (s : Parser Action) (ce : Deep formula_depth n e) (ct : Deep target_depth n t) (cs : Deep action_depth n s) where
  null_deep : Deep action_depth (suc n) null
  unfolding null
  null_deep ts = bind (anything (advance ts)) (λ at m w. record { given = omega arith })

  delayed_deep : Deep action_depth (suc n) (delayed e s)
  unfolding delayed
  delayed_deep ts = bind (pause_deep e n ce ts) (λ p m w. bind (cs m) (λ body m1 v. record { given = omega (arith, w, v) }))

  conditional_deep : Deep action_depth (suc n) (conditional e s)
  unfolding conditional alternative
  conditional_deep ts =
      bind (anything (advance ts))
      (λ at m w. bind (behind_deep formula_depth n e ce symbol.OpenParen m)
      (λ condition m1 v. bind (behind_deep action_depth n s cs symbol.CloseParen m1)
      (λ taken m2 u. either_gives _ _ _ m2
      (λ k. bind (bind {Q = λ a rest. action_depth a ≤ n} (anything (advance m2)) (λ x m3 y. cs m3)) (λ other m4 z. record { given = omega (arith, v, u, z) }))
      (λ k. record { given = omega (arith, v, u) }))))

  branch_deep : Deep branch_depth n (branch e s)
  unfolding branch otherwise labelled no_colon
  branch_deep ts =
      either_gives _ _ _ ts
      (λ h. bind (anything (advance ts)) (λ at m w. bind (cs (after symbol.Colon m)) (λ body m1 v. record { given = v })))
      (λ h. bind (listed_deep formula_depth n e ce ts) (λ labels m w. bind (behind_deep action_depth n s cs symbol.Colon m) (λ body m1 v. record { given = omega (arith, w, v) })))

  case_deep : (k : CaseKind) (marks : Marks) → Deep action_depth (suc n) (case_of k marks e s)
  unfolding case_of
  case_deep k marks ts =
      bind (anything (advance ts))
      (λ at m w. bind (behind_deep formula_depth n e ce symbol.OpenParen m)
      (λ selector m1 v. bind (anything (token symbol.CloseParen m1))
      (λ close m2 u. bind (until_deep branch_depth n (branch e s) branch_deep symbol.Endcase m2)
      (λ branches m3 z. bind (anything (mark symbol.Endcase m3)) (λ x m4 y. record { given = omega (arith, v, branches_row n branches z) })))))

  step_deep : Deep (λ p. formula_depth p.1) n (step_of e)
  unfolding step_of
  step_deep ts = bind (anything (name ts)) (λ x m w. bind (behind_deep formula_depth n e ce symbol.Equals m) (λ v m1 u. record { given = u }))

  loop_deep : Deep action_depth (suc n) (loop_of e s)
  unfolding loop_of
  loop_deep ts =
      bind (anything (advance ts))
      (λ at m w. bind (behind_deep (λ p. formula_depth p.1) n (step_of e) step_deep symbol.OpenParen m)
      (λ first m1 v. bind (behind_deep formula_depth n e ce symbol.Semicolon m1)
      (λ condition m2 u. bind (behind_deep (λ p. formula_depth p.1) n (step_of e) step_deep symbol.Semicolon m2)
      (λ next m3 z. bind (behind_deep action_depth n s cs symbol.CloseParen m3) (λ body m4 y. record { given = omega (arith, v, u, z, y) })))))

  block_deep : Deep action_depth (suc n) (block s)
  unfolding block
  block_deep ts =
      bind (anything (advance ts))
      (λ at m w. bind (anything (optional symbol.Colon label m))
      (λ l m1 v. bind (until_deep action_depth n s cs symbol.End m1)
      (λ body m2 u. bind (anything (mark symbol.End m2)) (λ x m3 z. record { given = omega (arith, actions_row n body u) }))))

  assign_deep : Deep action_depth (suc n) (assign e t)
  unfolding assign
  assign_deep ts =
      bind (ct ts)
      (λ to m w. bind (anything (assignment_kind m))
      (λ k m1 v. bind (optional_deep pause_depth n (pause e) (pause_deep e n ce) symbol.Hash m1)
      (λ p m2 u. bind (ce m2) (λ value m3 z. bind (anything (mark symbol.Semicolon m3)) (λ x m4 y. record { given = omega (arith, w, u, z) })))))

  action_from : (x : Symbol) (marks : Marks) → Deep action_depth (suc n) (action_by (Some x) marks e t s)
  action_from symbol.Semicolon marks ts = null_deep ts
  action_from symbol.Hash marks ts = delayed_deep ts
  action_from symbol.If marks ts = conditional_deep ts
  action_from symbol.Case marks ts = case_deep kind.Plain marks ts
  action_from symbol.Casez marks ts = case_deep kind.Z marks ts
  action_from symbol.Casex marks ts = case_deep kind.X marks ts
  action_from symbol.For marks ts = loop_deep ts
  action_from symbol.Begin marks ts = block_deep ts
  action_from x marks ts = assign_deep ts

  action_deep : (marks : Marks) → Deep action_depth (suc n) (action marks e t s)
  unfolding action
  action_deep marks [] = assign_deep []
  action_deep marks (x ∷ ts) = action_from x.symbol marks (x ∷ ts)

  -- a statement is one deeper than what stands in it
  pub within_deep : Deep action_depth (suc n) (statement_within e t s)
  unfolding statement_within
  within_deep ts = bind (anything (attributes ts)) (λ marks m w. action_deep marks m)

-- a target is no deeper than its fuel, if expressions aren't
pub target_deep : ((d : ℕ) → Deep formula_depth d (expression d)) → (d : ℕ) → Deep target_depth d (target d)
unfolding target
target_deep c zero ts = record { given = tt }
target_deep c (suc d) ts = either_gives _ _ _ ts (λ h. joined_deep d (target d) (target_deep c d) ts) (λ h. part_deep (expression d) d (c d) ts)

-- a statement is no deeper than its fuel, if expressions aren't
pub statement_deep : ((d : ℕ) → Deep formula_depth d (expression d)) → (d : ℕ) → Deep action_depth d (statement d)
unfolding statement
statement_deep c zero ts = record { given = tt }
statement_deep c (suc d) ts = within_deep d (expression d) (target d) (statement d) (c d) (target_deep c d) (statement_deep c d) ts
