-- What is spelled is read: generate constructs, and the items of a module with these among them; an `else` belongs to the nearest
-- `if`.
use Rattle.std.proofs.Common.{◌≡◌, ℕ, zero, suc, ◌≤◌, true, false, List, Option, Some, None, refl, sym, ap, subst, ◌∙◌, inl, inr, max, arith}
use Rattle.rtl_tree.specs.declared.symbol.Symbol.{Symbol}
use Rattle.rtl_tree.specs.declared.symbol.Symbol.TheVariants as symbol
use Rattle.rtl_tree.specs.Symbols.{Terminal}
use Rattle.rtl_tree.specs.TreeExpr.{Identifier, Formula}
use Rattle.rtl_tree.specs.TreeWritten.{WrittenItem, Plain, Primitives, Genvars, Region, If, IfElse, Case, For, WrittenItems, no_items, more_items, item_row, item_list, GenerateBlock, Null, Single, Block, GenerateChoice, Labelled, Default, GenerateChoices, no_choices, more_choices, choice_row, choice_list}
use Rattle.text_grammar.specs.Depth.{greatest, formula_depth, written_depth, written_items_depth, made_depth, choice_depth, choices_depth}
use Rattle.text_grammar.specs.Grammar.{◌⨾◌, IsA, IsAt}
use Rattle.text_grammar.specs.GrammarExpr.{IsExpression}
use Rattle.text_grammar.specs.GrammarStmt.{Marked, IsDefaultEnd}
use Rattle.text_grammar.specs.GrammarGate.{gate_symbol}
use Rattle.text_grammar.specs.GrammarWritten.{ends_open, block_ends_open, takes_attributes, IsUnmarked, AreWritten, IsMade, IsChoice, AreChoices, AreMoreChoices, IsWritten}
use Rattle.text_build.specs.Reading.{Parser, and_then, ◌>>=◌, ◌>>◌, pure, same_symbol, starts, name, advance, mark, either, optional, until, listed}
use Rattle.text_build.specs.ReadingExpr.{expression}
use Rattle.text_build.specs.ReadingStmt.{attributes, no_colon, step_of, label}
use Rattle.text_build.specs.ReadingItem.{item_after}
use Rattle.text_build.specs.ReadingGate.{gate_of, gate_by, plain_item, written_by, written_after}
use Rattle.text_build.specs.ReadingGenerate.{null, single, block, made_by, made, alternative, conditional, labelled, otherwise, choice, case_of, loop_of, genvars, region, simple, marked, within_by, within, item}
use Rattle.text_build.proofs.Laws.Tokens.{mark_then, advance_at, advance_then, starts_is, starts_not, after_is, after_not, symbol_is, bind, either_first, either_second}
use Rattle.text_build.proofs.Laws.Repeats.{Again, Rows, Begins, until_again, listed_again}
use Rattle.text_build.proofs.Laws.Follows.{Stops, is_start, opens_not, formula_shorter}
use Rattle.text_build.proofs.Laws.Exprs.{Entire, before, stop_ends}
use Rattle.text_build.proofs.Laws.Chains.{expression_again}
use Rattle.text_build.proofs.Laws.Attributes.{marks_of, attributes_again}
use Rattle.text_build.proofs.Laws.Openings.{is_branch, listed_opens}
use Rattle.text_build.proofs.Laws.Statements.{NoElse, open_is, no_else_is}
use Rattle.text_build.proofs.Laws.Blocks.{comma_stops, label_again, step_again}
use Rattle.text_build.proofs.Laws.Lists.{names_again}
use Rattle.text_build.proofs.Laws.Items.{is_item, after_again, item_opens}
use Rattle.text_build.proofs.Laws.Gates.{gate_back, gates_again}
use Rattle.text_build.proofs.Laws.Written.{is_plain, is_alone, is_front, is_marked, is_written, holds_none, gates_open, alone_opens, front_opens, marked_opens, written_opens, choice_opens, written_shorter, choice_consumes}

-- an `else` that comes next belongs to no `if` that an item ends in
abbrev pub Closed : WrittenItem → List Terminal → Type 0
Closed x rest = starts symbol.Else rest ≡ true → ends_open x ≡ false

abbrev ClosedBlock : GenerateBlock → List Terminal → Type 0
ClosedBlock b rest = starts symbol.Else rest ≡ true → block_ends_open b ≡ false

pub closed : (x : WrittenItem) (rest : List Terminal) → NoElse rest → Closed x rest
closed x rest h e = let w : true ≡ false = sym e ∙ h in absurd (cc)

closed_block : (b : GenerateBlock) (rest : List Terminal) → NoElse rest → ClosedBlock b rest
closed_block b rest h e = let w : true ≡ false = sym e ∙ h in absurd (cc)

-- items within, nested at most `k` deep
abbrev pub Within : ℕ → Parser WrittenItem → Type 0
Within k i = (x : WrittenItem) (ts rest : List Terminal) → IsWritten x ts rest → written_depth x ≤ k → Closed x rest → i ts ≡ Some (x, rest)

-- ---- items in a row

abbrev ItemRow : List WrittenItem → List Terminal → List Terminal → Type 0
ItemRow all = AreWritten (item_row all)

item_rows : Rows IsWritten ItemRow
item_rows = record { at_end = λ ts rest w. w; goes_on = λ x xs ts rest w. w }

item_back : (all : WrittenItems) → item_row (item_list all) ≡ all
item_back no_items = refl
item_back (more_items x all) = ap (more_items x) (item_back all)

item_deep : (all : WrittenItems) → greatest written_depth (item_list all) ≡ written_items_depth all
item_deep no_items = refl
item_deep (more_items x all) = ap (max (written_depth x)) (item_deep all)

-- before a token that no item begins with
pub item_begins : (s : Symbol) → is_written s ≡ false → Begins IsWritten s NoElse
item_begins s h =
    record {
      consumes = written_shorter;
      other = λ x ts rest w. opens_not is_written s ts h (written_opens x ts rest w);
      follows = λ x ts rest w. opens_not is_written symbol.Else ts refl (written_opens x ts rest w);
    }

module _ (k : ℕ) (i : Parser WrittenItem) (c : Within k i) where
  items_again : (s : Symbol) (all : WrittenItems) (ts mid rest : List Terminal) → is_written s ≡ false → same_symbol s symbol.Else ≡ false → AreWritten all ts mid → written_items_depth all ≤ k → IsA s mid rest
      → until s i ts ≡ Some (item_list all, mid)
  items_again s all ts mid rest n l w h m =
      until_again IsWritten ItemRow s NoElse written_depth k i (λ x us vs v q o. c x us vs v q (closed x vs o)) (item_begins s n) item_rows (item_list all) ts mid
      (subst (λ x. AreWritten x ts mid) (sym (item_back all)) w) (omega (arith, h, item_deep all)) (no_else_is s mid rest m l) (starts_is s mid rest m.0 m.1 m.2)

  region_again : (at : ℕ) (all : WrittenItems) (ts rest : List Terminal) → IsUnmarked (Region at all) ts rest → written_items_depth all ≤ k → region i ts ≡ Some (Region at all, rest)
  unfolding region same_symbol
  region_again at all ts rest w h =
      let a = w.2 in
      bind (advance ts) (λ p. until symbol.Endgenerate i >>= (λ xs. mark symbol.Endgenerate >> pure (Region p (item_row xs)))) at w.0 (advance_at symbol.Generate at ts w.0 w.1)
      ∙ bind (until symbol.Endgenerate i w.0) (λ xs. mark symbol.Endgenerate >> pure (Region at (item_row xs))) (item_list all) a.0 (items_again symbol.Endgenerate all w.0 a.0 rest refl refl a.1 h a.2)
      ∙ mark_then symbol.Endgenerate (pure (Region at (item_row (item_list all)))) a.0 rest a.2
      ∙ ap (λ x. Some (Region at x, rest)) (item_back all)

  -- ---- what a construct makes

  -- what comes first in a block has no colon
  no_label : (all : WrittenItems) (ts mid rest : List Terminal) → AreWritten all ts mid → IsA symbol.End mid rest → starts symbol.Colon ts ≡ false
  unfolding same_symbol
  no_label no_items ts mid rest w m = ap (starts symbol.Colon) w ∙ starts_not symbol.Colon symbol.End mid rest m.0 m.1 m.2 refl
  no_label (more_items x all) ts mid rest w m = opens_not is_written symbol.Colon ts refl (written_opens x ts w.0 w.1)

  block_again : (at : ℕ) (l : Option Identifier) (all : WrittenItems) (ts rest : List Terminal) → IsMade (Block at l all) ts rest → written_items_depth all ≤ k → block i ts ≡ Some (Block at l all, rest)
  unfolding block same_symbol
  block_again at l all ts rest w h =
      let a = w.2 in
      let b = a.2 in
      bind (advance ts) (λ p. optional symbol.Colon label >>= (λ l. until symbol.End i >>= (λ xs. mark symbol.End >> pure (Block p l (item_row xs))))) at w.0 (advance_at symbol.Begin at ts w.0 w.1)
      ∙ bind (optional symbol.Colon label w.0) (λ l. until symbol.End i >>= (λ xs. mark symbol.End >> pure (Block at l (item_row xs)))) l a.0 (label_again l w.0 a.0 a.1 (no_label all a.0 b.0 rest b.1 b.2))
      ∙ bind (until symbol.End i a.0) (λ xs. mark symbol.End >> pure (Block at l (item_row xs))) (item_list all) b.0 (items_again symbol.End all a.0 b.0 rest refl refl b.1 h b.2)
      ∙ mark_then symbol.End (pure (Block at l (item_row (item_list all)))) b.0 rest b.2
      ∙ ap (λ x. Some (Block at l x, rest)) (item_back all)

  no_block : (s : Symbol) → is_written s ≡ true → made_by (Some s) i ≡ single i
  no_block symbol.Semicolon h = absurd (cc)
  no_block symbol.Begin h = absurd (cc)
  no_block s h = refl

  made_again : (b : GenerateBlock) (ts rest : List Terminal) → IsMade b ts rest → made_depth b ≤ k → ClosedBlock b rest → made i ts ≡ Some (b, rest)
  unfolding made null single
  made_again (Null at) ts rest w h o =
      ap (λ x. made_by x i ts) (symbol_is symbol.Semicolon ts rest w.0 w.1 w.2.0) ∙ bind (advance ts) (λ p. pure (Null p)) at rest (advance_at symbol.Semicolon at ts rest w)
  made_again (Single x) ts rest w h o =
      let f = written_opens x ts rest w in
      ap (λ y. made_by y i ts) (symbol_is f.first.symbol ts f.others f.first f.is refl)
      ∙ ap (λ p. p ts) (no_block f.first.symbol f.passes)
      ∙ bind (i ts) (λ y. pure (Single y)) x rest (c x ts rest w h o)
  made_again (Block at l all) ts rest w h o =
      let v = w.1 in
      ap (λ x. made_by x i ts) (symbol_is symbol.Begin ts w.0 v.0 v.1 v.2.0) ∙ block_again at l all ts rest w (omega (arith, h))

-- what constructs make, nested at most `k` deep
abbrev Makes : ℕ → Parser GenerateBlock → Type 0
Makes k m = (b : GenerateBlock) (ts rest : List Terminal) → IsMade b ts rest → made_depth b ≤ k → ClosedBlock b rest → m ts ≡ Some (b, rest)

-- ---- choices in a row

abbrev ChoiceRow : List GenerateChoice → List Terminal → List Terminal → Type 0
ChoiceRow all = AreMoreChoices (choice_row all)

choice_rows : Rows IsChoice ChoiceRow
choice_rows = record { at_end = λ ts rest w. w; goes_on = λ x xs ts rest w. w }

choice_back : (all : GenerateChoices) → choice_row (choice_list all) ≡ all
choice_back no_choices = refl
choice_back (more_choices x all) = ap (more_choices x) (choice_back all)

choice_deep : (all : GenerateChoices) → greatest choice_depth (choice_list all) ≡ choices_depth all
choice_deep no_choices = refl
choice_deep (more_choices x all) = ap (max (choice_depth x)) (choice_deep all)

as_more : (all : GenerateChoices) (ts rest : List Terminal) → AreChoices all ts rest → AreMoreChoices all ts rest
as_more no_choices ts rest w = absurd w
as_more (more_choices x all) ts rest w = w

choice_begins : Begins IsChoice symbol.Endcase NoElse
choice_begins =
    record {
      consumes = choice_consumes;
      other = λ x ts rest w. opens_not is_branch symbol.Endcase ts refl (choice_opens x ts rest w);
      follows = λ x ts rest w. opens_not is_branch symbol.Else ts refl (choice_opens x ts rest w);
    }

-- what a construct makes begins with no colon
made_colon : (b : GenerateBlock) (ts rest : List Terminal) → IsMade b ts rest → starts symbol.Colon ts ≡ false
unfolding same_symbol
made_colon (Null at) ts rest w = starts_not symbol.Colon symbol.Semicolon ts rest w.0 w.1 w.2.0 refl
made_colon (Single x) ts rest w = opens_not is_written symbol.Colon ts refl (written_opens x ts rest w)
made_colon (Block at l all) ts rest w = let v = w.1 in starts_not symbol.Colon symbol.Begin ts w.0 v.0 v.1 v.2.0 refl

module _ (k : ℕ) (e : Parser Formula) (c : Entire k e) (m : Parser GenerateBlock) (g : Makes k m) where
  -- ---- conditions

  abbrev after_taken : ℕ → Formula → GenerateBlock → Parser WrittenItem
  after_taken at x a = either (starts symbol.Else) (alternative m at x a) (pure (If at x a))

  -- up to the branch that is taken
  taken_again : (at : ℕ) (x : Formula) (a : GenerateBlock) (ts rest : List Terminal) → (IsAt symbol.If at ⨾ IsA symbol.OpenParen ⨾ IsExpression x ⨾ IsA symbol.CloseParen ⨾ IsMade a) ts rest
      → formula_depth x ≤ k → made_depth a ≤ k → ClosedBlock a rest → conditional e m ts ≡ after_taken at x a rest
  unfolding conditional
  taken_again at x a ts rest w h q o =
      let b = w.2 in
      let f = b.2 in
      let j = f.2 in
      bind (advance ts) (λ p. mark symbol.OpenParen >> e >>= (λ y. mark symbol.CloseParen >> m >>= (λ z. after_taken p y z))) at w.0 (advance_at symbol.If at ts w.0 w.1)
      ∙ ap (λ o. and_then o (λ y. mark symbol.CloseParen >> m >>= (λ z. after_taken at y z))) (mark_then symbol.OpenParen e w.0 b.0 b.1)
      ∙ before k e c symbol.CloseParen (λ y. mark symbol.CloseParen >> m >>= (λ z. after_taken at y z)) x b.0 f.0 j.0 f.1 h refl j.1
      ∙ ap (λ o. and_then o (λ z. after_taken at x z)) (mark_then symbol.CloseParen m f.0 j.0 j.1)
      ∙ bind (m j.0) (λ z. after_taken at x z) a rest (g a j.0 rest j.2 q o)

  if_again : (at : ℕ) (x : Formula) (a : GenerateBlock) (ts rest : List Terminal) → IsUnmarked (If at x a) ts rest → formula_depth x ≤ k → made_depth a ≤ k → Closed (If at x a) rest
      → conditional e m ts ≡ Some (If at x a, rest)
  if_again at x a ts rest w h q o =
      let n = open_is (starts symbol.Else rest) o in
      taken_again at x a ts rest w h q (closed_block a rest n) ∙ either_second (starts symbol.Else) (alternative m at x a) (pure (If at x a)) rest n

  else_again : (at : ℕ) (x : Formula) (a b : GenerateBlock) (ts rest : List Terminal) → IsUnmarked (IfElse at x a b) ts rest → formula_depth x ≤ k → made_depth a ≤ k → made_depth b ≤ k → ClosedBlock b rest
      → conditional e m ts ≡ Some (IfElse at x a b, rest)
  unfolding alternative
  else_again at x a b ts rest y h q n o =
      let w = y.1 in
      let f = w.2 in
      let j = f.2 in
      let l = j.2 in
      let u = l.2 in
      let v = u.2 in
      taken_again at x a ts u.0 (w.0, w.1, (f.0, f.1, (j.0, j.1, (l.0, l.1, u.1)))) h q (λ _. y.0)
      ∙ either_first (starts symbol.Else) (alternative m at x a) (pure (If at x a)) u.0 (starts_is symbol.Else u.0 v.0 v.1.0 v.1.1 v.1.2)
      ∙ ap (λ o. and_then o (λ z. pure (IfElse at x a z))) (advance_then symbol.Else m u.0 v.0 v.1)
      ∙ bind (m v.0) (λ z. pure (IfElse at x a z)) b rest (g b v.0 rest v.2 n o)

  -- ---- cases

  labelled_again : (labels : List Formula) (body : GenerateBlock) (ts rest : List Terminal) → IsChoice (Labelled labels body) ts rest → greatest formula_depth labels ≤ k → made_depth body ≤ k → ClosedBlock body rest
      → labelled e m ts ≡ Some (Labelled labels body, rest)
  unfolding labelled same_symbol
  labelled_again labels body ts rest w h q o =
      let a = w.2 in
      bind (listed e ts) (λ ls. mark symbol.Colon >> m >>= (λ b. pure (Labelled ls b))) labels w.0
      (listed_again IsExpression (Stops 12) formula_depth k e c (λ x us vs v. let l = formula_shorter 12 x us vs v in omega (arith, l)) comma_stops labels ts w.0 w.1 h
      (stop_ends symbol.Colon w.0 a.0 refl refl a.1))
      ∙ ap (λ q. and_then q (λ b. pure (Labelled labels b))) (mark_then symbol.Colon m w.0 a.0 a.1)
      ∙ bind (m a.0) (λ b. pure (Labelled labels b)) body rest (g body a.0 rest a.2 q o)

  colon_again : (body : GenerateBlock) (ts mid rest : List Terminal) → IsDefaultEnd ts mid → IsMade body mid rest → and_then (no_colon ts) (λ _. m) ≡ m mid
  unfolding no_colon
  colon_again body ts mid rest (inl w) v = ap m (after_not symbol.Colon ts (ap (starts symbol.Colon) w ∙ made_colon body mid rest v) ∙ w)
  colon_again body ts mid rest (inr w) v = ap m (after_is symbol.Colon ts mid w.0 w.1 w.2)

  default_again : (at : ℕ) (body : GenerateBlock) (ts rest : List Terminal) → IsChoice (Default at body) ts rest → made_depth body ≤ k → ClosedBlock body rest → otherwise m ts ≡ Some (Default at body, rest)
  unfolding otherwise
  default_again at body ts rest w h o =
      let a = w.2 in
      bind (advance ts) (λ p. no_colon >> m >>= (λ b. pure (Default p b))) at w.0 (advance_at symbol.Default at ts w.0 w.1)
      ∙ ap (λ q. and_then q (λ b. pure (Default at b))) (colon_again body w.0 a.0 rest a.1 a.2)
      ∙ bind (m a.0) (λ b. pure (Default at b)) body rest (g body a.0 rest a.2 h o)

  choice_again : Again choice_depth k (choice e m) IsChoice NoElse
  unfolding choice
  choice_again (Labelled labels body) ts rest w h o =
      either_second (starts symbol.Default) (otherwise m) (labelled e m) ts (opens_not is_start symbol.Default ts refl (listed_opens labels ts w.0 w.1))
      ∙ labelled_again labels body ts rest w (omega (arith, h)) (omega (arith, h)) (closed_block body rest o)
  choice_again (Default at body) ts rest w h o =
      either_first (starts symbol.Default) (otherwise m) (labelled e m) ts (starts_is symbol.Default ts w.0 w.1.0 w.1.1 w.1.2.0)
      ∙ default_again at body ts rest w h (closed_block body rest o)

  choices_again : (all : GenerateChoices) (ts mid rest : List Terminal) → AreChoices all ts mid → choices_depth all ≤ k → IsA symbol.Endcase mid rest → until symbol.Endcase (choice e m) ts ≡ Some (choice_list all, mid)
  unfolding same_symbol
  choices_again all ts mid rest w h q =
      until_again IsChoice ChoiceRow symbol.Endcase NoElse choice_depth k (choice e m) choice_again choice_begins choice_rows (choice_list all) ts mid
      (subst (λ x. AreMoreChoices x ts mid) (sym (choice_back all)) (as_more all ts mid w)) (omega (arith, h, choice_deep all)) (no_else_is symbol.Endcase mid rest q refl)
      (starts_is symbol.Endcase mid rest q.0 q.1 q.2)

  case_again : (at : ℕ) (x : Formula) (all : GenerateChoices) (ts rest : List Terminal) → IsUnmarked (Case at x all) ts rest → formula_depth x ≤ k → choices_depth all ≤ k → case_of e m ts ≡ Some (Case at x all, rest)
  unfolding case_of
  case_again at x all ts rest y h q =
      let w = y.1 in
      let a = w.2 in
      let b = a.2 in
      let f = b.2 in
      let j = f.2 in
      bind (advance ts) (λ p. mark symbol.OpenParen >> e >>= (λ z. mark symbol.CloseParen >> until symbol.Endcase (choice e m) >>= (λ u. mark symbol.Endcase >> pure (Case p z (choice_row u))))) at w.0
      (advance_at symbol.Case at ts w.0 w.1)
      ∙ ap (λ o. and_then o (λ z. mark symbol.CloseParen >> until symbol.Endcase (choice e m) >>= (λ u. mark symbol.Endcase >> pure (Case at z (choice_row u))))) (mark_then symbol.OpenParen e w.0 a.0 a.1)
      ∙ before k e c symbol.CloseParen (λ z. mark symbol.CloseParen >> until symbol.Endcase (choice e m) >>= (λ u. mark symbol.Endcase >> pure (Case at z (choice_row u)))) x a.0 b.0 f.0 b.1 h refl f.1
      ∙ ap (λ o. and_then o (λ u. mark symbol.Endcase >> pure (Case at x (choice_row u)))) (mark_then symbol.CloseParen (until symbol.Endcase (choice e m)) b.0 f.0 f.1 ∙ choices_again all f.0 j.0 rest j.1 q j.2)
      ∙ mark_then symbol.Endcase (pure (Case at x (choice_row (choice_list all)))) j.0 rest j.2
      ∙ ap (λ z. Some (Case at x z, rest)) (choice_back all)

  -- ---- loops

  for_again : (at : ℕ) (n : Identifier) (x y : Formula) (t : Identifier) (z : Formula) (body : GenerateBlock) (ts rest : List Terminal) → IsUnmarked (For at n x y t z body) ts rest
      → formula_depth x ≤ k → formula_depth y ≤ k → formula_depth z ≤ k → made_depth body ≤ k → ClosedBlock body rest → loop_of e m ts ≡ Some (For at n x y t z body, rest)
  unfolding loop_of
  for_again at n x y t z body ts rest w hx hy hz hb ends =
      let a = w.2 in
      let b = a.2 in
      let f = b.2 in
      let u = f.2 in
      let h = u.2 in
      let j = h.2 in
      let v = j.2 in
      let l = v.2 in
      let p = l.2 in
      let q = p.2 in
      let r = q.2 in
      bind (advance ts) (λ at. mark symbol.OpenParen >> step_of e >>= (λ first. mark symbol.Semicolon >> e >>= (λ condition. mark symbol.Semicolon >> step_of e >>= (λ next. mark symbol.CloseParen >> m >>= (λ body. pure (For at first.0 first.1 condition next.0 next.1 body))))))
      at w.0 (advance_at symbol.For at ts w.0 w.1)
      ∙ ap (λ o. and_then o (λ first. mark symbol.Semicolon >> e >>= (λ condition. mark symbol.Semicolon >> step_of e >>= (λ next. mark symbol.CloseParen >> m >>= (λ body. pure (For at first.0 first.1 condition next.0 next.1 body))))))
      (mark_then symbol.OpenParen (step_of e) w.0 a.0 a.1 ∙ step_again k e c n x symbol.Semicolon a.0 u.0 h.0 (b.0, b.1, (f.0, f.1, u.1)) h.1 refl hx)
      ∙ ap (λ o. and_then o (λ condition. mark symbol.Semicolon >> step_of e >>= (λ next. mark symbol.CloseParen >> m >>= (λ body. pure (For at n x condition next.0 next.1 body))))) (mark_then symbol.Semicolon e u.0 h.0 h.1)
      ∙ before k e c symbol.Semicolon (λ condition. mark symbol.Semicolon >> step_of e >>= (λ next. mark symbol.CloseParen >> m >>= (λ body. pure (For at n x condition next.0 next.1 body)))) y h.0 j.0 v.0 j.1 hy refl v.1
      ∙ ap (λ o. and_then o (λ next. mark symbol.CloseParen >> m >>= (λ body. pure (For at n x y next.0 next.1 body))))
      (mark_then symbol.Semicolon (step_of e) j.0 v.0 v.1 ∙ step_again k e c t z symbol.CloseParen v.0 q.0 r.0 (l.0, l.1, (p.0, p.1, q.1)) r.1 refl hz)
      ∙ ap (λ o. and_then o (λ body. pure (For at n x y t z body))) (mark_then symbol.CloseParen m q.0 r.0 r.1)
      ∙ bind (m r.0) (λ body. pure (For at n x y t z body)) body rest (g body r.0 rest r.2 hb ends)

-- ---- items in which no other stands

-- what begins an item that stands for itself begins no gates
no_gate : (s : Symbol) → is_item s ≡ true → gate_of s ≡ None
unfolding gate_of
no_gate symbol.Input h = refl
no_gate symbol.Output h = refl
no_gate symbol.Wire h = refl
no_gate symbol.Reg h = refl
no_gate symbol.Integer h = refl
no_gate symbol.Parameter h = refl
no_gate symbol.Localparam h = refl
no_gate symbol.Assign h = refl
no_gate symbol.Always h = refl
no_gate symbol.Name h = refl
no_gate s h = absurd (cc)

genvars_again : (at : ℕ) (ns : List Identifier) (ts rest : List Terminal) → IsUnmarked (Genvars at ns) ts rest → genvars ts ≡ Some (Genvars at ns, rest)
unfolding genvars same_symbol
genvars_again at ns ts rest w =
    let a = w.2 in
    bind (advance ts) (λ at. listed name >>= (λ names. mark symbol.Semicolon >> pure (Genvars at names))) at w.0 (advance_at symbol.Genvar at ts w.0 w.1)
    ∙ bind (listed name w.0) (λ names. mark symbol.Semicolon >> pure (Genvars at names)) ns a.0 (names_again symbol.Semicolon ns w.0 a.0 rest a.1 a.2 refl)
    ∙ mark_then symbol.Semicolon (pure (Genvars at ns)) a.0 rest a.2

simple_again : (d : ℕ) (x : WrittenItem) (ts rest : List Terminal) → holds_none x ≡ true → IsUnmarked x ts rest → written_depth x ≤ d → Closed x rest → simple d ts ≡ Some (x, rest)
unfolding simple written_after plain_item
simple_again d (Plain i) ts rest a w h o =
    let f = item_opens i ts rest w in
    either_second (starts symbol.Genvar) genvars (written_after d) ts (opens_not is_item symbol.Genvar ts refl f)
    ∙ ap (λ x. written_by d (gate_by x) ts) (symbol_is f.first.symbol ts f.others f.first f.is refl)
    ∙ ap (λ x. written_by d x ts) (no_gate f.first.symbol f.passes)
    ∙ bind (item_after d ts) (λ x. pure (Plain x)) i rest (after_again d i ts rest w h o)
simple_again d (Primitives at g p xs) ts rest a w h o =
    let v = w.1 in
    either_second (starts symbol.Genvar) genvars (written_after d) ts (opens_not is_plain symbol.Genvar ts refl (gates_open at g p xs ts rest w))
    ∙ ap (λ x. written_by d (gate_by x) ts) (symbol_is (gate_symbol g) ts w.0 v.0 v.1 v.2.0)
    ∙ ap (λ x. written_by d x ts) (gate_back g)
    ∙ gates_again d at g p xs ts rest w h
simple_again d (Genvars at ns) ts rest a w h o =
    let v = w.1 in
    either_first (starts symbol.Genvar) genvars (written_after d) ts (starts_is symbol.Genvar ts w.0 v.0 v.1 v.2.0) ∙ genvars_again at ns ts rest w
simple_again d (Region at items) ts rest a w h o = absurd (cc)
simple_again d (If at condition taken) ts rest a w h o = absurd (cc)
simple_again d (IfElse at condition taken otherwise) ts rest a w h o = absurd (cc)
simple_again d (Case at selector all) ts rest a w h o = absurd (cc)
simple_again d (For at index start condition stepped step body) ts rest a w h o = absurd (cc)

-- ---- any item

-- what is read after attributes
after_marks : (x : WrittenItem) (p : Parser WrittenItem) (ts rest : List Terminal) → takes_attributes x ≡ true → Marked (λ m. IsUnmarked x) ts rest → ((mid : List Terminal) → IsUnmarked x mid rest → p mid ≡ Some (x, rest))
    → and_then (attributes ts) (λ _. p) ≡ Some (x, rest)
after_marks x p ts rest a w f =
    let v = w.1 in
    bind (attributes ts) (λ _. p) (marks_of w.0) v.0 (attributes_again w.0 ts v.0 v.1 (opens_not is_front symbol.OpenAttribute v.0 refl (front_opens x v.0 rest a v.2))) ∙ f v.0 v.2

module _ (d k : ℕ) (l : suc k ≤ d) (i : Parser WrittenItem) (c : Within k i) where
  no_construct : (s : Symbol) → is_marked s ≡ true → within_by (Some s) (simple d) (expression k) i ≡ marked (simple d) i
  no_construct symbol.If h = absurd (cc)
  no_construct symbol.Case h = absurd (cc)
  no_construct symbol.For h = absurd (cc)
  no_construct s h = refl

  by : (s : Symbol) (at : ℕ) (ts rest : List Terminal) → IsAt s at ts rest → within (simple d) (expression k) i ts ≡ within_by (Some s) (simple d) (expression k) i ts
  unfolding within
  by s at ts rest w = ap (λ y. within_by y (simple d) (expression k) i ts) (symbol_is s ts rest w.0 w.1 w.2.0)

  by_marks : (x : WrittenItem) (ts rest : List Terminal) → takes_attributes x ≡ true → Marked (λ m. IsUnmarked x) ts rest → within (simple d) (expression k) i ts ≡ marked (simple d) i ts
  unfolding within
  by_marks x ts rest a w =
      let v = w.1 in
      let f = marked_opens x w.0 ts v.0 rest a v.1 v.2 in
      ap (λ y. within_by y (simple d) (expression k) i ts) (symbol_is f.first.symbol ts f.others f.first f.is refl) ∙ ap (λ q. q ts) (no_construct f.first.symbol f.passes)

  alone_within : (x : WrittenItem) (ts rest : List Terminal) → holds_none x ≡ true → takes_attributes x ≡ true → Marked (λ m. IsUnmarked x) ts rest → written_depth x ≤ suc k → Closed x rest
      → within (simple d) (expression k) i ts ≡ Some (x, rest)
  unfolding marked
  alone_within x ts rest a t w h o =
      by_marks x ts rest t w
      ∙ after_marks x (either (starts symbol.Generate) (region i) (simple d)) ts rest t w
      (λ mid v. either_second (starts symbol.Generate) (region i) (simple d) mid (opens_not is_alone symbol.Generate mid refl (alone_opens x mid rest a v)) ∙ simple_again d x mid rest a v (omega (arith, h, l)) o)

  region_within : (at : ℕ) (all : WrittenItems) (ts rest : List Terminal) → IsWritten (Region at all) ts rest → written_items_depth all ≤ k → within (simple d) (expression k) i ts ≡ Some (Region at all, rest)
  unfolding marked
  region_within at all ts rest w h =
      by_marks (Region at all) ts rest refl w
      ∙ after_marks (Region at all) (either (starts symbol.Generate) (region i) (simple d)) ts rest refl w
      (λ mid v. either_first (starts symbol.Generate) (region i) (simple d) mid (starts_is symbol.Generate mid v.0 v.1.0 v.1.1 v.1.2.0) ∙ region_again k i c at all mid rest v h)

  within_again : (x : WrittenItem) (ts rest : List Terminal) → IsWritten x ts rest → written_depth x ≤ suc k → Closed x rest → within (simple d) (expression k) i ts ≡ Some (x, rest)
  within_again (Plain y) ts rest w h o = alone_within (Plain y) ts rest refl refl w h o
  within_again (Primitives at g p xs) ts rest w h o = alone_within (Primitives at g p xs) ts rest refl refl w h o
  within_again (Genvars at ns) ts rest w h o = alone_within (Genvars at ns) ts rest refl refl w h o
  within_again (Region at all) ts rest w h o = region_within at all ts rest w (omega (arith, h))
  within_again (If at x a) ts rest w h o =
      by symbol.If at ts w.0 w.1 ∙ if_again k (expression k) (expression_again k) (made i) (made_again k i c) at x a ts rest w (omega (arith, h)) (omega (arith, h)) o
  within_again (IfElse at x a b) ts rest w h o =
      let v = w.1 in
      by symbol.If at ts v.0 v.1 ∙ else_again k (expression k) (expression_again k) (made i) (made_again k i c) at x a b ts rest w (omega (arith, h)) (omega (arith, h)) (omega (arith, h)) o
  within_again (Case at x all) ts rest w h o =
      let v = w.1 in
      by symbol.Case at ts v.0 v.1 ∙ case_again k (expression k) (expression_again k) (made i) (made_again k i c) at x all ts rest w (omega (arith, h)) (omega (arith, h))
  within_again (For at n x y m z body) ts rest w h o =
      by symbol.For at ts w.0 w.1
      ∙ for_again k (expression k) (expression_again k) (made i) (made_again k i c) at n x y m z body ts rest w (omega (arith, h)) (omega (arith, h)) (omega (arith, h)) (omega (arith, h)) o

simple_item : (d : ℕ) (x : WrittenItem) (ts rest : List Terminal) → holds_none x ≡ true → takes_attributes x ≡ true → Marked (λ m. IsUnmarked x) ts rest → written_depth x ≤ d → Closed x rest → item d zero ts ≡ Some (x, rest)
unfolding item
simple_item d x ts rest a t w h o = after_marks x (simple d) ts rest t w (λ mid v. simple_again d x mid rest a v h o)

pub item_within : (d k : ℕ) → k ≤ d → Within k (item d k)
unfolding item
item_within d zero l (Plain y) ts rest w h o = simple_item d (Plain y) ts rest refl refl w (omega (arith, h)) o
item_within d zero l (Primitives at g p xs) ts rest w h o = simple_item d (Primitives at g p xs) ts rest refl refl w (omega (arith, h)) o
item_within d zero l (Genvars at ns) ts rest w h o = simple_item d (Genvars at ns) ts rest refl refl w (omega (arith, h)) o
item_within d zero l (Region at all) ts rest w h o = absurd (omega (arith, h))
item_within d zero l (If at x a) ts rest w h o = absurd (omega (arith, h))
item_within d zero l (IfElse at x a b) ts rest w h o = absurd (omega (arith, h))
item_within d zero l (Case at x all) ts rest w h o = absurd (omega (arith, h))
item_within d zero l (For at n x y m z body) ts rest w h o = absurd (omega (arith, h))
item_within d (suc k) l x ts rest w h o = within_again d k l (item d k) (item_within d k (omega (arith, l))) x ts rest w h o

-- where no `else` comes next
pub item_again : (d : ℕ) → Again written_depth d (item d d) IsWritten NoElse
item_again d x ts rest w h o = item_within d d (omega arith) x ts rest w h (closed x rest o)
