-- Statements that hold vectors, as contracts see them.
use Rattle.std.specs.Prelude.{ℕ, zero, suc, ◌+◌, ◌-◌, Bool, true, false, Option, ◌&&◌, ◌≤◌, ◌<◌, List, [], ◌∷◌, length, drop, get_or, map, nat_le, Vec}
use Rattle.std.specs.declared.alloc.Global.{Global}
use Rattle.std.proofs.Common.{◌≡◌, ◌∙◌, ap, sym, refl, arith}
use Rattle.rtl_tree.specs.declared.tree.expr.Expr.{Expr}
use Rattle.rtl_tree.specs.declared.tree.names.Name.{Name}
use Rattle.rtl_tree.specs.declared.tree.stmt.CaseKind.{CaseKind}
use Rattle.rtl_tree.specs.declared.tree.stmt.CaseItem.{CaseItem}
use Rattle.rtl_tree.specs.declared.tree.stmt.Stmt.{Stmt}
use Rattle.rtl_tree.specs.declared.tree.stmt.Stmt.TheVariants as stmt
use Rattle.rtl_tree.specs.TreeExpr.{formula}
use Rattle.rtl_tree.specs.TreeStmt.{action, action_row, branch, branch_row}
use Rattle.text_grammar.specs.GrammarStmt.{defaults}
use Rattle.text_grammar.specs.GrammarGate.{is_named}
use Rattle.rtl_tree.specs.declared.symbol.Terminal as code
use Rattle.rtl_tree.specs.Symbols.{terminal}
use Rattle.rtl_tree.proofs.TreeViews.{case_is, block_is}
use Rattle.text_build.specs.Ordinary.{is_ordinary_in}
use Rattle.text_build.specs.Tests.{has_item, is_proper, are_proper, are_proper_branches, are_terminals}

pub proper_case : (at : ℕ) (kind : CaseKind) (full parallel : Bool) (selector : Expr) (items : Vec CaseItem Global) (s : Stmt) → s ≡ stmt.Case at kind full parallel selector items
    → is_proper (action s) ≡ ((has_item (branch_row (map branch items.items)) && nat_le (defaults (branch_row (map branch items.items))) 1) && are_proper_branches (branch_row (map branch items.items)))
proper_case at kind full parallel selector items s is =
    ap (λ s. is_proper (action s)) is ∙ ap is_proper (case_is at kind full parallel selector items)

pub proper_block : (at : ℕ) (label : Option Name) (body : Vec Stmt Global) (s : Stmt) → s ≡ stmt.Block at label body → is_proper (action s) ≡ are_proper (action_row (map action body.items))
proper_block at label body s is =
    ap (λ s. is_proper (action s)) is ∙ ap is_proper (block_is at label body)

-- a row of at least one item
pub some_item : (items : List CaseItem) → 1 ≤ length items → has_item (branch_row (map branch items)) ≡ true
some_item [] l = absurd (omega (arith, l))
some_item (item ∷ items) l = refl

-- where no token more may come, and one does
pub none_left : (tokens : List code.Terminal) (index left : ℕ) → left ≡ 0 → index < length tokens → is_ordinary_in left (map terminal (drop index tokens)) ≡ false
none_left [] index left e l = absurd (omega (arith, l))
none_left (t ∷ tokens) zero zero e l = refl
none_left (t ∷ tokens) zero (suc left) e l = absurd (omega (arith, e))
none_left (t ∷ tokens) (suc index) left e l = none_left tokens index left e (omega (arith, l))

-- ---- terminals

-- the last terminal may be anything
pub last_left : (es : List Expr) (k : ℕ) → length es ≤ k + 1 → are_terminals true (map formula (drop k es)) ≡ true
last_left [] zero l = refl
last_left [] (suc k) l = refl
last_left (e ∷ []) zero l = refl
last_left (e ∷ f ∷ es) zero l = absurd (omega (arith, l))
last_left (e ∷ es) (suc k) l = last_left es k (omega (arith, l))

-- one that isn't the last, and the others
one_passed : (es : List Expr) (k : ℕ) (d : Expr) (o : Bool) → k + 1 < length es → is_named (formula (get_or es k d)) ≡ o
    → are_terminals true (map formula (drop k es)) ≡ (o && are_terminals true (map formula (drop (suc k) es)))
one_passed [] k d o l h = absurd (omega (arith, l))
one_passed (e ∷ []) k d o l h = absurd (omega (arith, l))
one_passed (e ∷ f ∷ es) zero d o l h = ap (λ b. b && are_terminals true (map formula (f ∷ es))) h
one_passed (e ∷ f ∷ es) (suc k) d o l h = one_passed (f ∷ es) k d o (omega (arith, l)) h

pub no_output : (es : List Expr) (i : ℕ) (e : Expr) → 1 ≤ i → i < length es → e ≡ get_or es (i - 1) e → is_named (formula e) ≡ false → are_terminals true (map formula (drop (i - 1) es)) ≡ false
no_output es i e m l q h = one_passed es (i - 1) e false (omega (arith, m, l)) (ap (λ x. is_named (formula x)) (sym q) ∙ h)

pub an_output : (es : List Expr) (i : ℕ) (e : Expr) → 1 ≤ i → i < length es → e ≡ get_or es (i - 1) e → is_named (formula e) ≡ true
    → are_terminals true (map formula (drop (i + 1 - 1) es)) ≡ are_terminals true (map formula (drop (i - 1) es))
an_output es i e m l q h =
    let n : i + 1 - 1 ≡ suc (i - 1) = omega (arith, m) in
    ap (λ k. are_terminals true (map formula (drop k es))) n ∙ sym (one_passed es (i - 1) e true (omega (arith, m, l)) (ap (λ x. is_named (formula x)) (sym q) ∙ h))
