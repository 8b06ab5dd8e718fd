-- What is spelled is read: ranges, flags and heads of declarations.
use Rattle.std.proofs.Common.{◌≡◌, ℕ, ◌≤◌, ◌<◌, Bool, true, false, List, length, Option, Some, None, refl, sym, ap, subst, ◌∙◌, arith}
use Rattle.rtl_tree.specs.declared.symbol.Symbol.{Symbol}
use Rattle.rtl_tree.specs.declared.symbol.Symbol.TheVariants as symbol
use Rattle.rtl_tree.specs.declared.tree.item.Direction.{Direction}
use Rattle.rtl_tree.specs.declared.tree.item.Direction.TheVariants as direction
use Rattle.rtl_tree.specs.declared.tree.item.PortKind.{PortKind}
use Rattle.rtl_tree.specs.declared.tree.item.PortKind.TheVariants as kind
use Rattle.rtl_tree.specs.Symbols.{Terminal}
use Rattle.rtl_tree.specs.TreeExpr.{Formula, Identifier, Bounds}
use Rattle.rtl_tree.specs.TreeItem.{Head}
use Rattle.text_grammar.specs.Depth.{formula_depth, bounds_depth, head_depth, if_any}
use Rattle.text_grammar.specs.Grammar.{IsAt, IsName, IsOptional, IsFlag}
use Rattle.text_grammar.specs.GrammarExpr.{IsBounds}
use Rattle.text_grammar.specs.GrammarItem.{direction_symbol, IsKind, IsHead, IsValue}
use Rattle.text_build.specs.Reading.{pure, symbol_at, starts, after, advance}
use Rattle.text_build.specs.ReadingExpr.{climb, bounds}
use Rattle.text_build.specs.ReadingItem.{any_expression, range, direction_by, direction_next, kind_by, port_kind, flag, port_head, value}
use Rattle.text_build.proofs.Laws.Tokens.{advance_at, advance_then, mark_then, starts_is, after_is, after_not, symbol_is, bind, optional_there, optional_absent}
use Rattle.text_build.proofs.Laws.Follows.{Stops, Opens, opens_by, opens_not, formula_shorter}
use Rattle.text_build.proofs.Laws.Chains.{expression_again, bounds_again}

-- ---- what may come after the parts of a head

abbrev pub is_name : Symbol → Bool
is_name symbol.Name = true
is_name s = false

abbrev pub is_range_or_name : Symbol → Bool
is_range_or_name symbol.OpenBracket = true
is_range_or_name s = is_name s

abbrev pub is_sign_or_range_or_name : Symbol → Bool
is_sign_or_range_or_name symbol.Signed = true
is_sign_or_range_or_name s = is_range_or_name s

name_range : (s : Symbol) → is_name s ≡ true → is_range_or_name s ≡ true
name_range symbol.Name h = refl
name_range s h = absurd (cc)

range_sign : (s : Symbol) → is_range_or_name s ≡ true → is_sign_or_range_or_name s ≡ true
range_sign symbol.OpenBracket h = refl
range_sign symbol.Name h = refl
range_sign s h = absurd (cc)

pub wider : (p q : Symbol → Bool) → ((s : Symbol) → p s ≡ true → q s ≡ true) → (ts : List Terminal) → Opens p ts → Opens q ts
wider p q f ts o = record { first = o.first; others = o.others; is = o.is; passes = f o.first.symbol o.passes }

pub name_opens : (n : Identifier) (ts rest : List Terminal) → IsName n ts rest → Opens is_name ts
name_opens n ts rest w = opens_by is_name symbol.Name ts rest w.0 w.1 w.2.0 refl

opens_same : (p : Symbol → Bool) (ts rest : List Terminal) → ts ≡ rest → Opens p rest → Opens p ts
opens_same p ts rest e o = subst (Opens p) (sym e) o

pub range_opens : (b : Option Bounds) (ts rest : List Terminal) → IsOptional IsBounds b ts rest → Opens is_name rest → Opens is_range_or_name ts
range_opens None ts rest w o = opens_same is_range_or_name ts rest w (wider is_name is_range_or_name name_range rest o)
range_opens (Some b) ts rest w o = let v = w.1 in opens_by is_range_or_name symbol.OpenBracket ts w.0 v.0 v.1 v.2.0 refl

pub sign_opens : (s : Bool) (ts rest : List Terminal) → IsFlag symbol.Signed s ts rest → Opens is_range_or_name rest → Opens is_sign_or_range_or_name ts
sign_opens false ts rest w o = opens_same is_sign_or_range_or_name ts rest w (wider is_range_or_name is_sign_or_range_or_name range_sign rest o)
sign_opens true ts rest w o = opens_by is_sign_or_range_or_name symbol.Signed ts rest w.0 w.1 w.2 refl

-- ---- ranges and words that may be left out

pub range_again : (d : ℕ) (b : Option Bounds) (ts rest : List Terminal) → IsOptional IsBounds b ts rest → if_any bounds_depth b ≤ d → Opens is_name rest → range d ts ≡ Some (b, rest)
unfolding range any_expression
range_again d None ts rest w h o =
    optional_absent symbol.OpenBracket (bounds (climb d 12)) ts (ap (starts symbol.OpenBracket) w ∙ opens_not is_name symbol.OpenBracket rest refl o) ∙ ap (λ x. Some (None, x)) w
range_again d (Some b) ts rest w h o =
    let v = w.1 in
    optional_there symbol.OpenBracket (bounds (climb d 12)) b ts rest (starts_is symbol.OpenBracket ts w.0 v.0 v.1 v.2.0) (bounds_again d (climb d 12) (expression_again d) b ts rest w h)

pub flag_again : (s : Symbol) (b : Bool) (ts rest : List Terminal) → IsFlag s b ts rest → starts s rest ≡ false → flag s ts ≡ Some (b, rest)
unfolding flag
flag_again s false ts rest w h =
    let e = ap (starts s) w ∙ h in
    ap (λ b. Some (b, after s ts)) e ∙ ap (λ x. Some (false, x)) (after_not s ts e ∙ w)
flag_again s true ts rest w h =
    ap (λ b. Some (b, after s ts)) (starts_is s ts rest w.0 w.1 w.2) ∙ ap (λ x. Some (true, x)) (after_is s ts rest w.0 w.1 w.2)

no_kind : (s : Symbol) → is_sign_or_range_or_name s ≡ true → kind_by (Some s) ≡ pure None
no_kind symbol.Signed h = refl
no_kind symbol.OpenBracket h = refl
no_kind symbol.Name h = refl
no_kind s h = absurd (cc)

kind_again : (k : Option PortKind) (ts rest : List Terminal) → IsOptional IsKind k ts rest → Opens is_sign_or_range_or_name rest → port_kind ts ≡ Some (k, rest)
unfolding port_kind
kind_again None ts rest w o =
    ap (λ x. kind_by (symbol_at x) x) w
    ∙ ap (λ x. kind_by x rest) (symbol_is o.first.symbol rest o.others o.first o.is refl)
    ∙ ap (λ p. p rest) (no_kind o.first.symbol o.passes)
kind_again (Some kind.Wire) ts rest w o =
    ap (λ x. kind_by x ts) (symbol_is symbol.Wire ts rest w.0 w.1 w.2) ∙ advance_then symbol.Wire (pure (Some kind.Wire)) ts rest w
kind_again (Some kind.Reg) ts rest w o =
    ap (λ x. kind_by x ts) (symbol_is symbol.Reg ts rest w.0 w.1 w.2) ∙ advance_then symbol.Reg (pure (Some kind.Reg)) ts rest w

-- ---- heads of ports

direction_again : (way : Direction) (at : ℕ) (ts rest : List Terminal) → IsAt (direction_symbol way) at ts rest → direction_next ts ≡ Some (way, ts)
unfolding direction_next
direction_again direction.Input at ts rest w = ap (λ x. direction_by x ts) (symbol_is symbol.Input ts rest w.0 w.1 w.2.0)
direction_again direction.Output at ts rest w = ap (λ x. direction_by x ts) (symbol_is symbol.Output ts rest w.0 w.1 w.2.0)

pub head_again : (d : ℕ) (h : Head) (ts rest : List Terminal) → IsHead h ts rest → head_depth h ≤ d → Opens is_name rest → port_head d ts ≡ Some (h, rest)
unfolding port_head
head_again d h ts rest w deep o =
    let a = w.2 in
    let b = a.2 in
    let c = b.2 in
    let o1 = range_opens h.bounds b.0 rest c o in
    let o2 = sign_opens h.signed a.0 b.0 b.1 o1 in
    bind (direction_next ts) _ h.direction ts (direction_again h.direction h.at ts w.0 w.1)
    ∙ bind (advance ts) _ h.at w.0 (advance_at (direction_symbol h.direction) h.at ts w.0 w.1)
    ∙ bind (port_kind w.0) _ h.kind a.0 (kind_again h.kind w.0 a.0 a.1 o2)
    ∙ bind (flag symbol.Signed a.0) _ h.signed b.0 (flag_again symbol.Signed h.signed a.0 b.0 b.1 (opens_not is_range_or_name symbol.Signed b.0 refl o1))
    ∙ bind (range d b.0) _ h.bounds rest (range_again d h.bounds b.0 rest c deep o)

-- the words that a head begins with
abbrev pub is_direction : Symbol → Bool
is_direction symbol.Input = true
is_direction symbol.Output = true
is_direction s = false

direction_is : (way : Direction) → is_direction (direction_symbol way) ≡ true
direction_is direction.Input = refl
direction_is direction.Output = refl

pub head_opens : (h : Head) (ts rest : List Terminal) → IsHead h ts rest → Opens is_direction ts
head_opens h ts rest w = let v = w.1 in opens_by is_direction (direction_symbol h.direction) ts w.0 v.0 v.1 v.2.0 (direction_is h.direction)

-- ---- values

pub value_again : (d : ℕ) (f : Formula) (ts rest : List Terminal) → IsValue f ts rest → formula_depth f ≤ d → Stops 12 rest → value d ts ≡ Some (f, rest)
unfolding value any_expression
value_again d f ts rest w h s = mark_then symbol.Equals (climb d 12) ts w.0 w.1 ∙ expression_again d f w.0 rest w.2 h s

pub bounds_shorter : (b : Option Bounds) (ts rest : List Terminal) → IsOptional IsBounds b ts rest → length rest ≤ length ts
bounds_shorter None ts rest w = omega (arith, ap length w)
bounds_shorter (Some b) ts rest w =
    let a = w.2 in
    let c = a.2 in
    let e = c.2 in
    omega (arith, ap length w.1.1, formula_shorter 12 b.msb w.0 a.0 a.1, ap length c.1.1, formula_shorter 12 b.lsb c.0 e.0 e.1, ap length e.2.1)

pub value_shorter : (f : Formula) (ts rest : List Terminal) → IsValue f ts rest → length rest < length ts
value_shorter f ts rest w = omega (arith, ap length w.1.1, formula_shorter 12 f w.0 rest w.2)
