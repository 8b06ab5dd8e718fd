-- What is spelled is read: the items of a module.
use Rattle.std.proofs.Common.{◌≡◌, ℕ, ◌≤◌, Bool, true, false, List, [], ◌∷◌, length, Option, Some, refl, ap, ◌∙◌, arith}
use Rattle.rtl_tree.specs.declared.symbol.Symbol.{Symbol}
use Rattle.rtl_tree.specs.declared.symbol.Symbol.TheVariants as symbol
use Rattle.rtl_tree.specs.declared.tree.item.Direction.{Direction}
use Rattle.rtl_tree.specs.declared.tree.item.Direction.TheVariants as direction
use Rattle.rtl_tree.specs.declared.tree.item.ParameterKind.{ParameterKind}
use Rattle.rtl_tree.specs.declared.tree.item.ParameterKind.TheVariants as parameter
use Rattle.rtl_tree.specs.Symbols.{Terminal}
use Rattle.rtl_tree.specs.TreeExpr.{Identifier, Bounds}
use Rattle.rtl_tree.specs.TreeStmt.{Pause, Action}
use Rattle.rtl_tree.specs.TreeItem.{Head, Net, Variable, Valuation, Drive, Sensitivity, Association, Instantiation, ModuleItem, Ports, Nets, Variables, Integers, Parameters, Drives, Gates, Always, Instances}
use Rattle.text_grammar.specs.Depth.{item_depth}
use Rattle.text_grammar.specs.Grammar.{Spelling, IsA, IsAt, IsName, IsOptional, AreListed}
use Rattle.text_grammar.specs.GrammarExpr.{IsBounds}
use Rattle.text_grammar.specs.GrammarWritten.{item_ends_open}
use Rattle.text_grammar.specs.GrammarItem.{direction_symbol, IsKind, IsHead, IsNet, IsVariable, parameter_symbol, IsValuation, IsDrive, IsInstantiation, IsItem}
use Rattle.text_build.specs.Reading.{and_then, ◌>>=◌, ◌>>◌, pure, same_symbol, starts, name, advance, mark, optional, listed}
use Rattle.text_build.specs.ReadingExpr.{climb}
use Rattle.text_build.specs.ReadingStmt.{pause, statement}
use Rattle.text_build.specs.ReadingItem.{any_expression, range, flag, port_head, ports, net, nets, variable, variables, integers, valuation, parameters, drive, drives, sensitivity, always, instantiation, overrides, instances, item_by, item_after}
use Rattle.text_build.proofs.Laws.Tokens.{at_is, name_is, mark_then, advance_at, symbol_is, name_again, bind}
use Rattle.text_build.proofs.Laws.Repeats.{Shrinks, Consumes}
use Rattle.text_build.proofs.Laws.Follows.{Opens, opens_by, opens_not}
use Rattle.text_build.proofs.Laws.Chains.{expression_again}
use Rattle.text_build.proofs.Laws.Targets.{is_target, target_opens, optional_pause, optional_shorter}
use Rattle.text_build.proofs.Laws.Openings.{statement_shorter}
use Rattle.text_build.proofs.Laws.Statements.{Closed}
use Rattle.text_build.proofs.Laws.Blocks.{statement_again}
use Rattle.text_build.proofs.Laws.Heads.{is_name, is_range_or_name, is_direction, wider, name_opens, range_opens, range_again, flag_again, head_again, head_opens}
use Rattle.text_build.proofs.Laws.Lists.{names_again, nets_again, nets_shrink, variables_again, variables_shrink, valuations_again, valuations_shrink, drives_again, drives_shrink, listed_shrinks, optional_shrinks, flag_shrinks, name_shrinks, bounds_shrinks}
use Rattle.text_build.proofs.Laws.Events.{sensitivity_again, sensitivity_shrinks}
use Rattle.text_build.proofs.Laws.Arguments.{instantiations_again, instantiations_shrink, overrides_again, overrides_shrink}

-- how the first of a list begins
pub first_opens : {A : Type 0} (Is : A → Spelling) (test : Symbol → Bool) → ((x : A) (ts rest : List Terminal) → Is x ts rest → Opens test ts) → (xs : List A) (ts rest : List Terminal) → AreListed Is xs ts rest → Opens test ts
first_opens Is test f [] ts rest w = absurd w
first_opens Is test f (x ∷ xs) ts rest w = f x ts w.0 w.1

names_open : (ns : List Identifier) (ts rest : List Terminal) → AreListed IsName ns ts rest → Opens is_name ts
names_open ns ts rest w = first_opens IsName is_name name_opens ns ts rest w

nets_open : (xs : List Net) (ts rest : List Terminal) → AreListed IsNet xs ts rest → Opens is_name ts
nets_open xs ts rest w = first_opens IsNet is_name (λ x us vs m. name_opens x.name us m.0 m.1) xs ts rest w

variables_open : (xs : List Variable) (ts rest : List Terminal) → AreListed IsVariable xs ts rest → Opens is_name ts
variables_open xs ts rest w = first_opens IsVariable is_name (λ x us vs m. name_opens x.name us m.0 m.1) xs ts rest w

valuations_open : (xs : List Valuation) (ts rest : List Terminal) → AreListed IsValuation xs ts rest → Opens is_name ts
valuations_open xs ts rest w = first_opens IsValuation is_name (λ x us vs m. name_opens x.name us m.0 m.1) xs ts rest w

instantiations_open : (xs : List Instantiation) (ts rest : List Terminal) → AreListed IsInstantiation xs ts rest → Opens is_name ts
instantiations_open xs ts rest w = first_opens IsInstantiation is_name (λ x us vs m. name_opens x.name us m.0 m.1) xs ts rest w

drives_open : (xs : List Drive) (ts rest : List Terminal) → AreListed IsDrive xs ts rest → Opens is_target ts
drives_open xs ts rest w = first_opens IsDrive is_target (λ x us vs m. target_opens x.target us m.0 m.1) xs ts rest w

-- ---- declarations

ports_item : (d : ℕ) (h : Head) (ns : List Identifier) (ts rest : List Terminal) → IsItem (Ports h ns) ts rest → item_depth (Ports h ns) ≤ d → ports d ts ≡ Some (Ports h ns, rest)
unfolding ports same_symbol
ports_item d h ns ts rest w k =
    let a = w.2 in
    bind (port_head d ts) (λ h. listed name >>= (λ names. mark symbol.Semicolon >> pure (Ports h names))) h w.0 (head_again d h ts w.0 w.1 k (names_open ns w.0 a.0 a.1))
    ∙ bind (listed name w.0) (λ names. mark symbol.Semicolon >> pure (Ports h names)) ns a.0 (names_again symbol.Semicolon ns w.0 a.0 rest a.1 a.2 refl)
    ∙ mark_then symbol.Semicolon (pure (Ports h ns)) a.0 rest a.2

no_sign : (b : Option Bounds) (ts rest : List Terminal) → IsOptional IsBounds b ts rest → Opens is_name rest → starts symbol.Signed ts ≡ false
no_sign b ts rest w o = opens_not is_range_or_name symbol.Signed ts refl (range_opens b ts rest w o)

nets_item : (d at : ℕ) (s : Bool) (b : Option Bounds) (xs : List Net) (ts rest : List Terminal) → IsItem (Nets at s b xs) ts rest → item_depth (Nets at s b xs) ≤ d → nets d ts ≡ Some (Nets at s b xs, rest)
unfolding nets
nets_item d at s b xs ts rest w k =
    let a = w.2 in
    let c = a.2 in
    let e = c.2 in
    let o = nets_open xs c.0 e.0 e.1 in
    bind (advance ts) (λ at. flag symbol.Signed >>= (λ s. range d >>= (λ b. listed (net d) >>= (λ all. mark symbol.Semicolon >> pure (Nets at s b all))))) at w.0 (advance_at symbol.Wire at ts w.0 w.1)
    ∙ bind (flag symbol.Signed w.0) (λ s. range d >>= (λ b. listed (net d) >>= (λ all. mark symbol.Semicolon >> pure (Nets at s b all)))) s a.0 (flag_again symbol.Signed s w.0 a.0 a.1 (no_sign b a.0 c.0 c.1 o))
    ∙ bind (range d a.0) (λ b. listed (net d) >>= (λ all. mark symbol.Semicolon >> pure (Nets at s b all))) b c.0 (range_again d b a.0 c.0 c.1 (omega (arith, k)) o)
    ∙ bind (listed (net d) c.0) (λ all. mark symbol.Semicolon >> pure (Nets at s b all)) xs e.0 (nets_again d xs c.0 e.0 rest e.1 (omega (arith, k)) e.2)
    ∙ mark_then symbol.Semicolon (pure (Nets at s b xs)) e.0 rest e.2

variables_item : (d at : ℕ) (s : Bool) (b : Option Bounds) (xs : List Variable) (ts rest : List Terminal) → IsItem (Variables at s b xs) ts rest → item_depth (Variables at s b xs) ≤ d
    → variables d ts ≡ Some (Variables at s b xs, rest)
unfolding variables
variables_item d at s b xs ts rest w k =
    let a = w.2 in
    let c = a.2 in
    let e = c.2 in
    let o = variables_open xs c.0 e.0 e.1 in
    bind (advance ts) (λ at. flag symbol.Signed >>= (λ s. range d >>= (λ b. listed variable >>= (λ all. mark symbol.Semicolon >> pure (Variables at s b all))))) at w.0 (advance_at symbol.Reg at ts w.0 w.1)
    ∙ bind (flag symbol.Signed w.0) (λ s. range d >>= (λ b. listed variable >>= (λ all. mark symbol.Semicolon >> pure (Variables at s b all)))) s a.0 (flag_again symbol.Signed s w.0 a.0 a.1 (no_sign b a.0 c.0 c.1 o))
    ∙ bind (range d a.0) (λ b. listed variable >>= (λ all. mark symbol.Semicolon >> pure (Variables at s b all))) b c.0 (range_again d b a.0 c.0 c.1 k o)
    ∙ bind (listed variable c.0) (λ all. mark symbol.Semicolon >> pure (Variables at s b all)) xs e.0 (variables_again xs c.0 e.0 rest e.1 e.2)
    ∙ mark_then symbol.Semicolon (pure (Variables at s b xs)) e.0 rest e.2

integers_item : (at : ℕ) (ns : List Identifier) (ts rest : List Terminal) → IsItem (Integers at ns) ts rest → integers ts ≡ Some (Integers at ns, rest)
unfolding integers same_symbol
integers_item at ns ts rest w =
    let a = w.2 in
    bind (advance ts) (λ at. listed name >>= (λ names. mark symbol.Semicolon >> pure (Integers at names))) at w.0 (advance_at symbol.Integer at ts w.0 w.1)
    ∙ bind (listed name w.0) (λ names. mark symbol.Semicolon >> pure (Integers at names)) ns a.0 (names_again symbol.Semicolon ns w.0 a.0 rest a.1 a.2 refl)
    ∙ mark_then symbol.Semicolon (pure (Integers at ns)) a.0 rest a.2

parameters_item : (d at : ℕ) (q : ParameterKind) (b : Option Bounds) (xs : List Valuation) (ts rest : List Terminal) → IsItem (Parameters at q b xs) ts rest → item_depth (Parameters at q b xs) ≤ d
    → parameters d q ts ≡ Some (Parameters at q b xs, rest)
unfolding parameters
parameters_item d at q b xs ts rest w k =
    let a = w.2 in
    let c = a.2 in
    bind (advance ts) (λ at. range d >>= (λ b. listed (valuation d) >>= (λ all. mark symbol.Semicolon >> pure (Parameters at q b all)))) at w.0 (advance_at (parameter_symbol q) at ts w.0 w.1)
    ∙ bind (range d w.0) (λ b. listed (valuation d) >>= (λ all. mark symbol.Semicolon >> pure (Parameters at q b all))) b a.0 (range_again d b w.0 a.0 a.1 (omega (arith, k)) (valuations_open xs a.0 c.0 c.1))
    ∙ bind (listed (valuation d) a.0) (λ all. mark symbol.Semicolon >> pure (Parameters at q b all)) xs c.0 (valuations_again d xs a.0 c.0 rest c.1 (omega (arith, k)) c.2)
    ∙ mark_then symbol.Semicolon (pure (Parameters at q b xs)) c.0 rest c.2

drives_item : (d at : ℕ) (p : Option Pause) (xs : List Drive) (ts rest : List Terminal) → IsItem (Drives at p xs) ts rest → item_depth (Drives at p xs) ≤ d → drives d ts ≡ Some (Drives at p xs, rest)
unfolding drives any_expression
drives_item d at p xs ts rest w k =
    let a = w.2 in
    let c = a.2 in
    bind (advance ts) (λ at. optional symbol.Hash (pause (climb d 12)) >>= (λ p. listed (drive d) >>= (λ all. mark symbol.Semicolon >> pure (Drives at p all)))) at w.0 (advance_at symbol.Assign at ts w.0 w.1)
    ∙ bind (optional symbol.Hash (pause (climb d 12)) w.0) (λ p. listed (drive d) >>= (λ all. mark symbol.Semicolon >> pure (Drives at p all))) p a.0
    (optional_pause d (climb d 12) (expression_again d) p w.0 a.0 a.1 (omega (arith, k)) (opens_not is_target symbol.Hash a.0 refl (drives_open xs a.0 c.0 c.1)))
    ∙ bind (listed (drive d) a.0) (λ all. mark symbol.Semicolon >> pure (Drives at p all)) xs c.0 (drives_again d xs a.0 c.0 rest c.1 (omega (arith, k)) c.2)
    ∙ mark_then symbol.Semicolon (pure (Drives at p xs)) c.0 rest c.2

always_item : (d at : ℕ) (s : Sensitivity) (body : Action) (ts rest : List Terminal) → IsItem (Always at s body) ts rest → item_depth (Always at s body) ≤ d → Closed body rest → always d ts ≡ Some (Always at s body, rest)
unfolding always
always_item d at s body ts rest w k o =
    let a = w.2 in
    let c = a.2 in
    bind (advance ts) (λ at. mark symbol.At >> sensitivity d >>= (λ w. statement d >>= (λ body. pure (Always at w body)))) at w.0 (advance_at symbol.Always at ts w.0 w.1)
    ∙ ap (λ q. and_then q (λ w. statement d >>= (λ body. pure (Always at w body)))) (mark_then symbol.At (sensitivity d) w.0 a.0 a.1 ∙ sensitivity_again d s a.0 c.0 c.1 (omega (arith, k)))
    ∙ bind (statement d c.0) (λ body. pure (Always at s body)) body rest (statement_again d body c.0 rest c.2 (omega (arith, k)) o)

instances_item : (d : ℕ) (n : Identifier) (ps : Association) (xs : List Instantiation) (ts rest : List Terminal) → IsItem (Instances n ps xs) ts rest → item_depth (Instances n ps xs) ≤ d
    → instances d ts ≡ Some (Instances n ps xs, rest)
unfolding instances
instances_item d n ps xs ts rest w k =
    let a = w.2 in
    let c = a.2 in
    bind (name ts) (λ child. overrides d >>= (λ ps. listed (instantiation d) >>= (λ all. mark symbol.Semicolon >> pure (Instances child ps all)))) n w.0 (name_again n ts w.0 w.1)
    ∙ bind (overrides d w.0) (λ ps. listed (instantiation d) >>= (λ all. mark symbol.Semicolon >> pure (Instances n ps all))) ps a.0
    (overrides_again d ps w.0 a.0 a.1 (omega (arith, k)) (opens_not is_name symbol.Hash a.0 refl (instantiations_open xs a.0 c.0 c.1)))
    ∙ bind (listed (instantiation d) a.0) (λ all. mark symbol.Semicolon >> pure (Instances n ps all)) xs c.0 (instantiations_again d xs a.0 c.0 rest c.1 (omega (arith, k)) c.2)
    ∙ mark_then symbol.Semicolon (pure (Instances n ps xs)) c.0 rest c.2

-- ---- any item

from : (d : ℕ) (s : Symbol) (ts rest : List Terminal) → IsA s ts rest → item_after d ts ≡ item_by d (Some s) ts
unfolding item_after
from d s ts rest w = ap (λ o. item_by d o ts) (symbol_is s ts rest w.0 w.1 w.2)

from_head : (d : ℕ) (o : Direction) (at : ℕ) (ts rest : List Terminal) → IsAt (direction_symbol o) at ts rest → item_after d ts ≡ ports d ts
from_head d direction.Input at ts rest w = from d symbol.Input ts rest (at_is symbol.Input at ts rest w)
from_head d direction.Output at ts rest w = from d symbol.Output ts rest (at_is symbol.Output at ts rest w)

-- an `else` that comes next belongs to no `if` that the item ends in
abbrev pub ClosedItem : ModuleItem → List Terminal → Type 0
ClosedItem i rest = starts symbol.Else rest ≡ true → item_ends_open i ≡ false

pub after_again : (d : ℕ) (i : ModuleItem) (ts rest : List Terminal) → IsItem i ts rest → item_depth i ≤ d → ClosedItem i rest → item_after d ts ≡ Some (i, rest)
after_again d (Ports h ns) ts rest w k o = let v = w.1 in from_head d h.direction h.at ts v.0 v.1 ∙ ports_item d h ns ts rest w k
after_again d (Nets at s b xs) ts rest w k o = from d symbol.Wire ts w.0 (at_is symbol.Wire at ts w.0 w.1) ∙ nets_item d at s b xs ts rest w k
after_again d (Variables at s b xs) ts rest w k o = from d symbol.Reg ts w.0 (at_is symbol.Reg at ts w.0 w.1) ∙ variables_item d at s b xs ts rest w k
after_again d (Integers at ns) ts rest w k o = from d symbol.Integer ts w.0 (at_is symbol.Integer at ts w.0 w.1) ∙ integers_item at ns ts rest w
after_again d (Parameters at parameter.Parameter b xs) ts rest w k o =
    from d symbol.Parameter ts w.0 (at_is symbol.Parameter at ts w.0 w.1) ∙ parameters_item d at parameter.Parameter b xs ts rest w k
after_again d (Parameters at parameter.Local b xs) ts rest w k o =
    from d symbol.Localparam ts w.0 (at_is symbol.Localparam at ts w.0 w.1) ∙ parameters_item d at parameter.Local b xs ts rest w k
after_again d (Drives at p xs) ts rest w k o = from d symbol.Assign ts w.0 (at_is symbol.Assign at ts w.0 w.1) ∙ drives_item d at p xs ts rest w k
after_again d (Gates at ns p xs) ts rest w k o = absurd w
after_again d (Always at s body) ts rest w k o = from d symbol.Always ts w.0 (at_is symbol.Always at ts w.0 w.1) ∙ always_item d at s body ts rest w k o
after_again d (Instances n ps xs) ts rest w k o = from d symbol.Name ts w.0 (name_is n ts w.0 w.1) ∙ instances_item d n ps xs ts rest w k

-- the symbols that an item may begin with after its attributes
abbrev pub is_item : Symbol → Bool
is_item symbol.Input = true
is_item symbol.Output = true
is_item symbol.Wire = true
is_item symbol.Reg = true
is_item symbol.Integer = true
is_item symbol.Parameter = true
is_item symbol.Localparam = true
is_item symbol.Assign = true
is_item symbol.Always = true
is_item symbol.Name = true
is_item s = false

direction_item : (s : Symbol) → is_direction s ≡ true → is_item s ≡ true
direction_item symbol.Input h = refl
direction_item symbol.Output h = refl
direction_item s h = absurd (cc)

pub item_opens : (i : ModuleItem) (ts rest : List Terminal) → IsItem i ts rest → Opens is_item ts
item_opens (Ports h ns) ts rest w = wider is_direction is_item direction_item ts (head_opens h ts w.0 w.1)
item_opens (Nets at s b xs) ts rest w = let v = w.1 in opens_by is_item symbol.Wire ts w.0 v.0 v.1 v.2.0 refl
item_opens (Variables at s b xs) ts rest w = let v = w.1 in opens_by is_item symbol.Reg ts w.0 v.0 v.1 v.2.0 refl
item_opens (Integers at ns) ts rest w = let v = w.1 in opens_by is_item symbol.Integer ts w.0 v.0 v.1 v.2.0 refl
item_opens (Parameters at parameter.Parameter b xs) ts rest w = let v = w.1 in opens_by is_item symbol.Parameter ts w.0 v.0 v.1 v.2.0 refl
item_opens (Parameters at parameter.Local b xs) ts rest w = let v = w.1 in opens_by is_item symbol.Localparam ts w.0 v.0 v.1 v.2.0 refl
item_opens (Drives at p xs) ts rest w = let v = w.1 in opens_by is_item symbol.Assign ts w.0 v.0 v.1 v.2.0 refl
item_opens (Gates at ns p xs) ts rest w = absurd w
item_opens (Always at s body) ts rest w = let v = w.1 in opens_by is_item symbol.Always ts w.0 v.0 v.1 v.2.0 refl
item_opens (Instances n ps xs) ts rest w = let v = w.1 in opens_by is_item symbol.Name ts w.0 v.0 v.1 v.2.0 refl

bounds_shrink : (b : Option Bounds) → Shrinks (IsOptional IsBounds b)
bounds_shrink b ts rest w = optional_shrinks IsBounds bounds_shrinks b ts rest w

head_shorter : (h : Head) → Consumes (IsHead h)
head_shorter h ts rest w =
    let a = w.2 in let b = a.2 in let c = b.2 in
    omega (arith, ap length w.1.1, optional_shrinks IsKind (λ x us vs m. omega (arith, ap length m.1)) h.kind w.0 a.0 a.1, flag_shrinks symbol.Signed h.signed a.0 b.0 b.1, bounds_shrink h.bounds b.0 rest c)

pub item_shorter : (i : ModuleItem) → Consumes (IsItem i)
item_shorter (Ports h ns) ts rest w = let a = w.2 in omega (arith, head_shorter h ts w.0 w.1, listed_shrinks IsName name_shrinks ns w.0 a.0 a.1, ap length a.2.1)
item_shorter (Nets at s b xs) ts rest w =
    let a = w.2 in let c = a.2 in let e = c.2 in
    omega (arith, ap length w.1.1, flag_shrinks symbol.Signed s w.0 a.0 a.1, bounds_shrink b a.0 c.0 c.1, nets_shrink xs c.0 e.0 e.1, ap length e.2.1)
item_shorter (Variables at s b xs) ts rest w =
    let a = w.2 in let c = a.2 in let e = c.2 in
    omega (arith, ap length w.1.1, flag_shrinks symbol.Signed s w.0 a.0 a.1, bounds_shrink b a.0 c.0 c.1, variables_shrink xs c.0 e.0 e.1, ap length e.2.1)
item_shorter (Integers at ns) ts rest w = let a = w.2 in omega (arith, ap length w.1.1, listed_shrinks IsName name_shrinks ns w.0 a.0 a.1, ap length a.2.1)
item_shorter (Parameters at q b xs) ts rest w =
    let a = w.2 in let c = a.2 in omega (arith, ap length w.1.1, bounds_shrink b w.0 a.0 a.1, valuations_shrink xs a.0 c.0 c.1, ap length c.2.1)
item_shorter (Drives at p xs) ts rest w =
    let a = w.2 in let c = a.2 in omega (arith, ap length w.1.1, optional_shorter p w.0 a.0 a.1, drives_shrink xs a.0 c.0 c.1, ap length c.2.1)
item_shorter (Gates at ns p xs) ts rest w = absurd w
item_shorter (Always at s body) ts rest w =
    let a = w.2 in let c = a.2 in omega (arith, ap length w.1.1, ap length a.1.1, sensitivity_shrinks s a.0 c.0 c.1, statement_shorter body c.0 rest c.2)
item_shorter (Instances n ps xs) ts rest w =
    let a = w.2 in let c = a.2 in omega (arith, ap length w.1.1, overrides_shrink ps w.0 a.0 a.1, instantiations_shrink xs a.0 c.0 c.1, ap length c.2.1)

pub head_shrinks : (h : Head) → Shrinks (IsHead h)
head_shrinks h ts rest w = let l = head_shorter h ts rest w in omega (arith, l)
