-- What is spelled is read: names, and lists in items.
use Rattle.std.proofs.Common.{◌≡◌, ℕ, ◌≤◌, Bool, true, false, List, [], ◌∷◌, length, Option, Some, None, refl, ap, ◌∙◌, arith}
use Rattle.rtl_tree.specs.declared.symbol.Symbol.{Symbol}
use Rattle.rtl_tree.specs.declared.symbol.Symbol.TheVariants as symbol
use Rattle.rtl_tree.specs.Symbols.{Terminal}
use Rattle.rtl_tree.specs.TreeExpr.{Identifier, Formula, Bounds}
use Rattle.rtl_tree.specs.TreeItem.{Net, Variable, Valuation, Drive}
use Rattle.text_grammar.specs.Depth.{greatest, if_any, formula_depth, net_depth, valuation_depth, drive_depth}
use Rattle.text_grammar.specs.Grammar.{Spelling, IsA, IsName, IsOptional, IsFlag, AreMore, AreListed}
use Rattle.text_grammar.specs.GrammarExpr.{IsExpression, IsBounds}
use Rattle.text_grammar.specs.GrammarItem.{IsValue, IsNet, IsInitial, IsVariable, IsValuation, IsDrive}
use Rattle.text_build.specs.Reading.{◌>>=◌, pure, same_symbol, starts, name, optional, listed}
use Rattle.text_build.specs.ReadingStmt.{past, after_value, target}
use Rattle.text_build.specs.ReadingItem.{any_expression, value, net, initial, variable, valuation, drive}
use Rattle.text_build.proofs.Laws.Tokens.{starts_is, starts_not, after_not, name_again, bind, optional_there, optional_absent}
use Rattle.text_build.proofs.Laws.Repeats.{Again, Shrinks, CommaEnds, listed_again}
use Rattle.text_build.proofs.Laws.Follows.{Stops, stop_stops, formula_shorter}
use Rattle.text_build.proofs.Laws.Chains.{expression_again}
use Rattle.text_build.proofs.Laws.Heads.{value_again}
use Rattle.text_build.proofs.Laws.Passes.{past_ends}
use Rattle.text_build.proofs.Laws.Attributes.{no_value, formula_passed}
use Rattle.text_build.proofs.Laws.Targets.{IsWhole, target_again, target_shorter}

-- a list ends before such a mark
pub ends_by : (Follows : List Terminal → Type 0) (s : Symbol) (ts rest : List Terminal) → Follows ts → same_symbol s symbol.Comma ≡ false → IsA s ts rest → CommaEnds Follows ts
ends_by Follows s ts rest f k w =
    let q = starts_not symbol.Comma s ts rest w.0 w.1 w.2 k in
    record { follows = f; stops = q; leaves = after_not symbol.Comma ts q; some = omega (arith, ap length w.1) }

pub no_depth : {A : Type 0} (xs : List A) (d : ℕ) → greatest (λ _. 0) xs ≤ d
no_depth [] d = omega arith
no_depth (x ∷ xs) d = omega (arith, no_depth xs d)

pub more_shrinks : {A : Type 0} (Is : A → Spelling) → ((x : A) → Shrinks (Is x)) → (xs : List A) → Shrinks (AreMore Is xs)
more_shrinks Is f [] ts rest w = omega (arith, ap length w)
more_shrinks Is f (x ∷ xs) ts rest w = let a = w.2 in omega (arith, ap length w.1.1, f x w.0 a.0 a.1, more_shrinks Is f xs a.0 rest a.2)

pub listed_shrinks : {A : Type 0} (Is : A → Spelling) → ((x : A) → Shrinks (Is x)) → (xs : List A) → Shrinks (AreListed Is xs)
listed_shrinks Is f [] ts rest w = absurd w
listed_shrinks Is f (x ∷ xs) ts rest w = omega (arith, f x ts w.0 w.1, more_shrinks Is f xs w.0 rest w.2)

pub optional_shrinks : {A : Type 0} (Is : A → Spelling) → ((x : A) → Shrinks (Is x)) → (o : Option A) → Shrinks (IsOptional Is o)
optional_shrinks Is f None ts rest w = omega (arith, ap length w)
optional_shrinks Is f (Some x) ts rest w = f x ts rest w

pub flag_shrinks : (s : Symbol) (o : Bool) → Shrinks (IsFlag s o)
flag_shrinks s false ts rest w = omega (arith, ap length w)
flag_shrinks s true ts rest w = omega (arith, ap length w.1)

pub name_shrinks : (n : Identifier) → Shrinks (IsName n)
name_shrinks n ts rest w = omega (arith, ap length w.1)

pub expression_shrinks : (f : Formula) → Shrinks (IsExpression f)
expression_shrinks f ts rest w = let l = formula_shorter 12 f ts rest w in omega (arith, l)

pub bounds_shrinks : (b : Bounds) → Shrinks (IsBounds b)
bounds_shrinks b ts rest w =
    let x = w.2 in let y = x.2 in let z = y.2 in
    omega (arith, ap length w.1.1, formula_shorter 12 b.msb w.0 x.0 x.1, ap length y.1.1, formula_shorter 12 b.lsb y.0 z.0 z.1, ap length z.2.1)

pub value_shrinks : (v : Formula) → Shrinks (IsValue v)
value_shrinks v ts rest w = omega (arith, ap length w.1.1, formula_shorter 12 v w.0 rest w.2)

-- ---- names

abbrev Anything : List Terminal → Type 0
Anything ts = Unit {0}

pub names_again : (s : Symbol) (ns : List Identifier) (ts mid rest : List Terminal) → AreListed IsName ns ts mid → IsA s mid rest → same_symbol s symbol.Comma ≡ false → listed name ts ≡ Some (ns, mid)
names_again s ns ts mid rest w m k =
    listed_again IsName Anything (λ _. 0) 0 name (λ x us vs v _ _. name_again x us vs v) name_shrinks (λ us vs v. tt) ns ts mid w (no_depth ns 0) (ends_by Anything s mid rest tt k m)

-- ---- values

pub any_again : (d : ℕ) (f : Formula) (ts rest : List Terminal) → IsExpression f ts rest → formula_depth f ≤ d → Stops 12 rest → any_expression d ts ≡ Some (f, rest)
unfolding any_expression
any_again d f ts rest w h s = expression_again d f ts rest w h s

-- what may follow a name with a value or without one
pub record Bare (ts : List Terminal) : Type 0 where
  pub stops : Stops 12 ts
  pub plain : starts symbol.Equals ts ≡ false
  pub ended : past 0 ts ≡ ts

pub bare_comma : (ts rest : List Terminal) → IsA symbol.Comma ts rest → Bare ts
unfolding same_symbol
bare_comma ts rest w =
    record { stops = stop_stops symbol.Comma ts rest refl w; plain = starts_not symbol.Equals symbol.Comma ts rest w.0 w.1 w.2 refl; ended = past_ends symbol.Comma ts rest w refl }

pub bare_semicolon : (ts rest : List Terminal) → IsA symbol.Semicolon ts rest → Bare ts
unfolding same_symbol
bare_semicolon ts rest w =
    record {
      stops = stop_stops symbol.Semicolon ts rest refl w;
      plain = starts_not symbol.Equals symbol.Semicolon ts rest w.0 w.1 w.2 refl;
      ended = past_ends symbol.Semicolon ts rest w refl;
    }

net_again : (d : ℕ) → Again net_depth d (net d) IsNet Bare
unfolding net
net_again d x ts rest w h s =
    bind (name ts) (λ n. optional symbol.Equals (value d) >>= (λ v. pure (record { name = n; value = v }))) x.name w.0 (name_again x.name ts w.0 w.1)
    ∙ bind (optional symbol.Equals (value d) w.0) (λ v. pure (record { name = x.name; value = v })) x.value rest (optional_value x.value w.0 rest w.2 h s)
  where
    optional_value : (v : Option Formula) (us vs : List Terminal) → IsOptional IsValue v us vs → if_any formula_depth v ≤ d → Bare vs → optional symbol.Equals (value d) us ≡ Some (v, vs)
    optional_value None us vs m k b = optional_absent symbol.Equals (value d) us (ap (starts symbol.Equals) m ∙ b.plain) ∙ ap (λ y. Some (None, y)) m
    optional_value (Some v) us vs m k b = optional_there symbol.Equals (value d) v us vs (starts_is symbol.Equals us m.0 m.1.0 m.1.1 m.1.2) (value_again d v us vs m k b.stops)

net_shrinks : (x : Net) → Shrinks (IsNet x)
net_shrinks x ts rest w = omega (arith, ap length w.1.1, optional_shrinks IsValue value_shrinks x.value w.0 rest w.2)

pub nets_again : (d : ℕ) (xs : List Net) (ts mid rest : List Terminal) → AreListed IsNet xs ts mid → greatest net_depth xs ≤ d → IsA symbol.Semicolon mid rest → listed (net d) ts ≡ Some (xs, mid)
unfolding same_symbol
nets_again d xs ts mid rest w h m =
    listed_again IsNet Bare net_depth d (net d) (net_again d) net_shrinks bare_comma xs ts mid w h (ends_by Bare symbol.Semicolon mid rest (bare_semicolon mid rest m) refl m)

pub nets_shrink : (xs : List Net) → Shrinks (AreListed IsNet xs)
nets_shrink xs ts rest w = listed_shrinks IsNet net_shrinks xs ts rest w

initial_again : (o : Bool) (ts rest : List Terminal) → IsInitial o ts rest → Bare rest → initial ts ≡ Some (o, rest)
unfolding initial
initial_again false ts rest w b =
    ap (λ x. Some (starts symbol.Equals x, after_value x)) w ∙ ap (λ x. Some (x, after_value rest)) b.plain ∙ ap (λ x. Some (false, x)) (no_value rest b.plain)
initial_again true ts rest w b =
    let v = w.1 in
    ap (λ x. Some (x, after_value ts)) (starts_is symbol.Equals ts v.0 v.1.0 v.1.1 v.1.2) ∙ ap (λ x. Some (true, x)) (formula_passed w.0 ts v.0 rest v.1 v.2 b.ended)

variable_again : Again (λ _. 0) 0 variable IsVariable Bare
unfolding variable
variable_again x ts rest w h s =
    bind (name ts) (λ n. initial >>= (λ i. pure (record { name = n; initial = i }))) x.name w.0 (name_again x.name ts w.0 w.1)
    ∙ bind (initial w.0) (λ i. pure (record { name = x.name; initial = i })) x.initial rest (initial_again x.initial w.0 rest w.2 s)

initial_shrinks : (o : Bool) → Shrinks (IsInitial o)
initial_shrinks false ts rest w = omega (arith, ap length w)
initial_shrinks true ts rest w = value_shrinks w.0 ts rest w.1

variable_shrinks : (x : Variable) → Shrinks (IsVariable x)
variable_shrinks x ts rest w = omega (arith, ap length w.1.1, initial_shrinks x.initial w.0 rest w.2)

pub variables_again : (xs : List Variable) (ts mid rest : List Terminal) → AreListed IsVariable xs ts mid → IsA symbol.Semicolon mid rest → listed variable ts ≡ Some (xs, mid)
unfolding same_symbol
variables_again xs ts mid rest w m =
    listed_again IsVariable Bare (λ _. 0) 0 variable variable_again variable_shrinks bare_comma xs ts mid w (no_depth xs 0) (ends_by Bare symbol.Semicolon mid rest (bare_semicolon mid rest m) refl m)

pub variables_shrink : (xs : List Variable) → Shrinks (AreListed IsVariable xs)
variables_shrink xs ts rest w = listed_shrinks IsVariable variable_shrinks xs ts rest w

valuation_again : (d : ℕ) → Again valuation_depth d (valuation d) IsValuation Bare
unfolding valuation
valuation_again d x ts rest w h s =
    bind (name ts) (λ n. value d >>= (λ v. pure (record { name = n; value = v }))) x.name w.0 (name_again x.name ts w.0 w.1)
    ∙ bind (value d w.0) (λ v. pure (record { name = x.name; value = v })) x.value rest (value_again d x.value w.0 rest w.2 h s.stops)

valuation_shrinks : (x : Valuation) → Shrinks (IsValuation x)
valuation_shrinks x ts rest w = omega (arith, ap length w.1.1, value_shrinks x.value w.0 rest w.2)

pub valuations_again : (d : ℕ) (xs : List Valuation) (ts mid rest : List Terminal) → AreListed IsValuation xs ts mid → greatest valuation_depth xs ≤ d → IsA symbol.Semicolon mid rest → listed (valuation d) ts ≡ Some (xs, mid)
unfolding same_symbol
valuations_again d xs ts mid rest w h m =
    listed_again IsValuation Bare valuation_depth d (valuation d) (valuation_again d) valuation_shrinks bare_comma xs ts mid w h (ends_by Bare symbol.Semicolon mid rest (bare_semicolon mid rest m) refl m)

pub valuations_shrink : (xs : List Valuation) → Shrinks (AreListed IsValuation xs)
valuations_shrink xs ts rest w = listed_shrinks IsValuation valuation_shrinks xs ts rest w

equals_whole : (ts rest : List Terminal) → IsA symbol.Equals ts rest → IsWhole ts
unfolding same_symbol
equals_whole ts rest w = starts_not symbol.OpenBracket symbol.Equals ts rest w.0 w.1 w.2 refl

drive_again : (d : ℕ) → Again drive_depth d (drive d) IsDrive Bare
unfolding drive
drive_again d x ts rest w h s =
    let a = w.2 in
    bind (target d ts) (λ t. value d >>= (λ v. pure (record { target = t; value = v }))) x.target w.0 (target_again d x.target ts w.0 w.1 (omega (arith, h)) (equals_whole w.0 a.0 a.1))
    ∙ bind (value d w.0) (λ v. pure (record { target = x.target; value = v })) x.value rest (value_again d x.value w.0 rest w.2 (omega (arith, h)) s.stops)

drive_shrinks : (x : Drive) → Shrinks (IsDrive x)
drive_shrinks x ts rest w = omega (arith, target_shorter x.target ts w.0 w.1, value_shrinks x.value w.0 rest w.2)

pub drives_again : (d : ℕ) (xs : List Drive) (ts mid rest : List Terminal) → AreListed IsDrive xs ts mid → greatest drive_depth xs ≤ d → IsA symbol.Semicolon mid rest → listed (drive d) ts ≡ Some (xs, mid)
unfolding same_symbol
drives_again d xs ts mid rest w h m =
    listed_again IsDrive Bare drive_depth d (drive d) (drive_again d) drive_shrinks bare_comma xs ts mid w h (ends_by Bare symbol.Semicolon mid rest (bare_semicolon mid rest m) refl m)

pub drives_shrink : (xs : List Drive) → Shrinks (AreListed IsDrive xs)
drives_shrink xs ts rest w = listed_shrinks IsDrive drive_shrinks xs ts rest w
