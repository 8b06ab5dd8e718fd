-- The heads of ports, and declarations.
use Rattle.std.proofs.Common.{◌≡◌, ℕ, Bool, true, false, cond, List, [], ◌∷◌, Option, Some, None, refl, sym, subst, ◌∙◌}
use Rattle.rtl_tree.specs.declared.symbol.Symbol.{Symbol}
use Rattle.rtl_tree.specs.declared.symbol.Symbol.TheVariants as symbol
use Rattle.rtl_tree.specs.declared.tree.item.ParameterKind.{ParameterKind}
use Rattle.rtl_tree.specs.Symbols.{Terminal}
use Rattle.text_grammar.specs.Grammar.{IsOptional, IsFlag}
use Rattle.text_grammar.specs.GrammarExpr.{IsBounds}
use Rattle.text_grammar.specs.GrammarStmt.{IsPause}
use Rattle.text_grammar.specs.GrammarItem.{direction_symbol, IsKind, IsHead, IsValue, IsNet, IsInitial, IsVariable, parameter_symbol, IsValuation, IsDrive, IsItem}
use Rattle.text_build.specs.Reading.{symbol_at, starts, after, name}
use Rattle.text_build.specs.ReadingExpr.{expression, bounds}
use Rattle.text_build.specs.ReadingStmt.{role_of, open_after, past_by, past, after_value, pause}
use Rattle.text_build.specs.ReadingItem.{any_expression, range, direction_by, direction_next, kind_by, port_kind, flag, port_head, ports, value, net, nets, initial, variable, variables, integers, valuation, parameters, drive, drives}
use Rattle.text_build.proofs.Laws.Tokens.{after_not}
use Rattle.text_build.specs.Sound.{IsPlain}
use Rattle.text_build.specs.ProperModule.{IsProperVariable, IsProperItem}
use Rattle.text_build.proofs.Gives.{Gives, Sound, bind, behind, a_gives, a_of, next_gives, name_gives, optional_gives, starts_symbol, after_found}
use Rattle.text_build.proofs.Lists.{listed_gives}
use Rattle.text_build.proofs.Each.{If, each_listed}
use Rattle.text_build.proofs.References.{bounds_gives}
use Rattle.text_build.proofs.Exprs.{expression_gives}
use Rattle.text_build.proofs.CertainTargets.{target_gives, pause_gives}

pub range_gives : (d : ℕ) → Sound (range d) (IsOptional IsBounds)
unfolding range any_expression
range_gives d ts pl = optional_gives {S = IsBounds} symbol.OpenBracket (bounds (expression d)) ts pl (λ h. bounds_gives (expression d) (expression_gives d) ts pl h)

flag_by : (s : Symbol) (ts : List Terminal) → IsPlain ts → (o : Bool) → starts s ts ≡ o → IsFlag s o ts (after s ts) × IsPlain (after s ts)
flag_by s ts pl true e = after_found s ts pl e
flag_by s ts pl false e = (sym (after_not s ts e), subst IsPlain (sym (after_not s ts e)) pl)

flag_gives : (s : Symbol) → Sound (flag s) (IsFlag s)
unfolding flag
flag_gives s ts pl = record { given = flag_by s ts pl (starts s ts) refl }

-- ---- the heads of ports

direction_from : (s : Symbol) (ts : List Terminal) → IsPlain ts → symbol_at ts ≡ Some s
    → Gives (direction_by (Some s) ts) (λ w rest. (symbol_at rest ≡ Some (direction_symbol w)) × IsPlain rest × (ts ≡ rest))
direction_from symbol.Input ts pl h = record { given = (h, pl, refl) }
direction_from symbol.Output ts pl h = record { given = (h, pl, refl) }
direction_from s ts pl h = record { given = tt }

direction_gives : (ts : List Terminal) → IsPlain ts → Gives (direction_next ts) (λ w rest. (symbol_at rest ≡ Some (direction_symbol w)) × IsPlain rest × (ts ≡ rest))
unfolding direction_next
direction_gives [] pl = record { given = tt }
direction_gives (t ∷ ts) pl = direction_from t.symbol (t ∷ ts) pl refl

kind_from : (s : Symbol) (ts : List Terminal) → IsPlain ts → symbol_at ts ≡ Some s → Gives (kind_by (Some s) ts) (λ k rest. IsOptional IsKind k ts rest × IsPlain rest)
kind_from symbol.Wire ts pl h = bind (next_gives symbol.Wire ts pl h) (λ at m w. record { given = (a_of symbol.Wire at ts m w.0, w.1) })
kind_from symbol.Reg ts pl h = bind (next_gives symbol.Reg ts pl h) (λ at m w. record { given = (a_of symbol.Reg at ts m w.0, w.1) })
kind_from s ts pl h = record { given = (refl, pl) }

kind_gives : Sound port_kind (IsOptional IsKind)
unfolding port_kind
kind_gives [] pl = record { given = (refl, pl) }
kind_gives (t ∷ ts) pl = kind_from t.symbol (t ∷ ts) pl refl

pub port_head_gives : (d : ℕ) → Sound (port_head d) IsHead
unfolding port_head
port_head_gives d ts pl =
    bind (direction_gives ts pl)
    (λ w m0 a. bind (next_gives (direction_symbol w) m0 a.1 a.0)
    (λ at m b. bind (kind_gives m b.1)
    (λ k m1 c. bind (flag_gives symbol.Signed m1 c.1)
    (λ s m2 f. bind (range_gives d m2 f.1)
    (λ r m3 g. record { given = ((m, (b.0.0, a.2 ∙ b.0.1, b.0.2), (m1, c.0, (m2, f.0, g.0))), g.1) })))))

pub ports_give : (d : ℕ) → Sound (ports d) IsItem
unfolding ports
ports_give d ts pl =
    bind (port_head_gives d ts pl)
    (λ h m w. bind (listed_gives name name_gives m w.1) (λ names m1 v. bind (a_gives symbol.Semicolon m1 v.1) (λ x m2 u. record { given = ((m, w.0, (m1, v.0, u.0)), u.1) })))

-- ---- declarations

pub value_gives : (d : ℕ) → Sound (value d) IsValue
unfolding value any_expression
value_gives d ts pl = behind symbol.Equals (expression d) (expression_gives d) ts pl

net_gives : (d : ℕ) → Sound (net d) IsNet
unfolding net
net_gives d ts pl =
    bind (name_gives ts pl)
    (λ n m w. bind (optional_gives {S = IsValue} symbol.Equals (value d) m w.1 (λ h. value_gives d m w.1)) (λ v m1 u. record { given = ((m, w.0, u.0), u.1) }))

pub nets_give : (d : ℕ) (ts : List Terminal) → IsPlain ts → symbol_at ts ≡ Some symbol.Wire → Gives (nets d ts) (λ i rest. IsItem i ts rest × IsPlain rest)
unfolding nets
nets_give d ts pl h =
    bind (next_gives symbol.Wire ts pl h)
    (λ at m w. bind (flag_gives symbol.Signed m w.1)
    (λ s m1 f. bind (range_gives d m1 f.1)
    (λ b m2 g. bind (listed_gives (net d) (net_gives d) m2 g.1)
    (λ all m3 v. bind (a_gives symbol.Semicolon m3 v.1) (λ x m4 u. record { given = ((m, w.0, (m1, f.0, (m2, g.0, (m3, v.0, u.0)))), u.1) })))))

-- what is passed over leaves no attributes
past_open : (o : Option ℕ) (here : List Terminal) (further : ℕ → List Terminal) → IsPlain here → ((n : ℕ) → IsPlain (further n)) → IsPlain (past_by o here further)
past_open None here further p f = p
past_open (Some n) here further p f = f n

past_plain : (ts : List Terminal) → IsPlain ts → (n : ℕ) → IsPlain (past n ts)
past_plain [] p n = tt
past_plain (t ∷ ts) p n = past_open (open_after (role_of t.symbol) n) (t ∷ ts) (λ m. past m ts) p (past_plain ts p.1)

initial_by : (ts : List Terminal) → IsPlain ts → (o : Bool) → starts symbol.Equals ts ≡ o
    → (o ≡ false → ts ≡ cond o (past 0 (after symbol.Equals ts)) (after symbol.Equals ts)) × IsPlain (cond o (past 0 (after symbol.Equals ts)) (after symbol.Equals ts))
initial_by ts pl true e = (λ q. absurd (cc), past_plain (after symbol.Equals ts) (after_found symbol.Equals ts pl e).1 0)
initial_by ts pl false e = (λ q. sym (after_not symbol.Equals ts e), subst IsPlain (sym (after_not symbol.Equals ts e)) pl)

initial_gives : (ts : List Terminal) → IsPlain ts → Gives (initial ts) (λ i rest. (i ≡ false → ts ≡ rest) × IsPlain rest)
unfolding initial after_value
initial_gives ts pl = record { given = initial_by ts pl (starts symbol.Equals ts) refl }

variable_gives : Sound variable (If IsProperVariable IsVariable)
unfolding variable
variable_gives ts pl =
    bind (name_gives ts pl)
    (λ n m w. bind (initial_gives m w.1) (λ i m1 v. record { given = (λ p. (m, w.0, subst (λ b. IsInitial b m m1) (sym p) (v.0 p)), v.1) }))

pub variables_give : (d : ℕ) (ts : List Terminal) → IsPlain ts → symbol_at ts ≡ Some symbol.Reg → Gives (variables d ts) (λ i rest. If IsProperItem IsItem i ts rest × IsPlain rest)
unfolding variables
variables_give d ts pl h =
    bind (next_gives symbol.Reg ts pl h)
    (λ at m w. bind (flag_gives symbol.Signed m w.1)
    (λ s m1 f. bind (range_gives d m1 f.1)
    (λ b m2 g. bind (listed_gives variable variable_gives m2 g.1)
    (λ all m3 v. bind (a_gives symbol.Semicolon m3 v.1)
    (λ x m4 u. record { given = (λ p. (m, w.0, (m1, f.0, (m2, g.0, (m3, each_listed IsProperVariable IsVariable all m2 m3 v.0 p, u.0)))), u.1) })))))

pub integers_give : (ts : List Terminal) → IsPlain ts → symbol_at ts ≡ Some symbol.Integer → Gives (integers ts) (λ i rest. IsItem i ts rest × IsPlain rest)
unfolding integers
integers_give ts pl h =
    bind (next_gives symbol.Integer ts pl h)
    (λ at m w. bind (listed_gives name name_gives m w.1) (λ names m1 v. bind (a_gives symbol.Semicolon m1 v.1) (λ x m2 u. record { given = ((m, w.0, (m1, v.0, u.0)), u.1) })))

valuation_gives : (d : ℕ) → Sound (valuation d) IsValuation
unfolding valuation
valuation_gives d ts pl = bind (name_gives ts pl) (λ n m w. bind (value_gives d m w.1) (λ v m1 u. record { given = ((m, w.0, u.0), u.1) }))

pub parameters_give : (d : ℕ) (k : ParameterKind) (ts : List Terminal) → IsPlain ts → symbol_at ts ≡ Some (parameter_symbol k) → Gives (parameters d k ts) (λ i rest. IsItem i ts rest × IsPlain rest)
unfolding parameters
parameters_give d k ts pl h =
    bind (next_gives (parameter_symbol k) ts pl h)
    (λ at m w. bind (range_gives d m w.1)
    (λ b m1 g. bind (listed_gives (valuation d) (valuation_gives d) m1 g.1)
    (λ all m2 v. bind (a_gives symbol.Semicolon m2 v.1) (λ x m3 u. record { given = ((m, w.0, (m1, g.0, (m2, v.0, u.0))), u.1) }))))

drive_gives : (d : ℕ) → Sound (drive d) IsDrive
unfolding drive
drive_gives d ts pl = bind (target_gives d ts pl) (λ t m w. bind (value_gives d m w.1) (λ v m1 u. record { given = ((m, w.0, u.0), u.1) }))

pub drives_give : (d : ℕ) (ts : List Terminal) → IsPlain ts → symbol_at ts ≡ Some symbol.Assign → Gives (drives d ts) (λ i rest. IsItem i ts rest × IsPlain rest)
unfolding drives any_expression
drives_give d ts pl h =
    bind (next_gives symbol.Assign ts pl h)
    (λ at m w. bind (optional_gives {S = IsPause} symbol.Hash (pause (expression d)) m w.1 (λ k. pause_gives (expression d) (expression_gives d) m w.1 (starts_symbol symbol.Hash m k)))
    (λ p m1 g. bind (listed_gives (drive d) (drive_gives d) m1 g.1)
    (λ all m2 v. bind (a_gives symbol.Semicolon m2 v.1) (λ x m3 u. record { given = ((m, w.0, (m1, g.0, (m2, v.0, u.0))), u.1) }))))
