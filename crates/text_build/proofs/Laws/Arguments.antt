-- What is spelled is read: the arguments of instances.
use Rattle.std.proofs.Common.{◌≡◌, ℕ, ◌≤◌, true, false, ◌||◌, List, [], ◌∷◌, length, Option, Some, None, refl, sym, ap, subst, ◌∙◌, arith}
use Rattle.rtl_tree.specs.declared.symbol.Symbol.TheVariants as symbol
use Rattle.rtl_tree.specs.Symbols.{Terminal}
use Rattle.rtl_tree.specs.TreeExpr.{Formula}
use Rattle.rtl_tree.specs.TreeItem.{Positional, Associated, Association, ByPosition, ByName, Instantiation}
use Rattle.text_grammar.specs.Depth.{greatest, if_any, formula_depth, positional_depth, associated_depth, association_depth, instantiation_depth}
use Rattle.text_grammar.specs.Grammar.{IsA, IsOptional, AreMore, AreListed}
use Rattle.text_grammar.specs.GrammarExpr.{IsExpression}
use Rattle.text_grammar.specs.GrammarItem.{Begins, IsPositional, IsAssociated, IsMoreThanEmpty, AreArguments, AreConnections, IsInstantiation, AreSet, AreOverrides}
use Rattle.text_build.specs.Reading.{and_then, ◌>>=◌, ◌>>◌, pure, same_symbol, starts, place, name, mark, listed}
use Rattle.text_build.specs.ReadingItem.{any_expression, ends_argument, argument_value, positional, associated, by_position, by_name, arguments, connections, instantiation, overrides_of, overrides}
use Rattle.text_build.proofs.Laws.Tokens.{at_is, mark_at, mark_then, advance_then, place_again, starts_is, starts_not, name_again, bind, either_first, either_second}
use Rattle.text_build.proofs.Laws.Repeats.{Again, Shrinks, listed_again}
use Rattle.text_build.proofs.Laws.Follows.{Stops, is_start, stop_stops, opens_not, formula_opens}
use Rattle.text_build.proofs.Laws.Lists.{ends_by, listed_shrinks, optional_shrinks, expression_shrinks, any_again}

-- an argument may end here
record Ended (ts : List Terminal) : Type 0 where
  stops : Stops 12 ts
  ended : ends_argument ts ≡ true

comma_ends : (ts rest : List Terminal) → IsA symbol.Comma ts rest → Ended ts
comma_ends ts rest w =
    record { stops = stop_stops symbol.Comma ts rest refl w; ended = ap (λ o. o || starts symbol.CloseParen ts) (starts_is symbol.Comma ts rest w.0 w.1 w.2) }

close_ends : (ts rest : List Terminal) → IsA symbol.CloseParen ts rest → Ended ts
unfolding same_symbol
close_ends ts rest w =
    record {
      stops = stop_stops symbol.CloseParen ts rest refl w;
      ended = ap (λ o. o || starts symbol.CloseParen ts) (starts_not symbol.Comma symbol.CloseParen ts rest w.0 w.1 w.2 refl) ∙ starts_is symbol.CloseParen ts rest w.0 w.1 w.2;
    }

argument_again : (d : ℕ) (v : Option Formula) (ts rest : List Terminal) → IsOptional IsExpression v ts rest → if_any formula_depth v ≤ d → Ended rest → argument_value d ts ≡ Some (v, rest)
unfolding argument_value
argument_again d None ts rest w h s =
    either_first ends_argument (pure None) (any_expression d >>= (λ v. pure (Some v))) ts (ap ends_argument w ∙ s.ended) ∙ ap (λ x. Some (None, x)) w
argument_again d (Some f) ts rest w h s =
    let o = formula_opens 12 f ts rest w in
    either_second ends_argument (pure None) (any_expression d >>= (λ v. pure (Some v))) ts
    (ap (λ q. q || starts symbol.CloseParen ts) (opens_not is_start symbol.Comma ts refl o) ∙ opens_not is_start symbol.CloseParen ts refl o)
    ∙ bind (any_expression d ts) (λ v. pure (Some v)) f rest (any_again d f ts rest w h s.stops)

begins_place : (at : ℕ) (ts : List Terminal) → Begins at ts → place ts ≡ Some (at, ts)
begins_place at [] w = absurd w
begins_place at (t ∷ ts) w = place_again (t ∷ ts) ts t refl ∙ ap (λ x. Some (x, t ∷ ts)) w

positional_again : (d : ℕ) → Again positional_depth d (positional d) IsPositional Ended
unfolding positional
positional_again d x ts rest w h s =
    bind (place ts) (λ at. argument_value d >>= (λ v. pure (record { at = at; value = v }))) x.at ts (begins_place x.at ts w.0)
    ∙ bind (argument_value d ts) (λ v. pure (record { at = x.at; value = v })) x.value rest (argument_again d x.value ts rest w.1 h s)

positional_shrinks : (x : Positional) → Shrinks (IsPositional x)
positional_shrinks x ts rest w = optional_shrinks IsExpression expression_shrinks x.value ts rest w.1

associated_again : (d : ℕ) → Again associated_depth d (associated d) IsAssociated Ended
unfolding associated
associated_again d x ts rest w h s =
    let a = w.2 in
    let b = a.2 in
    let c = b.2 in
    bind (mark symbol.Dot ts) (λ at. name >>= (λ n. mark symbol.OpenParen >> argument_value d >>= (λ v. mark symbol.CloseParen >> pure (record { at = at; name = n; value = v })))) x.at w.0 (mark_at symbol.Dot x.at ts w.0 w.1)
    ∙ bind (name w.0) (λ n. mark symbol.OpenParen >> argument_value d >>= (λ v. mark symbol.CloseParen >> pure (record { at = x.at; name = n; value = v }))) x.name a.0 (name_again x.name w.0 a.0 a.1)
    ∙ ap (λ o. and_then o (λ v. mark symbol.CloseParen >> pure (record { at = x.at; name = x.name; value = v })))
    (mark_then symbol.OpenParen (argument_value d) a.0 b.0 b.1 ∙ argument_again d x.value b.0 c.0 c.1 h (close_ends c.0 rest c.2))
    ∙ mark_then symbol.CloseParen (pure x) c.0 rest c.2

associated_shrinks : (x : Associated) → Shrinks (IsAssociated x)
associated_shrinks x ts rest w =
    let a = w.2 in let b = a.2 in let c = b.2 in
    omega (arith, ap length w.1.1, ap length a.1.1, ap length b.1.1, optional_shrinks IsExpression expression_shrinks x.value b.0 c.0 c.1, ap length c.2.1)

-- ---- all by position, or all by name

-- the first argument by position has no dot, and isn't the end of the arguments
record Plain (ts : List Terminal) : Type 0 where
  dot : starts symbol.Dot ts ≡ false
  close : starts symbol.CloseParen ts ≡ false

plain_comma : (ts rest : List Terminal) → IsA symbol.Comma ts rest → Plain ts
unfolding same_symbol
plain_comma ts rest w = record { dot = starts_not symbol.Dot symbol.Comma ts rest w.0 w.1 w.2 refl; close = starts_not symbol.CloseParen symbol.Comma ts rest w.0 w.1 w.2 refl }

plain_value : (f : Formula) (ts rest : List Terminal) → IsExpression f ts rest → Plain ts
plain_value f ts rest w =
    let o = formula_opens 12 f ts rest w in
    record { dot = opens_not is_start symbol.Dot ts refl o; close = opens_not is_start symbol.CloseParen ts refl o }

plain_by : (at : ℕ) (v : Option Formula) (xs : List Positional) (ts mid rest : List Terminal) → IsMoreThanEmpty (record { at = at; value = v } ∷ xs) → IsOptional IsExpression v ts mid → AreMore IsPositional xs mid rest → Plain ts
plain_by at (Some f) xs ts mid rest e w m = plain_value f ts mid w
plain_by at None [] ts mid rest e w m = absurd e
plain_by at None (x ∷ xs) ts mid rest e w m = subst Plain (sym w) (plain_comma mid m.0 m.1)

plain_first : (xs : List Positional) (ts rest : List Terminal) → IsMoreThanEmpty xs → AreListed IsPositional xs ts rest → Plain ts
plain_first [] ts rest e w = absurd w
plain_first (x ∷ xs) ts rest e w = plain_by x.at x.value xs ts w.0 rest e w.1.1 w.2

dot_first : (xs : List Associated) (ts rest : List Terminal) → AreListed IsAssociated xs ts rest → (mid : List Terminal) × IsA symbol.Dot ts mid
dot_first [] ts rest w = absurd w
dot_first (x ∷ xs) ts rest w = let v = w.1 in (v.0, at_is symbol.Dot x.at ts v.0 v.1)

arguments_again : (d : ℕ) (x : Association) (ts mid rest : List Terminal) → AreArguments x ts mid → association_depth x ≤ d → IsA symbol.CloseParen mid rest → arguments d ts ≡ Some (x, mid)
unfolding arguments by_position by_name same_symbol
arguments_again d (ByPosition xs) ts mid rest w h m =
    either_second (starts symbol.Dot) (by_name d) (by_position d) ts ((plain_first xs ts mid w.0 w.1).dot)
    ∙ bind (listed (positional d) ts) (λ all. pure (ByPosition all)) xs mid
    (listed_again IsPositional Ended positional_depth d (positional d) (positional_again d) positional_shrinks comma_ends xs ts mid w.1 h (ends_by Ended symbol.CloseParen mid rest (close_ends mid rest m) refl m))
arguments_again d (ByName xs) ts mid rest w h m =
    let v = dot_first xs ts mid w in
    either_first (starts symbol.Dot) (by_name d) (by_position d) ts (starts_is symbol.Dot ts v.0 v.1.0 v.1.1 v.1.2)
    ∙ bind (listed (associated d) ts) (λ all. pure (ByName all)) xs mid
    (listed_again IsAssociated Ended associated_depth d (associated d) (associated_again d) associated_shrinks comma_ends xs ts mid w h (ends_by Ended symbol.CloseParen mid rest (close_ends mid rest m) refl m))

arguments_shrink : (x : Association) → Shrinks (AreArguments x)
arguments_shrink (ByPosition xs) ts rest w = listed_shrinks IsPositional positional_shrinks xs ts rest w.1
arguments_shrink (ByName xs) ts rest w = listed_shrinks IsAssociated associated_shrinks xs ts rest w

connections_again : (d : ℕ) (x : Association) (ts mid rest : List Terminal) → AreConnections x ts mid → association_depth x ≤ d → IsA symbol.CloseParen mid rest → connections d ts ≡ Some (x, mid)
unfolding connections same_symbol
connections_again d (ByPosition []) ts mid rest w h m =
    either_first (starts symbol.CloseParen) (pure (ByPosition [])) (arguments d) ts (ap (starts symbol.CloseParen) w ∙ starts_is symbol.CloseParen mid rest m.0 m.1 m.2) ∙ ap (λ x. Some (ByPosition [], x)) w
connections_again d (ByPosition (x ∷ xs)) ts mid rest w h m =
    either_second (starts symbol.CloseParen) (pure (ByPosition [])) (arguments d) ts ((plain_first (x ∷ xs) ts mid w.0 w.1).close) ∙ arguments_again d (ByPosition (x ∷ xs)) ts mid rest w h m
connections_again d (ByName xs) ts mid rest w h m =
    let v = dot_first xs ts mid w in
    either_second (starts symbol.CloseParen) (pure (ByPosition [])) (arguments d) ts (starts_not symbol.CloseParen symbol.Dot ts v.0 v.1.0 v.1.1 v.1.2 refl) ∙ arguments_again d (ByName xs) ts mid rest w h m

connections_shrink : (x : Association) → Shrinks (AreConnections x)
connections_shrink (ByPosition []) ts rest w = omega (arith, ap length w)
connections_shrink (ByPosition (x ∷ xs)) ts rest w = arguments_shrink (ByPosition (x ∷ xs)) ts rest w
connections_shrink (ByName xs) ts rest w = arguments_shrink (ByName xs) ts rest w

abbrev Anything : List Terminal → Type 0
Anything ts = Unit {0}

instantiation_again : (d : ℕ) → Again instantiation_depth d (instantiation d) IsInstantiation Anything
unfolding instantiation
instantiation_again d x ts rest w h s =
    let a = w.2 in
    let b = a.2 in
    bind (name ts) (λ n. mark symbol.OpenParen >> connections d >>= (λ c. mark symbol.CloseParen >> pure (record { name = n; connections = c }))) x.name w.0 (name_again x.name ts w.0 w.1)
    ∙ ap (λ o. and_then o (λ c. mark symbol.CloseParen >> pure (record { name = x.name; connections = c })))
    (mark_then symbol.OpenParen (connections d) w.0 a.0 a.1 ∙ connections_again d x.connections a.0 b.0 rest b.1 h b.2)
    ∙ mark_then symbol.CloseParen (pure x) b.0 rest b.2

instantiation_shrinks : (x : Instantiation) → Shrinks (IsInstantiation x)
instantiation_shrinks x ts rest w =
    let a = w.2 in let b = a.2 in omega (arith, ap length w.1.1, ap length a.1.1, connections_shrink x.connections a.0 b.0 b.1, ap length b.2.1)

pub instantiations_again : (d : ℕ) (xs : List Instantiation) (ts mid rest : List Terminal) → AreListed IsInstantiation xs ts mid → greatest instantiation_depth xs ≤ d → IsA symbol.Semicolon mid rest → listed (instantiation d) ts ≡ Some (xs, mid)
unfolding same_symbol
instantiations_again d xs ts mid rest w h m =
    listed_again IsInstantiation Anything instantiation_depth d (instantiation d) (instantiation_again d) instantiation_shrinks (λ us vs v. tt) xs ts mid w h (ends_by Anything symbol.Semicolon mid rest tt refl m)

pub instantiations_shrink : (xs : List Instantiation) → Shrinks (AreListed IsInstantiation xs)
instantiations_shrink xs ts rest w = listed_shrinks IsInstantiation instantiation_shrinks xs ts rest w

set_again : (d : ℕ) (x : Association) (ts rest : List Terminal) → AreSet x ts rest → association_depth x ≤ d → overrides d ts ≡ Some (x, rest)
unfolding overrides overrides_of
set_again d x ts rest w h =
    let a = w.2 in
    let b = a.2 in
    either_first (starts symbol.Hash) (overrides_of d) (pure (ByPosition [])) ts (starts_is symbol.Hash ts w.0 w.1.0 w.1.1 w.1.2)
    ∙ ap (λ o. and_then (and_then o (λ _. arguments d)) (λ y. mark symbol.CloseParen >> pure y)) (advance_then symbol.Hash (mark symbol.OpenParen) ts w.0 w.1)
    ∙ ap (λ o. and_then o (λ y. mark symbol.CloseParen >> pure y)) (mark_then symbol.OpenParen (arguments d) w.0 a.0 a.1 ∙ arguments_again d x a.0 b.0 rest b.1 h b.2)
    ∙ mark_then symbol.CloseParen (pure x) b.0 rest b.2

pub overrides_again : (d : ℕ) (x : Association) (ts rest : List Terminal) → AreOverrides x ts rest → association_depth x ≤ d → starts symbol.Hash rest ≡ false → overrides d ts ≡ Some (x, rest)
unfolding overrides
overrides_again d (ByPosition []) ts rest w h s =
    either_second (starts symbol.Hash) (overrides_of d) (pure (ByPosition [])) ts (ap (starts symbol.Hash) w ∙ s) ∙ ap (λ x. Some (ByPosition [], x)) w
overrides_again d (ByPosition (x ∷ xs)) ts rest w h s = set_again d (ByPosition (x ∷ xs)) ts rest w h
overrides_again d (ByName xs) ts rest w h s = set_again d (ByName xs) ts rest w h

set_shrinks : (x : Association) → Shrinks (AreSet x)
set_shrinks x ts rest w =
    let a = w.2 in let b = a.2 in omega (arith, ap length w.1.1, ap length a.1.1, arguments_shrink x a.0 b.0 b.1, ap length b.2.1)

pub overrides_shrink : (x : Association) → Shrinks (AreOverrides x)
overrides_shrink (ByPosition []) ts rest w = omega (arith, ap length w)
overrides_shrink (ByPosition (x ∷ xs)) ts rest w = set_shrinks (ByPosition (x ∷ xs)) ts rest w
overrides_shrink (ByName xs) ts rest w = set_shrinks (ByName xs) ts rest w
