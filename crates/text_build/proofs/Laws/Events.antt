-- What is spelled is read: event lists, and the arguments of instances.
use Rattle.std.proofs.Common.{◌≡◌, ℕ, ◌≤◌, Bool, true, false, cond, ◌||◌, List, [], ◌∷◌, length, Some, refl, ap, ◌∙◌, inl, inr, arith}
use Rattle.rtl_tree.specs.declared.symbol.Symbol.{Symbol}
use Rattle.rtl_tree.specs.declared.symbol.Symbol.TheVariants as symbol
use Rattle.rtl_tree.specs.declared.tree.operators.PartKind.TheVariants as selects
use Rattle.rtl_tree.specs.declared.tree.item.EventEdge.{EventEdge}
use Rattle.rtl_tree.specs.declared.tree.item.EventEdge.TheVariants as edge
use Rattle.rtl_tree.specs.Symbols.{Terminal}
use Rattle.rtl_tree.specs.TreeExpr.{Identifier}
use Rattle.rtl_tree.specs.TreeItem.{Happening, Edge, Change, ChangeBit, ChangePart, Sensitivity, Star, StarInParens, Listed}
use Rattle.text_grammar.specs.Depth.{greatest, happening_depth, sensitivity_depth}
use Rattle.text_grammar.specs.Grammar.{◌⨾◌, IsA, IsAt, IsName}
use Rattle.text_grammar.specs.GrammarItem.{edge_symbol, IsHappening, IsBetweenEvents, AreMoreEvents, AreEvents, IsSensitivity}
use Rattle.text_build.specs.Reading.{and_then, ◌>>=◌, ◌>>◌, pure, same_symbol, starts, after, name, advance, mark, either}
use Rattle.text_build.specs.ReadingExpr.{climb, Reference, whole, bit, part, reference}
use Rattle.text_build.specs.ReadingItem.{any_expression, edge_of, change_of, change_by, change, event_by, event, joins_events, after_joint, events, star, star_in_parens, listed_events, in_parens, sensitivity}
use Rattle.text_build.proofs.Laws.Tokens.{at_is, name_is, mark_then, advance_at, advance_then, symbol_is, starts_is, starts_not, after_is, after_not, name_again, bind, either_first, either_second}
use Rattle.text_build.proofs.Laws.Repeats.{Again, Shrinks, Separates, Furthers, Ends, lists_again}
use Rattle.text_build.proofs.Laws.Follows.{Opens, opens_by, opens_not, formula_shorter}
use Rattle.text_build.proofs.Laws.Exprs.{whole_read, bit_read, part_read}
use Rattle.text_build.proofs.Laws.Chains.{expression_again}
use Rattle.text_build.proofs.Laws.Targets.{IsWhole}

-- ---- events

change_read : (d : ℕ) (r : Reference) (e : Happening) (ts rest : List Terminal) → reference (climb d 12) ts ≡ Some (r, rest) → change_of r ≡ Some e → change d ts ≡ Some (e, rest)
unfolding change any_expression
change_read d r e ts rest h k = bind (reference (climb d 12) ts) (λ x. change_by (change_of x)) r rest h ∙ ap (λ o. change_by o rest) k

edge_again : (e : EventEdge) (at : ℕ) (n : Identifier) (ts rest : List Terminal) → (IsAt (edge_symbol e) at ⨾ IsName n) ts rest → edge_of e ts ≡ Some (Edge e at n, rest)
unfolding edge_of
edge_again e at n ts rest w =
    bind (advance ts) (λ p. name >>= (λ x. pure (Edge e p x))) at w.0 (advance_at (edge_symbol e) at ts w.0 w.1) ∙ bind (name w.0) (λ x. pure (Edge e at x)) n rest (name_again n w.0 rest w.2)

event_from : (d : ℕ) (s : Symbol) (ts rest : List Terminal) → IsA s ts rest → event d ts ≡ event_by d (Some s) ts
unfolding event
event_from d s ts rest w = ap (λ o. event_by d o ts) (symbol_is s ts rest w.0 w.1 w.2)

event_again : (d : ℕ) → Again happening_depth d (event d) IsHappening IsWhole
event_again d (Edge edge.Posedge at n) ts rest w h s = event_from d symbol.Posedge ts w.0 (at_is symbol.Posedge at ts w.0 w.1) ∙ edge_again edge.Posedge at n ts rest w
event_again d (Edge edge.Negedge at n) ts rest w h s = event_from d symbol.Negedge ts w.0 (at_is symbol.Negedge at ts w.0 w.1) ∙ edge_again edge.Negedge at n ts rest w
event_again d (Change n) ts rest w h s =
    event_from d symbol.Name ts rest (name_is n ts rest w) ∙ change_read d (whole n) (Change n) ts rest (whole_read d (climb d 12) (expression_again d) n ts rest w s) refl
event_again d (ChangeBit n i) ts rest w h s =
    event_from d symbol.Name ts w.0 (name_is n ts w.0 w.1) ∙ change_read d (bit n i) (ChangeBit n i) ts rest (bit_read d (climb d 12) (expression_again d) n i ts rest w h) refl
event_again d (ChangePart n m l) ts rest w h s =
    event_from d symbol.Name ts w.0 (name_is n ts w.0 w.1) ∙ change_read d (part n selects.Between m l) (ChangePart n m l) ts rest (part_read d (climb d 12) (expression_again d) n selects.Between m l ts rest w (omega (arith, h)) (omega (arith, h))) refl

event_shrinks : (e : Happening) → Shrinks (IsHappening e)
event_shrinks (Edge e at n) ts rest w = omega (arith, ap length w.1.1, ap length w.2.1)
event_shrinks (Change n) ts rest w = omega (arith, ap length w.1)
event_shrinks (ChangeBit n i) ts rest w =
    let a = w.2 in let b = a.2 in omega (arith, ap length w.1.1, ap length a.1.1, formula_shorter 12 i a.0 b.0 b.1, ap length b.2.1)
event_shrinks (ChangePart n m l) ts rest w =
    let a = w.2 in let b = a.2 in let c = b.2 in let e = c.2 in
    omega (arith, ap length w.1.1, ap length a.1.1, formula_shorter 12 m a.0 b.0 b.1, ap length c.1.1, formula_shorter 12 l c.0 e.0 e.1, ap length e.2.1)

-- the symbols that an event may begin with
abbrev is_event : Symbol → Bool
is_event symbol.Posedge = true
is_event symbol.Negedge = true
is_event symbol.Name = true
is_event s = false

event_opens : (e : Happening) (ts rest : List Terminal) → IsHappening e ts rest → Opens is_event ts
event_opens (Edge edge.Posedge at n) ts rest w = let v = w.1 in opens_by is_event symbol.Posedge ts w.0 v.0 v.1 v.2.0 refl
event_opens (Edge edge.Negedge at n) ts rest w = let v = w.1 in opens_by is_event symbol.Negedge ts w.0 v.0 v.1 v.2.0 refl
event_opens (Change n) ts rest w = opens_by is_event symbol.Name ts rest w.0 w.1 w.2.0 refl
event_opens (ChangeBit n i) ts rest w = let v = w.1 in opens_by is_event symbol.Name ts w.0 v.0 v.1 v.2.0 refl
event_opens (ChangePart n m l) ts rest w = let v = w.1 in opens_by is_event symbol.Name ts w.0 v.0 v.1 v.2.0 refl

joint : (ts mid : List Terminal) → IsBetweenEvents ts mid → Separates IsBetweenEvents IsWhole joins_events after_joint ts mid
unfolding same_symbol joins_events after_joint
joint ts mid (inl w) =
    let s = starts_is symbol.Or ts mid w.0 w.1 w.2 in
    record {
      follows = starts_not symbol.OpenBracket symbol.Or ts mid w.0 w.1 w.2 refl;
      goes = ap (λ o. o || starts symbol.Comma ts) s;
      leaves = ap (λ o. cond o (after symbol.Or ts) (after symbol.Comma ts)) s ∙ after_is symbol.Or ts mid w.0 w.1 w.2;
      shorter = ap length w.1;
    }
joint ts mid (inr w) =
    let s = starts_not symbol.Or symbol.Comma ts mid w.0 w.1 w.2 refl in
    record {
      follows = starts_not symbol.OpenBracket symbol.Comma ts mid w.0 w.1 w.2 refl;
      goes = ap (λ o. o || starts symbol.Comma ts) s ∙ starts_is symbol.Comma ts mid w.0 w.1 w.2;
      leaves = ap (λ o. cond o (after symbol.Or ts) (after symbol.Comma ts)) s ∙ after_is symbol.Comma ts mid w.0 w.1 w.2;
      shorter = ap length w.1;
    }

event_ends : (ts rest : List Terminal) → IsA symbol.CloseParen ts rest → Ends IsWhole joins_events after_joint ts
unfolding same_symbol joins_events after_joint
event_ends ts rest w =
    let s = starts_not symbol.Or symbol.CloseParen ts rest w.0 w.1 w.2 refl in
    let c = starts_not symbol.Comma symbol.CloseParen ts rest w.0 w.1 w.2 refl in
    record {
      follows = starts_not symbol.OpenBracket symbol.CloseParen ts rest w.0 w.1 w.2 refl;
      stops = ap (λ o. o || starts symbol.Comma ts) s ∙ c;
      leaves = ap (λ o. cond o (after symbol.Or ts) (after symbol.Comma ts)) s ∙ after_not symbol.Comma ts c;
      some = omega (arith, ap length w.1);
    }

more_events : Furthers IsHappening IsBetweenEvents AreMoreEvents
more_events = record { at_end = λ ts rest w. w; goes_on = λ x xs ts rest w. w }

events_again : (d : ℕ) (es : List Happening) (ts mid rest : List Terminal) → AreEvents es ts mid → greatest happening_depth es ≤ d → IsA symbol.CloseParen mid rest → events d ts ≡ Some (es, mid)
unfolding events
events_again d [] ts mid rest w h m = absurd w
events_again d (e ∷ es) ts mid rest w h m =
    lists_again IsHappening IsBetweenEvents AreMoreEvents IsWhole joins_events after_joint happening_depth d (event d) (event_again d) event_shrinks joint more_events (length ts) [] e es ts w.0 mid (omega arith) w.1 w.2 h
    (event_ends mid rest m)

first_event : (es : List Happening) (ts rest : List Terminal) → AreEvents es ts rest → Opens is_event ts
first_event [] ts rest w = absurd w
first_event (e ∷ es) ts rest w = event_opens e ts w.0 w.1

between_shrinks : (ts rest : List Terminal) → IsBetweenEvents ts rest → length rest ≤ length ts
between_shrinks ts rest (inl w) = omega (arith, ap length w.1)
between_shrinks ts rest (inr w) = omega (arith, ap length w.1)

more_events_shrink : (es : List Happening) → Shrinks (AreMoreEvents es)
more_events_shrink [] ts rest w = omega (arith, ap length w)
more_events_shrink (e ∷ es) ts rest w = let a = w.2 in omega (arith, between_shrinks ts w.0 w.1, event_shrinks e w.0 a.0 a.1, more_events_shrink es a.0 rest a.2)

events_shrink : (es : List Happening) → Shrinks (AreEvents es)
events_shrink [] ts rest w = absurd w
events_shrink (e ∷ es) ts rest w = omega (arith, event_shrinks e ts w.0 w.1, more_events_shrink es w.0 rest w.2)

pub sensitivity_again : (d : ℕ) (s : Sensitivity) (ts rest : List Terminal) → IsSensitivity s ts rest → sensitivity_depth s ≤ d → sensitivity d ts ≡ Some (s, rest)
unfolding sensitivity in_parens star star_in_parens listed_events same_symbol
sensitivity_again d Star ts rest w h =
    either_first (starts symbol.Star) star (in_parens d) ts (starts_is symbol.Star ts rest w.0 w.1 w.2) ∙ advance_then symbol.Star (pure Star) ts rest w
sensitivity_again d StarInParens ts rest w h =
    let a = w.2 in
    either_second (starts symbol.Star) star (in_parens d) ts (starts_not symbol.Star symbol.OpenParen ts w.0 w.1.0 w.1.1 w.1.2 refl)
    ∙ mark_then symbol.OpenParen (either (starts symbol.Star) star_in_parens (listed_events d)) ts w.0 w.1
    ∙ either_first (starts symbol.Star) star_in_parens (listed_events d) w.0 (starts_is symbol.Star w.0 a.0 a.1.0 a.1.1 a.1.2)
    ∙ ap (λ o. and_then o (λ _. pure StarInParens)) (advance_then symbol.Star (mark symbol.CloseParen) w.0 a.0 a.1)
    ∙ mark_then symbol.CloseParen (pure StarInParens) a.0 rest a.2
sensitivity_again d (Listed es) ts rest w h =
    let a = w.2 in
    either_second (starts symbol.Star) star (in_parens d) ts (starts_not symbol.Star symbol.OpenParen ts w.0 w.1.0 w.1.1 w.1.2 refl)
    ∙ mark_then symbol.OpenParen (either (starts symbol.Star) star_in_parens (listed_events d)) ts w.0 w.1
    ∙ either_second (starts symbol.Star) star_in_parens (listed_events d) w.0 (opens_not is_event symbol.Star w.0 refl (first_event es w.0 a.0 a.1))
    ∙ bind (events d w.0) (λ all. mark symbol.CloseParen >> pure (Listed all)) es a.0 (events_again d es w.0 a.0 rest a.1 h a.2)
    ∙ mark_then symbol.CloseParen (pure (Listed es)) a.0 rest a.2

pub sensitivity_shrinks : (s : Sensitivity) → Shrinks (IsSensitivity s)
sensitivity_shrinks Star ts rest w = omega (arith, ap length w.1)
sensitivity_shrinks StarInParens ts rest w = let a = w.2 in omega (arith, ap length w.1.1, ap length a.1.1, ap length a.2.1)
sensitivity_shrinks (Listed es) ts rest w = let a = w.2 in omega (arith, ap length w.1.1, events_shrink es w.0 a.0 a.1, ap length a.2.1)
