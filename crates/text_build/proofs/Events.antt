-- What an `always` waits for.
use Rattle.std.proofs.Common.{◌≡◌, ℕ, Bool, true, false, ◌||◌, cond, List, [], ◌∷◌, length, Some, inl, inr, refl, sym, subst}
use Rattle.rtl_tree.specs.declared.symbol.Symbol.{Symbol}
use Rattle.rtl_tree.specs.declared.symbol.Symbol.TheVariants as symbol
use Rattle.rtl_tree.specs.declared.tree.operators.PartKind.TheVariants as selects
use Rattle.rtl_tree.specs.declared.tree.item.EventEdge.{EventEdge}
use Rattle.rtl_tree.specs.declared.tree.item.EventEdge.TheVariants as edge
use Rattle.rtl_tree.specs.Symbols.{Terminal}
use Rattle.rtl_tree.specs.TreeItem.{Happening}
use Rattle.text_grammar.specs.GrammarItem.{edge_symbol, IsHappening, IsBetweenEvents, AreMoreEvents, AreEvents, IsSensitivity}
use Rattle.text_build.specs.Reading.{symbol_at, starts, after, mark}
use Rattle.text_build.specs.ReadingExpr.{Reference, whole, bit, part, expression}
use Rattle.text_build.specs.ReadingItem.{any_expression, edge_of, change_of, change_by, change, event_by, event, joins_events, after_joint, events, star, star_in_parens, listed_events, in_parens, sensitivity}
use Rattle.text_build.proofs.Laws.Tokens.{after_not}
use Rattle.text_build.specs.Sound.{IsPlain}
use Rattle.text_build.proofs.Gives.{Gives, Sound, bind, weaken, either_gives, behind_found, a_gives, a_of, next_gives, found_gives, name_gives, starts_symbol, after_found}
use Rattle.text_build.proofs.Lists.{Linked, Joins, links_gives}
use Rattle.text_build.proofs.References.{IsReference, reference_gives}
use Rattle.text_build.proofs.Exprs.{expression_gives}

edge_gives : (e : EventEdge) (ts : List Terminal) → IsPlain ts → symbol_at ts ≡ Some (edge_symbol e) → Gives (edge_of e ts) (λ h rest. IsHappening h ts rest × IsPlain rest)
unfolding edge_of
edge_gives e ts pl h = bind (next_gives (edge_symbol e) ts pl h) (λ at m w. bind (name_gives m w.1) (λ n m1 v. record { given = ((m, w.0, v.0), v.1) }))

change_is : (r : Reference) (ts rest : List Terminal) → IsReference r ts rest → IsPlain rest → Gives (change_by (change_of r) rest) (λ h us. IsHappening h ts us × IsPlain us)
change_is (whole n) ts rest w pl = record { given = (w, pl) }
change_is (bit n i) ts rest w pl = record { given = (w, pl) }
change_is (part n selects.Between a b) ts rest w pl = record { given = (w, pl) }
change_is (part n selects.Up a b) ts rest w pl = record { given = tt }
change_is (part n selects.Down a b) ts rest w pl = record { given = tt }

change_gives : (d : ℕ) → Sound (change d) IsHappening
unfolding change any_expression
change_gives d ts pl = bind (reference_gives (expression d) (expression_gives d) ts pl) (λ r m w. change_is r ts m w.0 w.1)

event_from : (d : ℕ) (s : Symbol) (ts : List Terminal) → IsPlain ts → symbol_at ts ≡ Some s → Gives (event_by d (Some s) ts) (λ h rest. IsHappening h ts rest × IsPlain rest)
event_from d symbol.Posedge ts pl h = edge_gives edge.Posedge ts pl h
event_from d symbol.Negedge ts pl h = edge_gives edge.Negedge ts pl h
event_from d s ts pl h = change_gives d ts pl

event_gives : (d : ℕ) → Sound (event d) IsHappening
unfolding event
event_gives d [] pl = change_gives d [] pl
event_gives d (t ∷ ts) pl = event_from d t.symbol (t ∷ ts) pl refl

-- ---- events with `or` or commas between them

joint_by : (ts : List Terminal) → IsPlain ts → (a : Bool) → starts symbol.Or ts ≡ a → (a || starts symbol.Comma ts) ≡ true
    → IsBetweenEvents ts (cond a (after symbol.Or ts) (after symbol.Comma ts)) × IsPlain (cond a (after symbol.Or ts) (after symbol.Comma ts))
joint_by ts pl true e h = let q = after_found symbol.Or ts pl e in (inl q.0, q.1)
joint_by ts pl false e h = let q = after_found symbol.Comma ts pl h in (inr q.0, q.1)

same_by : (ts : List Terminal) (a : Bool) → starts symbol.Or ts ≡ a → (a || starts symbol.Comma ts) ≡ false → cond a (after symbol.Or ts) (after symbol.Comma ts) ≡ ts
same_by ts true e h = absurd (cc)
same_by ts false e h = after_not symbol.Comma ts h

-- further events, each after `or` or a comma
events_join : Joins IsHappening AreMoreEvents IsBetweenEvents joins_events after_joint
unfolding joins_events after_joint
events_join =
    record {
      none = λ ts. refl;
      more = λ x xs ts mid next rest a b c. (mid, a, (next, b, c));
      joint = λ ts pl h. joint_by ts pl (starts symbol.Or ts) refl h;
      same = λ ts h. same_by ts (starts symbol.Or ts) refl h;
    }

events_link : (all : List Happening) (ts rest : List Terminal) → Linked IsHappening AreMoreEvents [] all ts rest → AreEvents all ts rest
events_link all ts rest l = subst (λ xs. AreEvents xs ts rest) (sym l.is) (l.middle, l.head, l.tail)

events_give : (d : ℕ) → Sound (events d) AreEvents
unfolding events
events_give d ts pl =
    weaken (links_gives (event d) IsHappening AreMoreEvents IsBetweenEvents joins_events after_joint (event_gives d) events_join (length ts) [] ts pl)
    (λ all rest w. (events_link all ts rest w.0, w.1))

-- what an `always` waits for
pub sensitivity_gives : (d : ℕ) → Sound (sensitivity d) IsSensitivity
unfolding sensitivity star in_parens star_in_parens listed_events
sensitivity_gives d ts pl =
    either_gives _ _ _ ts
    (λ h. bind (found_gives symbol.Star ts pl h) (λ at m w. record { given = (a_of symbol.Star at ts m w.0, w.1) }))
    (λ h. bind (a_gives symbol.OpenParen ts pl)
    (λ at m w. either_gives _ _ _ m
    (λ k. bind (behind_found symbol.Star (mark symbol.CloseParen) (a_gives symbol.CloseParen) m w.1 (starts_symbol symbol.Star m k))
    (λ x m1 v. record { given = ((m, w.0, v.0), v.1) }))
    (λ k. bind (events_give d m w.1) (λ all m1 v. bind (a_gives symbol.CloseParen m1 v.1) (λ x m2 u. record { given = ((m, w.0, (m1, v.0, u.0)), u.1) })))))
