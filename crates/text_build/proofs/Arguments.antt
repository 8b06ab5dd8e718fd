-- Instances and their arguments, where those are proper.
use Rattle.std.proofs.Common.{◌≡◌, ℕ, Bool, true, false, ◌||◌, List, [], ◌∷◌, Option, Some, None, refl, sym, subst, ◌∙◌}
use Rattle.rtl_tree.specs.declared.symbol.Symbol.TheVariants as symbol
use Rattle.rtl_tree.specs.Symbols.{Terminal}
use Rattle.rtl_tree.specs.TreeExpr.{Formula}
use Rattle.rtl_tree.specs.TreeItem.{Positional, Association, ByPosition, ByName}
use Rattle.text_grammar.specs.Grammar.{Spelling, ◌⨾◌, IsA, IsOptional, AreMore, AreListed}
use Rattle.text_grammar.specs.GrammarExpr.{IsExpression}
use Rattle.text_grammar.specs.GrammarItem.{IsPositional, IsAssociated, IsMoreThanEmpty, AreConnections, IsInstantiation, AreOverrides, IsItem}
use Rattle.text_build.specs.Reading.{starts, place, mark}
use Rattle.text_build.specs.ReadingItem.{any_expression, ends_argument, argument_value, positional, associated, by_position, by_name, arguments, connections, instantiation, overrides_of, overrides, instances}
use Rattle.text_build.specs.Sound.{IsPlain}
use Rattle.text_build.specs.ProperModule.{AreProperArguments, IsProperItem}
use Rattle.text_build.proofs.Gives.{Gives, Sound, anything, both, bind, weaken, either_gives, behind, behind_found, a_gives, mark_gives, name_gives, starts_symbol}
use Rattle.text_build.proofs.Lists.{listed_gives, listed_ended}
use Rattle.text_build.proofs.Each.{If}
use Rattle.text_build.proofs.Exprs.{expression_gives}

module _ (d : ℕ) where
  value_gives : Sound (argument_value d) (IsOptional IsExpression)
  unfolding argument_value any_expression
  value_gives ts pl =
      either_gives _ _ _ ts (λ h. record { given = (refl, pl) }) (λ h. bind (expression_gives d ts pl) (λ v m w. record { given = w }))

  positional_gives : Sound (positional d) IsPositional
  unfolding positional place
  positional_gives [] pl = record { given = tt }
  positional_gives (t ∷ ts) pl = bind (value_gives (t ∷ ts) pl) (λ v m w. record { given = ((refl, w.0), w.1) })

  associated_gives : Sound (associated d) IsAssociated
  unfolding associated
  associated_gives ts pl =
      bind (mark_gives symbol.Dot ts pl)
      (λ at m w. bind (name_gives m w.1)
      (λ n m1 v. bind (behind symbol.OpenParen (argument_value d) value_gives m1 v.1)
      (λ x m2 u. bind (a_gives symbol.CloseParen m2 u.1)
      (λ y m3 z. record { given = ((m, w.0, (m1, v.0, (u.0.0, u.0.1, (m2, u.0.2, z.0)))), z.1) }))))

  -- arguments, of which there is one at least
  abbrev AreSome : Association → Spelling
  AreSome (ByPosition all) = AreListed IsPositional all
  AreSome (ByName all) = AreListed IsAssociated all

  arguments_give : Sound (arguments d) AreSome
  unfolding arguments by_name by_position
  arguments_give ts pl =
      either_gives _ _ _ ts
      (λ h. bind (listed_gives (associated d) associated_gives ts pl) (λ all m w. record { given = w }))
      (λ h. bind (listed_gives (positional d) positional_gives ts pl) (λ all m w. record { given = w }))

  -- an argument, which isn't followed by another token where it is empty
  abbrev IsArgument : Positional → Spelling
  IsArgument a ts rest = IsPositional a ts rest × (a.value ≡ None → (ends_argument ts ≡ true) × (ts ≡ rest))

  empty_value : (ts : List Terminal) → Gives (argument_value d ts) (λ v rest. v ≡ None → (ends_argument ts ≡ true) × (ts ≡ rest))
  unfolding argument_value
  empty_value ts =
      either_gives _ _ _ ts (λ h. record { given = λ q. (h, refl) }) (λ h. bind (anything (any_expression d ts)) (λ v m w. record { given = λ q. absurd (cc) }))

  argument_gives : Sound (positional d) IsArgument
  unfolding positional place
  argument_gives [] pl = record { given = tt }
  argument_gives (t ∷ ts) pl = bind (both (value_gives (t ∷ ts) pl) (empty_value (t ∷ ts))) (λ v m w. record { given = (((refl, w.0.0), w.1), w.0.1) })

  comma_or : (x y : Bool) → (x || y) ≡ true → y ≡ false → x ≡ true
  comma_or true y e h = refl
  comma_or false y e h = absurd (cc)

  -- one argument has a value
  has_value : (x : Positional) (v : Option Formula) → x.value ≡ v → (ts mid rest : List Terminal) → starts symbol.CloseParen ts ≡ false → IsArgument x ts mid → mid ≡ rest → starts symbol.Comma rest ≡ false
      → IsMoreThanEmpty (x ∷ [])
  has_value x (Some v) q ts mid rest k w e z = subst (λ o. IsMoreThanEmpty (record { at = x.at; value = o } ∷ [])) (sym q) tt
  has_value x None q ts mid rest k w e z =
      let n = w.1 q in
      let f : starts symbol.Comma rest ≡ true = subst (λ r. starts symbol.Comma r ≡ true) (n.1 ∙ e) (comma_or (starts symbol.Comma ts) (starts symbol.CloseParen ts) n.0 k) in
      absurd (cc)

  more_arguments : (all : List Positional) (ts rest : List Terminal) → AreMore IsArgument all ts rest → AreMore IsPositional all ts rest
  more_arguments [] ts rest w = w
  more_arguments (x ∷ xs) ts rest w = (w.0, w.1, (w.2.0, w.2.1.0, more_arguments xs w.2.0 rest w.2.2))

  -- arguments that begin with no `)` are more than one that is empty
  filled : (all : List Positional) (ts rest : List Terminal) → starts symbol.CloseParen ts ≡ false → AreListed IsArgument all ts rest → starts symbol.Comma rest ≡ false
      → AreConnections (ByPosition all) ts rest
  filled [] ts rest k w z = absurd w
  filled (x ∷ []) ts rest k w z = (has_value x x.value refl ts w.0 rest k w.1 w.2 z, (w.0, w.1.0, w.2))
  filled (x ∷ y ∷ xs) ts rest k w z = (tt, (w.0, w.1.0, more_arguments (y ∷ xs) w.0 rest w.2))

  connections_give : Sound (connections d) AreConnections
  unfolding connections arguments by_name by_position
  connections_give ts pl =
      either_gives _ _ _ ts
      (λ h. record { given = (refl, pl) })
      (λ k. either_gives _ _ _ ts
      (λ h. bind (listed_gives (associated d) associated_gives ts pl) (λ all m w. record { given = w }))
      (λ h. bind (both (listed_gives (positional d) argument_gives ts pl) (listed_ended (positional d) ts)) (λ all m w. record { given = (filled all ts m k w.0.0 w.1, w.0.1) })))

  instantiation_gives : Sound (instantiation d) IsInstantiation
  unfolding instantiation
  instantiation_gives ts pl =
      bind (name_gives ts pl)
      (λ n m w. bind (behind symbol.OpenParen (connections d) connections_give m w.1)
      (λ c m1 v. bind (a_gives symbol.CloseParen m1 v.1) (λ x m2 u. record { given = ((m, w.0, (v.0.0, v.0.1, (m1, v.0.2, u.0))), u.1) })))

  overridden : (a : Association) (ts m m1 m2 rest : List Terminal) → IsA symbol.Hash ts m → IsA symbol.OpenParen m m1 → AreSome a m1 m2 → IsA symbol.CloseParen m2 rest → AreProperArguments a
      → AreOverrides a ts rest
  overridden (ByPosition []) ts m m1 m2 rest h o w c p = absurd w
  overridden (ByPosition (x ∷ xs)) ts m m1 m2 rest h o w c p = (m, h, (m1, o, (m2, (p, w), c)))
  overridden (ByName all) ts m m1 m2 rest h o w c p = (m, h, (m1, o, (m2, w, c)))

  overrides_give : Sound (overrides d) (If AreProperArguments AreOverrides)
  unfolding overrides overrides_of
  overrides_give ts pl =
      either_gives _ _ _ ts
      (λ h. bind {R = λ a rest. ((IsA symbol.Hash ⨾ IsA symbol.OpenParen) ⨾ AreSome a) ts rest × IsPlain rest}
      (bind (behind_found symbol.Hash (mark symbol.OpenParen) (a_gives symbol.OpenParen) ts pl (starts_symbol symbol.Hash ts h))
      (λ x m w. weaken (arguments_give m w.1) (λ a rest v. ((m, w.0, v.0), v.1))))
      (λ a m1 v. bind (a_gives symbol.CloseParen m1 v.1)
      (λ y m2 u. record { given = (λ p. overridden a ts v.0.1.0 v.0.0 m1 m2 v.0.1.1 v.0.1.2 v.0.2 u.0 p, u.1) })))
      (λ h. record { given = (λ p. refl, pl) })

  pub instances_give : Sound (instances d) (If IsProperItem IsItem)
  unfolding instances
  instances_give ts pl =
      bind (name_gives ts pl)
      (λ child m w. bind (overrides_give m w.1)
      (λ ps m1 v. bind (listed_gives (instantiation d) instantiation_gives m1 v.1)
      (λ all m2 u. bind (a_gives symbol.Semicolon m2 u.1)
      (λ x m3 z. record {
        given = (λ p. (m, w.0, (m1, v.0 p, (m2, u.0, z.0))), z.1);
      }))))
