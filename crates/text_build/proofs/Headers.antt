-- The head of a module.
use Rattle.std.proofs.Common.{◌≡◌, ℕ, true, false, List, [], ◌∷◌, refl, sym, ◌∙◌}
use Rattle.rtl_tree.specs.declared.symbol.Symbol.TheVariants as symbol
use Rattle.rtl_tree.specs.Symbols.{Terminal}
use Rattle.rtl_tree.specs.TreeModule.{HeaderParameter, HeaderPort, Declared}
use Rattle.text_grammar.specs.Grammar.{Spelling, ◌⨾◌, IsA, IsOptional, AreMore, AreListed}
use Rattle.text_grammar.specs.GrammarItem.{IsHead}
use Rattle.text_grammar.specs.GrammarModule.{IsThere, IsHeading, IsParameter, AreParameters, IsPort, IsHeader}
use Rattle.text_build.specs.Reading.{starts, mark, name}
use Rattle.text_build.specs.ReadingModule.{heading, parameter, parameters_of, parameters, starts_head, own_head, port, declared, named, empty, port_list, header}
use Rattle.text_build.specs.Sound.{IsPlain}
use Rattle.text_build.specs.ProperModule.{AreProperParameters}
use Rattle.text_build.proofs.Gives.{Gives, Sound, bind, weaken, either_gives, behind_found, a_gives, a_of, found_gives, name_gives, optional_gives, starts_symbol}
use Rattle.text_build.proofs.Lists.{listed_gives}
use Rattle.text_build.proofs.Each.{If}
use Rattle.text_build.proofs.Heads.{range_gives, value_gives, port_head_gives}

module _ (d : ℕ) where
  heading_gives : (ts : List Terminal) → IsPlain ts → starts symbol.Parameter ts ≡ true → Gives (heading d ts) (λ h rest. IsHeading h ts rest × IsPlain rest)
  unfolding heading
  heading_gives ts pl h = bind (found_gives symbol.Parameter ts pl h) (λ at m w. bind (range_gives d m w.1) (λ b m1 v. record { given = ((m, w.0, v.0), v.1) }))

  parameter_gives : Sound (parameter d) IsParameter
  unfolding parameter
  parameter_gives ts pl =
      bind (optional_gives {S = IsHeading} symbol.Parameter (heading d) ts pl (λ h. heading_gives ts pl h))
      (λ h m w. bind (name_gives m w.1) (λ n m1 v. bind (value_gives d m1 v.1) (λ x m2 u. record { given = ((m, w.0, (m1, v.0, u.0)), u.1) })))

  set_apart : (all : List HeaderParameter) (ts m m1 m2 rest : List Terminal) → IsA symbol.Hash ts m → IsA symbol.OpenParen m m1 → AreListed IsParameter all m1 m2 → IsA symbol.CloseParen m2 rest
      → AreProperParameters all → AreParameters all ts rest
  set_apart [] ts m m1 m2 rest h o w c p = absurd w
  set_apart (x ∷ xs) ts m m1 m2 rest h o w c p = (p, (m, h, (m1, o, (w.0, w.1, (m2, w.2, c)))))

  pub parameters_give : Sound (parameters d) (If AreProperParameters AreParameters)
  unfolding parameters parameters_of
  parameters_give ts pl =
      either_gives _ _ _ ts
      (λ h. bind {R = λ a rest. ((IsA symbol.Hash ⨾ IsA symbol.OpenParen) ⨾ AreListed IsParameter a) ts rest × IsPlain rest}
      (bind (behind_found symbol.Hash (mark symbol.OpenParen) (a_gives symbol.OpenParen) ts pl (starts_symbol symbol.Hash ts h))
      (λ x m w. weaken (listed_gives (parameter d) parameter_gives m w.1) (λ a rest v. ((m, w.0, v.0), v.1))))
      (λ a m1 v. bind (a_gives symbol.CloseParen m1 v.1)
      (λ y m2 u. record { given = (λ p. set_apart a ts v.0.1.0 v.0.0 m1 m2 v.0.1.1 v.0.1.2 v.0.2 u.0 p, u.1) })))
      (λ h. record { given = (λ p. refl, pl) })

  -- ---- ports

  -- a port, which has its head where one begins
  abbrev HasHead : HeaderPort → Spelling
  HasHead p ts rest = IsPort p ts rest × (starts_head ts ≡ true → IsThere p.head)

  port_gives : Sound (port d) HasHead
  unfolding port own_head
  port_gives ts pl =
      bind {R = λ h m. (IsOptional IsHead h ts m × (starts_head ts ≡ true → IsThere h)) × IsPlain m}
      (either_gives _ _ _ ts
      (λ k. bind (port_head_gives d ts pl) (λ h m w. record { given = ((w.0, λ q. tt), w.1) }))
      (λ k. record { given = ((refl, λ q. let z : true ≡ false = sym q ∙ k in absurd (cc)), pl) }))
      (λ h m w. bind (name_gives m w.1) (λ n m1 v. record { given = (((m, w.0.0, v.0), w.0.1), v.1) }))

  more_ports : (ps : List HeaderPort) (ts rest : List Terminal) → AreMore HasHead ps ts rest → AreMore IsPort ps ts rest
  more_ports [] ts rest w = w
  more_ports (p ∷ ps) ts rest w = (w.0, w.1, (w.2.0, w.2.1.0, more_ports ps w.2.0 rest w.2.2))

  declared_is : (ps : List HeaderPort) (ts m m1 rest : List Terminal) → IsA symbol.OpenParen ts m → AreListed HasHead ps m m1 → IsA symbol.CloseParen m1 rest → starts_head m ≡ true
      → IsHeader (Declared ps) ts rest
  declared_is [] ts m m1 rest o w c h = absurd w
  declared_is (p ∷ ps) ts m m1 rest o w c h = (w.1.1 h, (m, o, (w.0, w.1.0, (m1, more_ports ps w.0 m1 w.2, c))))

  pub header_gives : Sound (header d) IsHeader
  unfolding header port_list empty declared named
  header_gives ts pl =
      either_gives _ _ _ ts
      (λ h. bind (found_gives symbol.OpenParen ts pl h)
      (λ at m w. either_gives _ _ _ m
      (λ k. bind (found_gives symbol.CloseParen m w.1 k)
      (λ x m1 v. record { given = ((m, a_of symbol.OpenParen at ts m w.0, a_of symbol.CloseParen x m m1 v.0), v.1) }))
      (λ k. either_gives _ _ _ m
      (λ q. bind (listed_gives (port d) port_gives m w.1)
      (λ all m1 v. bind (a_gives symbol.CloseParen m1 v.1)
      (λ x m2 u. record { given = (declared_is all ts m m1 m2 (a_of symbol.OpenParen at ts m w.0) v.0 u.0 q, u.1) })))
      (λ q. bind (listed_gives name name_gives m w.1)
      (λ all m1 v. bind (a_gives symbol.CloseParen m1 v.1)
      (λ x m2 u. record { given = ((m, a_of symbol.OpenParen at ts m w.0, (m1, v.0, u.0)), u.1) }))))))
      (λ h. record { given = (refl, pl) })
