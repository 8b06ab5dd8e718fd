-- Items, if they are proper.
use Rattle.std.proofs.Common.{◌≡◌, ℕ, List, [], ◌∷◌, Option, None, Some, refl, ap, ◌∙◌}
use Rattle.rtl_tree.specs.declared.symbol.Symbol.{Symbol}
use Rattle.rtl_tree.specs.declared.symbol.Symbol.TheVariants as symbol
use Rattle.rtl_tree.specs.declared.tree.item.ParameterKind.TheVariants as parameter
use Rattle.rtl_tree.specs.declared.tree.gate.GateKind.{GateKind}
use Rattle.rtl_tree.specs.Symbols.{Terminal}
use Rattle.text_grammar.specs.GrammarItem.{IsItem}
use Rattle.text_grammar.specs.GrammarGate.{gate_symbol}
use Rattle.text_grammar.specs.GrammarWritten.{IsUnmarked}
use Rattle.text_build.specs.Reading.{symbol_at}
use Rattle.text_build.specs.ReadingItem.{sensitivity, always, item_by, item_after}
use Rattle.text_build.specs.ReadingGate.{gate_of, plain_item, written_by, written_after}
use Rattle.text_build.specs.Sound.{IsPlain}
use Rattle.text_build.specs.ProperModule.{IsProperItem, IsProperWritten}
use Rattle.text_build.proofs.Gives.{Gives, Sound, bind, weaken, behind, next_gives}
use Rattle.text_build.proofs.Each.{If}
use Rattle.text_build.proofs.Stmts.{statement_gives}
use Rattle.text_build.proofs.Events.{sensitivity_gives}
use Rattle.text_build.proofs.Arguments.{instances_give}
use Rattle.text_build.proofs.CertainGates.{gates_give}
use Rattle.text_build.proofs.Heads.{ports_give, nets_give, variables_give, integers_give, parameters_give, drives_give}

always_gives : (d : ℕ) (ts : List Terminal) → IsPlain ts → symbol_at ts ≡ Some symbol.Always → Gives (always d ts) (λ i rest. If IsProperItem IsItem i ts rest × IsPlain rest)
unfolding always
always_gives d ts pl h =
    bind (next_gives symbol.Always ts pl h)
    (λ at m w. bind (behind symbol.At (sensitivity d) (sensitivity_gives d) m w.1)
    (λ s m1 v. bind (statement_gives d m1 v.1) (λ body m2 u. record { given = (λ p. (m, w.0, (v.0.0, v.0.1, (m1, v.0.2, u.0.1 p))), u.1) })))

item_from : (d : ℕ) (s : Symbol) (ts : List Terminal) → IsPlain ts → symbol_at ts ≡ Some s → Gives (item_by d (Some s) ts) (λ i rest. If IsProperItem IsItem i ts rest × IsPlain rest)
item_from d symbol.Input ts pl h = weaken (ports_give d ts pl) (λ i rest w. (λ q. w.0, w.1))
item_from d symbol.Output ts pl h = weaken (ports_give d ts pl) (λ i rest w. (λ q. w.0, w.1))
item_from d symbol.Wire ts pl h = weaken (nets_give d ts pl h) (λ i rest w. (λ q. w.0, w.1))
item_from d symbol.Reg ts pl h = variables_give d ts pl h
item_from d symbol.Integer ts pl h = weaken (integers_give ts pl h) (λ i rest w. (λ q. w.0, w.1))
item_from d symbol.Parameter ts pl h = weaken (parameters_give d parameter.Parameter ts pl h) (λ i rest w. (λ q. w.0, w.1))
item_from d symbol.Localparam ts pl h = weaken (parameters_give d parameter.Local ts pl h) (λ i rest w. (λ q. w.0, w.1))
item_from d symbol.Assign ts pl h = weaken (drives_give d ts pl h) (λ i rest w. (λ q. w.0, w.1))
item_from d symbol.Always ts pl h = always_gives d ts pl h
item_from d s ts pl h = instances_give d ts pl

-- an item that stands for itself, after no attributes
item_after_gives : (d : ℕ) → Sound (item_after d) (If IsProperItem IsItem)
unfolding item_after
item_after_gives d [] pl = instances_give d [] pl
item_after_gives d (t ∷ ts) pl = item_from d t.symbol (t ∷ ts) pl refl

-- what the kind of gates says of the symbol that it was found by
abbrev IsOf : Option GateKind → Symbol → Type 0
IsOf None s = Unit {0}
IsOf (Some k) s = s ≡ gate_symbol k

kind_is : (s : Symbol) → IsOf (gate_of s) s
unfolding gate_of
kind_is symbol.And = refl
kind_is symbol.Nand = refl
kind_is symbol.Or = refl
kind_is symbol.Nor = refl
kind_is symbol.Xor = refl
kind_is symbol.Xnor = refl
kind_is symbol.Buf = refl
kind_is symbol.Not = refl
kind_is s = tt

plain_gives : (d : ℕ) → Sound (plain_item d) (If IsProperWritten IsUnmarked)
unfolding plain_item
plain_gives d ts pl = bind (item_after_gives d ts pl) (λ i m w. record { given = w })

written_from : (d : ℕ) (o : Option GateKind) (s : Symbol) → IsOf o s → (ts : List Terminal) → IsPlain ts → symbol_at ts ≡ Some s
    → Gives (written_by d o ts) (λ i rest. If IsProperWritten IsUnmarked i ts rest × IsPlain rest)
written_from d None s i ts pl h = plain_gives d ts pl
written_from d (Some k) s i ts pl h = gates_give d k ts pl (h ∙ ap (λ x. Some x) i)

-- an item that stands for itself or gates, after no attributes
pub written_gives : (d : ℕ) → Sound (written_after d) (If IsProperWritten IsUnmarked)
unfolding written_after
written_gives d [] pl = plain_gives d [] pl
written_gives d (t ∷ ts) pl = written_from d (gate_of t.symbol) t.symbol (kind_is t.symbol) (t ∷ ts) pl refl
