-- What the items of a module begin with as they are written, and that nothing is longer after they were read.
use Rattle.std.proofs.Common.{◌≡◌, ℕ, ◌≤◌, ◌<◌, Bool, true, false, Option, List, [], ◌∷◌, length, refl, sym, ap, subst, arith}
use Rattle.rtl_tree.specs.declared.symbol.Symbol.{Symbol}
use Rattle.rtl_tree.specs.declared.symbol.Symbol.TheVariants as symbol
use Rattle.rtl_tree.specs.declared.tree.gate.GateKind.{GateKind}
use Rattle.rtl_tree.specs.declared.tree.gate.GateKind.TheVariants as kind
use Rattle.rtl_tree.specs.Symbols.{Terminal}
use Rattle.rtl_tree.specs.TreeExpr.{Identifier}
use Rattle.rtl_tree.specs.TreeGate.{GatePause, Gate}
use Rattle.rtl_tree.specs.TreeWritten.{WrittenItem, Plain, Primitives, Genvars, Region, If, IfElse, Case, For, WrittenItems, no_items, more_items, GenerateBlock, Null, Single, Block, GenerateChoice, Labelled, Default, GenerateChoices, no_choices, more_choices}
use Rattle.text_grammar.specs.Grammar.{Spelling, IsName}
use Rattle.text_grammar.specs.GrammarStmt.{AreAttributes}
use Rattle.text_grammar.specs.GrammarGate.{gate_symbol}
use Rattle.text_grammar.specs.GrammarWritten.{takes_attributes, MarkedIf, IsUnmarked, AreWritten, IsMade, IsChoice, AreChoices, AreMoreChoices, IsWritten}
use Rattle.text_build.proofs.Laws.Repeats.{Consumes}
use Rattle.text_build.proofs.Laws.Follows.{is_start, Opens, opens_by, formula_shorter}
use Rattle.text_build.proofs.Laws.Attributes.{attributes_shorter}
use Rattle.text_build.proofs.Laws.Openings.{is_branch, weaker, listed_opens, labels_shorter, label_shorter, default_shorter}
use Rattle.text_build.proofs.Laws.Heads.{wider}
use Rattle.text_build.proofs.Laws.Lists.{listed_shrinks, name_shrinks}
use Rattle.text_build.proofs.Laws.Items.{is_item, item_opens, item_shorter}
use Rattle.text_build.proofs.Laws.Gates.{gates_shorter}

-- the symbols that an item may begin with after its attributes, if it stands for itself or is gates
abbrev pub is_plain : Symbol → Bool
is_plain symbol.And = true
is_plain symbol.Nand = true
is_plain symbol.Or = true
is_plain symbol.Nor = true
is_plain symbol.Xor = true
is_plain symbol.Xnor = true
is_plain symbol.Buf = true
is_plain symbol.Not = true
is_plain s = is_item s

-- if no other stands in it
abbrev pub is_alone : Symbol → Bool
is_alone symbol.Genvar = true
is_alone s = is_plain s

-- if it may have attributes
abbrev pub is_front : Symbol → Bool
is_front symbol.Generate = true
is_front s = is_alone s

-- and with those
abbrev pub is_marked : Symbol → Bool
is_marked symbol.OpenAttribute = true
is_marked s = is_front s

-- any that an item may begin with
abbrev pub is_written : Symbol → Bool
is_written symbol.If = true
is_written symbol.Case = true
is_written symbol.For = true
is_written s = is_marked s

item_plain : (s : Symbol) → is_item s ≡ true → is_plain s ≡ true
item_plain symbol.And h = refl
item_plain symbol.Nand h = refl
item_plain symbol.Or h = refl
item_plain symbol.Nor h = refl
item_plain symbol.Xor h = refl
item_plain symbol.Xnor h = refl
item_plain symbol.Buf h = refl
item_plain symbol.Not h = refl
item_plain s h = h

plain_alone : (s : Symbol) → is_plain s ≡ true → is_alone s ≡ true
plain_alone symbol.Genvar h = refl
plain_alone s h = h

alone_front : (s : Symbol) → is_alone s ≡ true → is_front s ≡ true
alone_front symbol.Generate h = refl
alone_front s h = h

front_marked : (s : Symbol) → is_front s ≡ true → is_marked s ≡ true
front_marked symbol.OpenAttribute h = refl
front_marked s h = h

marked_written : (s : Symbol) → is_marked s ≡ true → is_written s ≡ true
marked_written symbol.If h = refl
marked_written symbol.Case h = refl
marked_written symbol.For h = refl
marked_written s h = h

gate_plain : (k : GateKind) → is_plain (gate_symbol k) ≡ true
gate_plain kind.And = refl
gate_plain kind.Nand = refl
gate_plain kind.Or = refl
gate_plain kind.Nor = refl
gate_plain kind.Xor = refl
gate_plain kind.Xnor = refl
gate_plain kind.Buf = refl
gate_plain kind.Not = refl

pub gates_open : (at : ℕ) (g : GateKind) (p : Option GatePause) (xs : List Gate) (ts rest : List Terminal) → IsUnmarked (Primitives at g p xs) ts rest → Opens is_plain ts
gates_open at g p xs ts rest w = let v = w.1 in opens_by is_plain (gate_symbol g) ts w.0 v.0 v.1 v.2.0 (gate_plain g)

-- no other stands in an item
abbrev pub holds_none : WrittenItem → Bool
holds_none (Plain i) = true
holds_none (Primitives at g p xs) = true
holds_none (Genvars at names) = true
holds_none (Region at items) = false
holds_none (If at condition taken) = false
holds_none (IfElse at condition taken otherwise) = false
holds_none (Case at selector all) = false
holds_none (For at index start condition stepped step body) = false

pub alone_opens : (x : WrittenItem) (ts rest : List Terminal) → holds_none x ≡ true → IsUnmarked x ts rest → Opens is_alone ts
alone_opens (Plain i) ts rest a w = wider is_plain is_alone plain_alone ts (wider is_item is_plain item_plain ts (item_opens i ts rest w))
alone_opens (Primitives at g p xs) ts rest a w = wider is_plain is_alone plain_alone ts (gates_open at g p xs ts rest w)
alone_opens (Genvars at names) ts rest a w = let v = w.1 in opens_by is_alone symbol.Genvar ts w.0 v.0 v.1 v.2.0 refl
alone_opens (Region at items) ts rest a w = absurd (cc)
alone_opens (If at condition taken) ts rest a w = absurd (cc)
alone_opens (IfElse at condition taken otherwise) ts rest a w = absurd (cc)
alone_opens (Case at selector all) ts rest a w = absurd (cc)
alone_opens (For at index start condition stepped step body) ts rest a w = absurd (cc)

-- an item that may have attributes, after them
pub front_opens : (x : WrittenItem) (ts rest : List Terminal) → takes_attributes x ≡ true → IsUnmarked x ts rest → Opens is_front ts
front_opens (Plain i) ts rest a w = wider is_alone is_front alone_front ts (alone_opens (Plain i) ts rest refl w)
front_opens (Primitives at g p xs) ts rest a w = wider is_alone is_front alone_front ts (alone_opens (Primitives at g p xs) ts rest refl w)
front_opens (Genvars at names) ts rest a w = wider is_alone is_front alone_front ts (alone_opens (Genvars at names) ts rest refl w)
front_opens (Region at items) ts rest a w = let v = w.1 in opens_by is_front symbol.Generate ts w.0 v.0 v.1 v.2.0 refl
front_opens (If at condition taken) ts rest a w = absurd (cc)
front_opens (IfElse at condition taken otherwise) ts rest a w = absurd (cc)
front_opens (Case at selector all) ts rest a w = absurd (cc)
front_opens (For at index start condition stepped step body) ts rest a w = absurd (cc)

-- and with them
pub marked_opens : (x : WrittenItem) (m : List (List Identifier)) (ts mid rest : List Terminal) → takes_attributes x ≡ true → AreAttributes m ts mid → IsUnmarked x mid rest → Opens is_marked ts
marked_opens x [] ts mid rest a w v = wider is_front is_marked front_marked ts (subst (Opens is_front) (sym w) (front_opens x mid rest a v))
marked_opens x (ns ∷ m) ts mid rest a w v = let y = w.1 in let z = y.1 in opens_by is_marked symbol.OpenAttribute ts y.0 z.0 z.1 z.2 refl

attributed_opens : (x : WrittenItem) (ts rest : List Terminal) → takes_attributes x ≡ true → MarkedIf true (IsUnmarked x) ts rest → Opens is_written ts
attributed_opens x ts rest a w = let v = w.1 in wider is_marked is_written marked_written ts (marked_opens x w.0 ts v.0 rest a v.1 v.2)

pub written_opens : (x : WrittenItem) (ts rest : List Terminal) → IsWritten x ts rest → Opens is_written ts
written_opens (Plain i) ts rest w = attributed_opens (Plain i) ts rest refl w
written_opens (Primitives at g p xs) ts rest w = attributed_opens (Primitives at g p xs) ts rest refl w
written_opens (Genvars at names) ts rest w = attributed_opens (Genvars at names) ts rest refl w
written_opens (Region at items) ts rest w = attributed_opens (Region at items) ts rest refl w
written_opens (If at condition taken) ts rest w = let x = w.1 in opens_by is_written symbol.If ts w.0 x.0 x.1 x.2.0 refl
written_opens (IfElse at condition taken otherwise) ts rest w = let y = w.1 in let x = y.1 in opens_by is_written symbol.If ts y.0 x.0 x.1 x.2.0 refl
written_opens (Case at selector all) ts rest w = let y = w.1 in let x = y.1 in opens_by is_written symbol.Case ts y.0 x.0 x.1 x.2.0 refl
written_opens (For at index start condition stepped step body) ts rest w = let x = w.1 in opens_by is_written symbol.For ts w.0 x.0 x.1 x.2.0 refl

start_branch : (s : Symbol) → is_start s ≡ true → is_branch s ≡ true
start_branch symbol.Default h = refl
start_branch s h = h

pub choice_opens : (x : GenerateChoice) (ts rest : List Terminal) → IsChoice x ts rest → Opens is_branch ts
choice_opens (Labelled labels body) ts rest w = weaker is_start is_branch start_branch ts (listed_opens labels ts w.0 w.1)
choice_opens (Default at body) ts rest w = let x = w.1 in opens_by is_branch symbol.Default ts w.0 x.0 x.1 x.2.0 refl

-- ---- nothing is longer after it was read

marked_shorter : (o : Bool) (p : Spelling) → Consumes p → Consumes (MarkedIf o p)
marked_shorter true p c ts rest w = let v = w.1 in omega (arith, attributes_shorter w.0 ts v.0 v.1, c v.0 rest v.2)
marked_shorter false p c ts rest w = c ts rest w

mutual
  unmarked_shorter : (x : WrittenItem) (ts rest : List Terminal) → IsUnmarked x ts rest → length rest < length ts
  unmarked_shorter (Plain i) ts rest w = item_shorter i ts rest w
  unmarked_shorter (Primitives at g p xs) ts rest w = gates_shorter at g p xs ts rest w
  unmarked_shorter (Genvars at names) ts rest w =
      let a = w.2 in omega (arith, ap length w.1.1, listed_shrinks IsName name_shrinks names w.0 a.0 a.1, ap length a.2.1)
  unmarked_shorter (Region at items) ts rest w =
      let a = w.2 in omega (arith, ap length w.1.1, items_shorter items w.0 a.0 a.1, ap length a.2.1)
  unmarked_shorter (If at x t) ts rest w =
      let a = w.2 in let b = a.2 in let c = b.2 in
      omega (arith, ap length w.1.1, ap length a.1.1, formula_shorter 12 x a.0 b.0 b.1, ap length c.1.1, made_shorter t c.0 rest c.2)
  unmarked_shorter (IfElse at x t o) ts rest w =
      let v = w.1 in let a = v.2 in let b = a.2 in let c = b.2 in let e = c.2 in let f = e.2 in
      omega (
        arith,
        ap length v.1.1,
        ap length a.1.1,
        formula_shorter 12 x a.0 b.0 b.1,
        ap length c.1.1,
        made_shorter t c.0 e.0 e.1,
        ap length f.1.1,
        made_shorter o f.0 rest f.2,
      )
  unmarked_shorter (Case at s cs) ts rest w =
      let v = w.1 in let a = v.2 in let b = a.2 in let c = b.2 in let e = c.2 in
      omega (arith, ap length v.1.1, ap length a.1.1, formula_shorter 12 s a.0 b.0 b.1, ap length c.1.1, choices_shorter cs c.0 e.0 e.1, ap length e.2.1)
  unmarked_shorter (For at i s x n e body) ts rest w =
      let a = w.2 in let b = a.2 in let c = b.2 in let f = c.2 in let g = f.2 in let h = g.2 in let j = h.2 in let k = j.2 in let l = k.2 in let o = l.2 in let q = o.2 in
      omega (
        arith,
        ap length w.1.1,
        ap length a.1.1,
        ap length b.1.1,
        ap length c.1.1,
        formula_shorter 12 s c.0 f.0 f.1,
        ap length g.1.1,
        formula_shorter 12 x g.0 h.0 h.1,
        ap length j.1.1,
        ap length k.1.1,
        ap length l.1.1,
        formula_shorter 12 e l.0 o.0 o.1,
        ap length q.1.1,
        made_shorter body q.0 rest q.2,
      )

  items_shorter : (all : WrittenItems) (ts rest : List Terminal) → AreWritten all ts rest → length rest ≤ length ts
  items_shorter no_items ts rest w = omega (arith, ap length w)
  items_shorter (more_items x all) ts rest w =
      omega (arith, marked_shorter (takes_attributes x) (IsUnmarked x) (λ us vs v. unmarked_shorter x us vs v) ts w.0 w.1, items_shorter all w.0 rest w.2)

  made_shorter : (b : GenerateBlock) (ts rest : List Terminal) → IsMade b ts rest → length rest < length ts
  made_shorter (Null at) ts rest w = omega (arith, ap length w.1)
  made_shorter (Single x) ts rest w = marked_shorter (takes_attributes x) (IsUnmarked x) (λ us vs v. unmarked_shorter x us vs v) ts rest w
  made_shorter (Block at l all) ts rest w =
      let a = w.2 in let b = a.2 in omega (arith, ap length w.1.1, label_shorter l w.0 a.0 a.1, items_shorter all a.0 b.0 b.1, ap length b.2.1)

  choice_shorter : (x : GenerateChoice) (ts rest : List Terminal) → IsChoice x ts rest → length rest < length ts
  choice_shorter (Labelled labels body) ts rest w =
      let a = w.2 in omega (arith, labels_shorter labels ts w.0 w.1, ap length a.1.1, made_shorter body a.0 rest a.2)
  choice_shorter (Default at body) ts rest w =
      let a = w.2 in omega (arith, ap length w.1.1, default_shorter w.0 a.0 a.1, made_shorter body a.0 rest a.2)

  choices_shorter : (all : GenerateChoices) (ts rest : List Terminal) → AreChoices all ts rest → length rest ≤ length ts
  choices_shorter no_choices ts rest w = absurd w
  choices_shorter (more_choices x all) ts rest w = omega (arith, choice_shorter x ts w.0 w.1, more_choices_shorter all w.0 rest w.2)

  more_choices_shorter : (all : GenerateChoices) (ts rest : List Terminal) → AreMoreChoices all ts rest → length rest ≤ length ts
  more_choices_shorter no_choices ts rest w = omega (arith, ap length w)
  more_choices_shorter (more_choices x all) ts rest w = omega (arith, choice_shorter x ts w.0 w.1, more_choices_shorter all w.0 rest w.2)

pub written_shorter : (x : WrittenItem) → Consumes (IsWritten x)
written_shorter x ts rest w = marked_shorter (takes_attributes x) (IsUnmarked x) (λ us vs v. unmarked_shorter x us vs v) ts rest w

pub choice_consumes : (x : GenerateChoice) → Consumes (IsChoice x)
choice_consumes x ts rest w = choice_shorter x ts rest w
