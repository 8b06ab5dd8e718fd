-- What the tests of a text and of its modules say.
use Rattle.std.proofs.Common.{◌≡◌, ℕ, zero, suc, ◌≤◌, Bool, true, false, ◌&&◌, not, if◌then◌else◌, List, [], ◌∷◌, Option, None, Some, refl, sym, ap, ◌∙◌, arith}
use Rattle.std.specs.List.{list_all}
use Rattle.std.proofs.lemmas.Bool.{leb-true}
use denote.Enum.Bare.{sameb}
use Rattle.rtl_tree.specs.contracts.symbol.Symbol.{the_type}
use Rattle.rtl_tree.specs.declared.symbol.Symbol.{Symbol}
use Rattle.rtl_tree.specs.declared.symbol.Symbol.TheVariants as symbol
use Rattle.text_grammar.specs.declared.nesting.TheConstants.{MAX_NESTING}
use Rattle.rtl_tree.specs.Symbols.{Terminal}
use Rattle.rtl_tree.specs.TreeExpr.{Formula}
use Rattle.rtl_tree.specs.TreeStmt.{Action, Null, Delayed, Assign, If, IfElse, Case, For, Block, Actions, no_actions, more_actions, Branch, Labelled, Default, Branches, no_branches, more_branches}
use Rattle.rtl_tree.specs.TreeItem.{Association, ByPosition, ByName, ModuleItem, Ports, Nets, Variables, Integers, Parameters, Drives, Gates, Always, Instances}
use Rattle.rtl_tree.specs.TreeWritten.{WrittenItem, Plain, Primitives, Genvars, Region}
use Rattle.rtl_tree.specs.TreeWritten as generate
use Rattle.rtl_tree.specs.TreeModule.{HeaderParameter, Heading, WrittenCircuit}
use Rattle.text_grammar.specs.Depth.{depth, greatest}
use Rattle.text_grammar.specs.GrammarStmt.{defaults}
use Rattle.text_grammar.specs.GrammarItem.{IsMoreThanEmpty}
use Rattle.text_grammar.specs.GrammarGate.{has_one_input, is_named, AreTerminals}
use Rattle.text_grammar.specs.GrammarModule.{IsThere}
use Rattle.text_build.specs.Reading.{same_symbol}
use Rattle.text_build.specs.Sound.{IsPlain}
use Rattle.text_build.specs.Proper.{HasItem, IsProper, AreProper, IsProperBranch, AreProperBranches}
use Rattle.text_build.specs.ProperModule.{Each, AreProperArguments, IsProperVariable, IsProperItem, IsProperGate, IsProperWritten, AreProperParameters, IsProperCircuit}
use Rattle.text_build.specs.Ordinary.{needs_survey, is_ordinary_in}
use Rattle.text_build.specs.declared.ordinary.TheConstants.{MOST_TOKENS}
use Rattle.text_build.specs.Tests.{has_item, is_proper, are_proper, is_proper_branch, are_proper_branches, has_value, are_proper_arguments, has_no_value, is_proper_item, are_terminals, is_proper_gate, is_proper_written, has_heading, has_first_heading, is_proper_circuit}
use Rattle.text_build.specs.Certain.{ReadingsAreCertain}
use Rattle.text_build.proofs.Laws.Tokens.{symbol_same}
use Rattle.text_build.proofs.CertainModules.{texts}
use Rattle.text_build.proofs.Shallow.{all_shallow}

left : (a b : Bool) → (a && b) ≡ true → a ≡ true
left true b e = refl
left false b e = e

right : (a b : Bool) → (a && b) ≡ true → b ≡ true
right true b e = e
right false b e = absurd (cc)

-- ---- statements

some_item : (branches : Branches) → has_item branches ≡ true → HasItem branches
some_item no_branches e = absurd (cc)
some_item (more_branches first others) e = tt

mutual
  proper : (a : Action) → is_proper a ≡ true → IsProper a
  proper (Null at) e = tt
  proper (Delayed pause body) e = proper body e
  proper (Assign target kind pause value) e = tt
  proper (If at condition taken) e = proper taken e
  proper (IfElse at condition taken otherwise) e =
      (proper taken (left (is_proper taken) (is_proper otherwise) e), proper otherwise (right (is_proper taken) (is_proper otherwise) e))
  proper (Case at kind full parallel selector branches) e =
      let both = left _ (are_proper_branches branches) e in
      (some_item branches (left (has_item branches) _ both), leb-true (defaults branches) 1 (right (has_item branches) _ both), proper_branches branches (right _ (are_proper_branches branches) e))
  proper (For at index start condition stepped step body) e = proper body e
  proper (Block at label body) e = all_proper body e

  all_proper : (actions : Actions) → are_proper actions ≡ true → AreProper actions
  all_proper no_actions e = tt
  all_proper (more_actions first others) e =
      (proper first (left (is_proper first) (are_proper others) e), all_proper others (right (is_proper first) (are_proper others) e))

  proper_branch : (b : Branch) → is_proper_branch b ≡ true → IsProperBranch b
  proper_branch (Labelled labels body) e = proper body e
  proper_branch (Default at body) e = proper body e

  proper_branches : (branches : Branches) → are_proper_branches branches ≡ true → AreProperBranches branches
  proper_branches no_branches e = tt
  proper_branches (more_branches first others) e =
      (proper_branch first (left (is_proper_branch first) (are_proper_branches others) e), proper_branches others (right (is_proper_branch first) (are_proper_branches others) e))

-- ---- modules

each : {A : Type 0} (test : A → Bool) (P : A → Type 0) → ((x : A) → test x ≡ true → P x) → (xs : List A) → list_all test xs ≡ true → Each P xs
each test P h [] e = tt
each test P h (x ∷ xs) e = (h x (left (test x) (list_all test xs) e), each test P h xs (right (test x) (list_all test xs) e))

none : (b : Bool) → not b ≡ true → b ≡ false
none true e = absurd (cc)
none false e = refl

valued : (at : ℕ) (o : Option Formula) → has_value o ≡ true → IsMoreThanEmpty (record { at = at; value = o } ∷ [])
valued at None e = absurd (cc)
valued at (Some value) e = tt

arguments : (a : Association) → are_proper_arguments a ≡ true → AreProperArguments a
arguments (ByPosition []) e = tt
arguments (ByPosition (argument ∷ [])) e = valued argument.at argument.value e
arguments (ByPosition (argument ∷ next ∷ others)) e = tt
arguments (ByName all) e = tt

item : (i : ModuleItem) → is_proper_item i ≡ true → IsProperItem i
item (Ports head names) e = tt
item (Nets at signed bounds nets) e = tt
item (Variables at signed bounds variables) e =
    each has_no_value IsProperVariable (λ v k. none v.initial k) variables e
item (Integers at names) e = tt
item (Parameters at kind bounds values) e = tt
item (Drives at pause drives) e = tt
item (Gates at names pause drives) e = absurd (cc)
item (Always at sensitivity body) e = proper body e
item (Instances child parameters instantiations) e = arguments parameters e

terminals : (one : Bool) (fs : List Formula) → are_terminals one fs ≡ true → AreTerminals one fs
terminals false fs e = tt
terminals true [] e = tt
terminals true (f ∷ []) e = tt
terminals true (f ∷ g ∷ fs) e = (left (is_named f) (are_terminals true (g ∷ fs)) e, terminals true (g ∷ fs) (right (is_named f) (are_terminals true (g ∷ fs)) e))

written : (i : WrittenItem) → is_proper_written i ≡ true → IsProperWritten i
written (Plain i) e = item i e
written (Primitives at kind pause gates) e =
    each (is_proper_gate (has_one_input kind)) (IsProperGate (has_one_input kind)) (λ g k. terminals (has_one_input kind) g.terminals k) gates e
written (Genvars at names) e = tt
written (Region at items) e = absurd (cc)
written (generate.If at condition taken) e = absurd (cc)
written (generate.IfElse at condition taken otherwise) e = absurd (cc)
written (generate.Case at selector all) e = absurd (cc)
written (generate.For at index start condition stepped step body) e = absurd (cc)

there : (o : Option Heading) → has_heading o ≡ true → IsThere o
there None e = absurd (cc)
there (Some heading) e = tt

heads : (ps : List HeaderParameter) → has_first_heading ps ≡ true → AreProperParameters ps
heads [] e = tt
heads (p ∷ ps) e = there p.heading e

module_of : (c : WrittenCircuit) → is_proper_circuit c ≡ true → IsProperCircuit c × (depth c ≤ MAX_NESTING)
module_of c e =
    let both = left _ (list_all is_proper_written c.items) e in (
      (heads c.parameters (right _ (has_first_heading c.parameters) both), each is_proper_written IsProperWritten written c.items (right _ (list_all is_proper_written c.items) e)),
      leb-true (depth c) MAX_NESTING (left _ (has_first_heading c.parameters) both),
    )

modules : (cs : List WrittenCircuit) → list_all is_proper_circuit cs ≡ true → Each IsProperCircuit cs × (greatest depth cs ≤ MAX_NESTING)
modules [] e = (tt, omega arith)
modules (c ∷ cs) e =
    let first = module_of c (left (is_proper_circuit c) (list_all is_proper_circuit cs) e) in
    let others = modules cs (right (is_proper_circuit c) (list_all is_proper_circuit cs) e) in
    ((first.0, others.0), omega (arith, first.1, others.1))

-- ---- texts

-- what needs no survey begins no attributes
differ_by : (s : Symbol) (o : Bool) → needs_survey s ≡ false → same_symbol s symbol.OpenAttribute ≡ o → same_symbol s symbol.OpenAttribute ≡ false
differ_by s true k e = let w : true ≡ false = sym (ap needs_survey (symbol_same s symbol.OpenAttribute e)) ∙ k in absurd (cc)
differ_by s false k e = e

no_marks : (s : Symbol) → needs_survey s ≡ false → same_symbol s symbol.OpenAttribute ≡ false
no_marks s k = differ_by s (same_symbol s symbol.OpenAttribute) k refl

-- the others are plain by either count
plain_by : (n : ℕ) (t : Terminal) (ts : List Terminal) (a s : Bool) → (is_ordinary_in MOST_TOKENS ts ≡ true → IsPlain ts) → (is_ordinary_in n ts ≡ true → IsPlain ts)
    → needs_survey t.symbol ≡ a → (if a then false else if s then is_ordinary_in MOST_TOKENS ts else is_ordinary_in n ts) ≡ true → IsPlain (t ∷ ts)
plain_by n t ts true s f g k e = absurd (cc)
plain_by n t ts false true f g k e = (no_marks t.symbol k, f e)
plain_by n t ts false false f g k e = (no_marks t.symbol k, g e)

plain : (n : ℕ) (ts : List Terminal) → is_ordinary_in n ts ≡ true → IsPlain ts
plain n [] e = tt
plain zero (t ∷ ts) e = absurd (cc)
plain (suc n) (t ∷ ts) e =
    plain_by n t ts (needs_survey t.symbol) (sameb the_type t.symbol symbol.Semicolon) (plain MOST_TOKENS ts) (plain n ts) refl e

pub certain : ReadingsAreCertain
certain regions tokens cs ordinary read tested =
    let all = modules cs tested in
    (texts MAX_NESTING regions tokens cs (plain MOST_TOKENS tokens ordinary) read all.0, all_shallow cs all.1)
