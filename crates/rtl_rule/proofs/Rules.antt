-- What holds of each rule in the table holds of every rule.
use Rattle.std.proofs.Common.{◌≡◌, ◌∙◌, ℕ, zero, suc, not, ◌||◌, Bool, true, false, List, [], ◌∷◌, Option, None, Some, nat_eq, refl, sym, ap}
use Rattle.std.specs.Bool.{Decides}
use Rattle.std.specs.List.{list_all, slice_get}
use Rattle.std.proofs.lemmas.Bool.{and_parts, eqb-true}
use Rattle.std.proofs.lemmas.Bool.Decides.{Decides-eqb, Decides-like}
use denote.Enum.Bare.{sameb}
use Rattle.rtl_rule.specs.contracts.rule.Rule.{the_type}
use Rattle.rtl_rule.specs.declared.rule.Rule.{Rule}
use Rattle.rtl_rule.specs.declared.rule.Rule.TheVariants.{SenseMissing, NeverWakes, MixedEdges, BlockingState, NonblockingComb, MixedAssign, SeveralDrivers, Undriven, CombLoop, DerivedClock, ClockAsData, LatchInferred, Tristate, ResetShape, ResetPolarity, AsyncPair, ResetValue, FullCase, ParallelCase, UnknownItem, UnknownLiteral, SelectRange, DivideVariable, CaseEquality, DelayIgnored, InitialIgnored, TranslateOff, XOptimism, WildSelector, ParameterFormat, ConstantValue, PortContext, CaseSigns, TargetIndex, ListIndex, ToolMacro, PragmaWords, UnsizedNumber, PortSign, LateParameter, WholeSelect, LoopSign}
use Rattle.rtl_rule.specs.Rows.{is_needed, row_of, rule_number, rule_with, rules}

-- a rule stands at its place in the table
pub at_place : (rule : Rule) → slice_get rules (rule_number rule) ≡ Some rule
at_place SenseMissing = refl
at_place NeverWakes = refl
at_place MixedEdges = refl
at_place BlockingState = refl
at_place NonblockingComb = refl
at_place MixedAssign = refl
at_place SeveralDrivers = refl
at_place Undriven = refl
at_place CombLoop = refl
at_place DerivedClock = refl
at_place ClockAsData = refl
at_place LatchInferred = refl
at_place Tristate = refl
at_place ResetShape = refl
at_place ResetPolarity = refl
at_place AsyncPair = refl
at_place ResetValue = refl
at_place FullCase = refl
at_place ParallelCase = refl
at_place UnknownItem = refl
at_place UnknownLiteral = refl
at_place SelectRange = refl
at_place DivideVariable = refl
at_place CaseEquality = refl
at_place DelayIgnored = refl
at_place InitialIgnored = refl
at_place TranslateOff = refl
at_place XOptimism = refl
at_place WildSelector = refl
at_place ParameterFormat = refl
at_place ConstantValue = refl
at_place PortContext = refl
at_place CaseSigns = refl
at_place TargetIndex = refl
at_place ListIndex = refl
at_place ToolMacro = refl
at_place PragmaWords = refl
at_place UnsizedNumber = refl
at_place PortSign = refl
at_place LateParameter = refl
at_place WholeSelect = refl
at_place LoopSign = refl

passes_at : (test : Rule → Bool) (all : List Rule) (n : ℕ) (rule : Rule) → list_all test all ≡ true → slice_get all n ≡ Some rule → test rule ≡ true
passes_at test [] n rule each there = absurd (cc)
passes_at test (first ∷ others) zero rule each there =
    let (here, rest) = and_parts (test first) (list_all test others) each in cc
passes_at test (first ∷ others) (suc n) rule each there =
    passes_at test others n rule (and_parts (test first) (list_all test others) each).1 there

-- a test that each rule of the table passes holds of every rule
pub every_rule : (test : Rule → Bool) → list_all test rules ≡ true → (rule : Rule) → test rule ≡ true
every_rule test each rule = passes_at test rules (rule_number rule) rule each (at_place rule)

same_some : {A : Type 0} (x y : A) → Some x ≡ Some y → x ≡ y
same_some x y same = cc

-- rules at one place are one
pub same_rule : (one other : Rule) → rule_number one ≡ rule_number other → one ≡ other
same_rule one other same =
    same_some one other (sym (at_place one) ∙ ap (slice_get rules) same ∙ at_place other)

pub number_tells : (one other : Rule) → Decides (nat_eq (rule_number one) (rule_number other)) (one ≡ other)
number_tells one other =
    Decides-like _ (same_rule one other) (λ same. ap rule_number same)
    (Decides-eqb (rule_number one) (rule_number other))

-- rules are compared by their places
pub compared : (one other : Rule) → sameb the_type one other ≡ nat_eq (rule_number one) (rule_number other)
compared one other = refl

-- each code of the table finds its rule
abbrev is_found : Option Rule → Rule → Bool
is_found None rule = false
is_found (Some found) rule = nat_eq (rule_number found) (rule_number rule)

found_is : (found : Option Rule) (rule : Rule) → is_found found rule ≡ true → found ≡ Some rule
found_is None rule is = absurd (cc)
found_is (Some found) rule is = ap Some (same_rule found rule (eqb-true _ _ is))

pub coded : (rule : Rule) → rule_with (row_of rule).code ≡ Some rule
coded rule =
    found_is (rule_with (row_of rule).code) rule (every_rule (λ one. is_found (rule_with (row_of one).code) one) refl rule)

-- the rules on which agreement stands are of the first grade
pub needed_first : (rule : Rule) → is_needed rule ≡ true → (row_of rule).first_grade ≡ true
needed_first rule is =
    by_test (is_needed rule) (row_of rule).first_grade (every_rule (λ one. not (is_needed one) || (row_of one).first_grade) refl rule) is
  where
    by_test : (needed first : Bool) → (not needed || first) ≡ true → needed ≡ true → first ≡ true
    by_test true first passes is' = passes
    by_test false first passes is' = absurd (cc)
