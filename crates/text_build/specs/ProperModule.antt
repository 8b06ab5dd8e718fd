-- It serves laws; no answer of the program is stated by it.
-- What the grammar asks of a module and the builder doesn't test.
use Rattle.std.specs.Prelude.{◌≡◌, Bool, false, List, [], ◌∷◌}
use Rattle.rtl_tree.specs.TreeItem.{Association, ByPosition, ByName, Variable, ModuleItem, Ports, Nets, Variables, Integers, Parameters, Drives, Gates, Always, Instances}
use Rattle.rtl_tree.specs.TreeGate.{Gate}
use Rattle.rtl_tree.specs.TreeWritten.{WrittenItem, Plain, Primitives, Genvars, Region, If, IfElse, Case, For}
use Rattle.rtl_tree.specs.TreeModule.{HeaderParameter, WrittenCircuit}
use Rattle.text_grammar.specs.GrammarItem.{IsMoreThanEmpty}
use Rattle.text_grammar.specs.GrammarGate.{has_one_input, AreTerminals}
use Rattle.text_grammar.specs.GrammarModule.{IsThere}
use Rattle.text_build.specs.Proper.{IsProper}

-- this holds of each
abbrev pub Each : {A : Type 0} → (A → Type 0) → List A → Type 0
Each P [] = Unit {0}
Each P (x ∷ xs) = P x × Each P xs

-- parameters that an instance sets by position are more than one that is empty
abbrev pub AreProperArguments : Association → Type 0
AreProperArguments (ByPosition []) = Unit {0}
AreProperArguments (ByPosition (argument ∷ arguments)) = IsMoreThanEmpty (argument ∷ arguments)
AreProperArguments (ByName arguments) = Unit {0}

-- no value that the builder passes over
abbrev pub IsProperVariable : Variable → Type 0
IsProperVariable v = v.initial ≡ false

-- no variable has an initial value, cases are proper, and so are the parameters that an instance sets; what gates drive isn't read
abbrev pub IsProperItem : ModuleItem → Type 0
IsProperItem (Ports head names) = Unit {0}
IsProperItem (Nets at signed bounds nets) = Unit {0}
IsProperItem (Variables at signed bounds variables) = Each IsProperVariable variables
IsProperItem (Integers at names) = Unit {0}
IsProperItem (Parameters at kind bounds values) = Unit {0}
IsProperItem (Drives at pause drives) = Unit {0}
IsProperItem (Gates at names pause drives) = ⊥
IsProperItem (Always at sensitivity body) = IsProper body
IsProperItem (Instances child parameters instantiations) = AreProperArguments parameters

-- where a gate has one input, its other terminals may be outputs
abbrev pub IsProperGate : Bool → Gate → Type 0
IsProperGate one gate = AreTerminals one gate.terminals

-- no construct, as its parts aren't told of
abbrev pub IsProperWritten : WrittenItem → Type 0
IsProperWritten (Plain item) = IsProperItem item
IsProperWritten (Primitives at kind pause gates) = Each (IsProperGate (has_one_input kind)) gates
IsProperWritten (Genvars at names) = Unit {0}
IsProperWritten (Region at items) = ⊥
IsProperWritten (If at condition taken) = ⊥
IsProperWritten (IfElse at condition taken otherwise) = ⊥
IsProperWritten (Case at selector all) = ⊥
IsProperWritten (For at index start condition stepped step body) = ⊥

-- the first parameter in the head of a module stands after `parameter`
abbrev pub AreProperParameters : List HeaderParameter → Type 0
AreProperParameters [] = Unit {0}
AreProperParameters (parameter ∷ parameters) = IsThere parameter.heading

abbrev pub IsProperCircuit : WrittenCircuit → Type 0
IsProperCircuit c = AreProperParameters c.parameters × Each IsProperWritten c.items
