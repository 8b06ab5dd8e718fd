-- It serves laws; no answer of the program is stated by it.
-- How the two measures of nesting agree.
use Rattle.std.specs.Prelude.{◌≡◌, ◌≤◌, List, []}
use Rattle.text_grammar.specs.Deeper.{too_deep}
use Rattle.text_grammar.specs.Depth.{greatest, depth}
use Rattle.rtl_tree.specs.TreeModule.{WrittenCircuit}
use Rattle.text_grammar.specs.declared.nesting.TheConstants.{MAX_NESTING}

-- modules that are shallow enough hold nothing that is nested too deep
abbrev pub ShallowIsNotTooDeep : Type 0
ShallowIsNotTooDeep = (cs : List WrittenCircuit) → greatest depth cs ≤ MAX_NESTING → too_deep cs ≡ []
