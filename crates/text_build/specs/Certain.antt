-- It serves inner contracts and proofs; no answer of the program is stated by it.
-- What tests of a text and of the modules that were read of it say.
use Rattle.std.specs.Prelude.{◌≡◌, true, List, [], Some}
use Rattle.std.specs.List.{list_all}
use Rattle.text_ground.specs.declared.dropped.Dropped.{Dropped}
use Rattle.text_grammar.specs.declared.nesting.TheConstants.{MAX_NESTING}
use Rattle.rtl_tree.specs.Symbols.{Terminal}
use Rattle.rtl_tree.specs.TreeModule.{WrittenCircuit}
use Rattle.text_grammar.specs.GrammarModule.{AreSpelled}
use Rattle.text_grammar.specs.Deeper.{too_deep}
use Rattle.text_build.specs.ReadingModule.{circuits}
use Rattle.text_build.specs.Ordinary.{is_ordinary}
use Rattle.text_build.specs.Tests.{is_proper_circuit}

-- proper modules that were read of an ordinary text are spelled by it, and hold nothing that is nested too deep
abbrev pub ReadingsAreCertain : Type 0
ReadingsAreCertain =
    (regions : List Dropped) (tokens : List Terminal) (cs : List WrittenCircuit) → is_ordinary tokens ≡ true →
    circuits MAX_NESTING regions tokens ≡ Some (cs, []) → list_all is_proper_circuit cs ≡ true →
    AreSpelled regions tokens cs × (too_deep cs ≡ [])
