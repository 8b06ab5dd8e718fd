-- It serves laws; no answer of the program is stated by it.
-- When what the builder reads of a whole text is what the grammar spells.
use Rattle.std.specs.Prelude.{◌≡◌, ℕ, List, [], Some}
use Rattle.text_ground.specs.declared.dropped.Dropped.{Dropped}
use Rattle.rtl_tree.specs.Symbols.{Terminal}
use Rattle.rtl_tree.specs.TreeModule.{WrittenCircuit}
use Rattle.text_grammar.specs.GrammarModule.{AreSpelled}
use Rattle.text_build.specs.ReadingModule.{circuits}
use Rattle.text_build.specs.Sound.{IsPlain}
use Rattle.text_build.specs.ProperModule.{Each, IsProperCircuit}

-- proper modules that were read of a whole text with no attributes are spelled by it
abbrev pub TextsAreSound : Type 0
TextsAreSound =
    (d : ℕ) (regions : List Dropped) (tokens : List Terminal) (cs : List WrittenCircuit) →
    IsPlain tokens → circuits d regions tokens ≡ Some (cs, []) → Each IsProperCircuit cs → AreSpelled regions tokens cs
