-- It serves inner contracts and proofs; no answer of the program is stated by it.
-- What the builder answers for a text that is spelled.
use Rattle.std.specs.Prelude.{◌≡◌, List, map, Result, Ok, Err, Vec}
use Rattle.std.specs.declared.alloc.Global.{Global}
use Rattle.rtl_tree.specs.declared.tree.modules.WrittenModule.{WrittenModule}
use Rattle.text_ground.specs.declared.dropped.Dropped.{Dropped}
use Rattle.rtl_tree.specs.Symbols.{Terminal}
use Rattle.rtl_tree.specs.TreeModule.{WrittenCircuit, written_circuit}
use Rattle.text_grammar.specs.GrammarModule.{AreSpelled}
use Rattle.text_build.specs.declared.fault.BuildFault.{BuildFault}
use Rattle.text_build.specs.declared.fault.BuildFault.TheVariants.{NotSpelled, Memory}

-- just these modules, unless memory runs out
abbrev pub IsBuilt : List WrittenCircuit → Result (Vec WrittenModule Global) BuildFault → Type 0
IsBuilt cs (Ok modules) = map written_circuit modules.items ≡ cs
IsBuilt cs (Err NotSpelled) = ⊥
IsBuilt cs (Err Memory) = Unit {0}

-- no tokens spell two lists of modules
abbrev pub SpelledOnce : Type 0
SpelledOnce =
    (regions : List Dropped) (tokens : List Terminal) (a b : List WrittenCircuit) → AreSpelled regions tokens a → AreSpelled regions tokens b → a ≡ b
