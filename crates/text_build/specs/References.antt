-- It serves inner contracts and proofs; no answer of the program is stated by it.
-- The plain form of names with a selection, as the code holds them.
use Rattle.rtl_tree.specs.TreeExpr.{Formula, Identifier, identifier, formula}
use Rattle.text_build.specs.declared.reference.Reference.{Reference}
use Rattle.text_build.specs.declared.reference.Reference.TheVariants as written
use Rattle.text_build.specs.declared.reference.Step.{Step}
use Rattle.text_build.specs.ReadingExpr as reading

abbrev pub reference : Reference → reading.Reference
reference (written.Whole name) = reading.whole (identifier name)
reference (written.Bit name index) = reading.bit (identifier name) (formula index.value)
reference (written.Part name kind first second) = reading.part (identifier name) kind (formula first.value) (formula second.value)

abbrev pub step : Step → Identifier × Formula
step held = (identifier held.name, formula held.value.value)
